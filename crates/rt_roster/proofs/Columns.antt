-- Columns shown one after another.
use Rattle.std.proofs.Common.{◌≡◌, ℕ, ◌+◌, ◌<◌, ◌≤◌, suc, List, [], ◌∷◌, ◌++◌, length, get_or, drop, map, refl, sym, ap, ◌∙◌, arith, append_assoc, drop-cons}
use Rattle.std.proofs.Math.ListN.{drop_of_length-le}
use Rattle.std.proofs.lemmas.List.{append-nil}
use Rattle.std.specs.List.{enumerate_from}
use Rattle.rt_filter.specs.declared.filter.Shown.{Shown}
use Rattle.rt_catalog.specs.declared.catalog.Catalog.{Catalog}
use Rattle.rt_catalog.specs.declared.catalog.Column.{Column}
use Rattle.rt_catalog.specs.Access.{table_at}
use Rattle.rt_registry.specs.Bindings.{shown_to}
use Rattle.rt_roster.specs.Meant.{shown_column}

-- the first element of what is left
pub at_place : {A : Type 0} (xs : List A) (i : ℕ) (x : A) → i < length xs → x ≡ get_or xs i x → drop i xs ≡ x ∷ drop (i + 1) xs
at_place xs i x h e =
    let one : suc i ≡ i + 1 = omega arith in
    drop-cons xs i x h ∙ ap (λ y. y ∷ drop (suc i) xs) (sym e) ∙ ap (λ n. x ∷ drop n xs) one

-- columns shown so far, those from i on are left
pub record IsShownUpTo (c : Catalog) (role table : ℕ) (columns : List Column) (shown : List Shown) (i : ℕ) : Type 0 where
  pub is : map (shown_column c role table) (enumerate_from 0 columns)
      ≡ shown ++ map (shown_column c role table) (enumerate_from i (drop i columns))

pub shown_none : (c : Catalog) (role table : ℕ) (columns : List Column) → IsShownUpTo c role table columns [] 0
shown_none c role table columns = record { is = refl }

pub shown_more : (c : Catalog) (role table : ℕ) (columns : List Column) (shown : List Shown) (i : ℕ) (x : Column)
    → IsShownUpTo c role table columns shown i → i < length columns → x ≡ get_or columns i x
    → IsShownUpTo c role table columns (shown ++ shown_column c role table (i, x) ∷ []) (i + 1)
shown_more c role table columns shown i x w h e = record {
  is = w.is ∙ ap (λ (l : List Column). shown ++ map (shown_column c role table) (enumerate_from i l)) (at_place columns i x h e)
      ∙ sym (append_assoc shown (shown_column c role table (i, x) ∷ [])
      (map (shown_column c role table) (enumerate_from (i + 1) (drop (i + 1) columns))));
}

pub shown_all : (c : Catalog) (role table : ℕ) (columns : List Column) (shown : List Shown) (i : ℕ)
    → IsShownUpTo c role table columns shown i → length columns ≤ i → columns ≡ (table_at c table).columns
    → shown ≡ shown_to c role table
shown_all c role table columns shown i w h e =
    sym (append-nil shown)
    ∙ ap (λ (l : List Column). shown ++ map (shown_column c role table) (enumerate_from i l)) (sym (drop_of_length-le columns h))
    ∙ sym w.is
    ∙ ap (λ (l : List Column). map (shown_column c role table) (enumerate_from 0 l)) e
