-- Of names that are apart, each is found at its place.
use Rattle.std.proofs.Common.{◌≡◌, ℕ, zero, suc, ◌<◌, Bool, true, false, cond, not, ◌||◌, List, [], ◌∷◌, ◌++◌}
use Rattle.std.proofs.Common.{length, get_or, map, find, Option, Some, None, option_map, refl, sym, ap, subst, ◌∙◌}
use Rattle.std.proofs.Common.{arith}
use Rattle.std.specs.List.{list_any}
use Rattle.std.specs.Option.{option_or}
use Rattle.std.specs.Str.{bytes_eq}
use Rattle.std.specs.Cmp.{first_so, second_so}
use Rattle.std.proofs.Math.Bool.{or-true}
use Rattle.std.proofs.lemmas.Bool.{not-true}
use Rattle.std.proofs.lemmas.Slice.Eq.{bytes_eq-Decides}
use Rattle.std.proofs.lemmas.List.Folds.{find-append}
use Rattle.rt_json.specs.declared.tree.Json.{Json}
use Rattle.rt_wal.specs.declared.records.Field.{Field}
use Rattle.rt_wal.specs.Shapes.{are_distinct}
use Rattle.rt_catalog.specs.declared.catalog.Column.{Column}
use Rattle.rt_change.specs.Binding.{tree_for}
use Rattle.rt_bind.specs.Apart.{FieldsAreApart, ColumnsAreApart}

module _ {A : Type 0} (name : A → List ℕ) where
  among : (q : List ℕ) (xs : List A) (i : ℕ) (x : A) → i < length xs → x ≡ get_or xs i x → bytes_eq q (name x) ≡ true
      → list_any (bytes_eq q) (map name xs) ≡ true
  among q [] i x lt is e = absurd (omega arith)
  among q (y ∷ ys) zero x lt is e =
      let P : A → Type 0 = λ z. bytes_eq q (name z) ≡ true in
      let here : bytes_eq q (name y) ≡ true = subst P is e in
      ap (λ b. b || list_any (bytes_eq q) (map name ys)) here
  among q (y ∷ ys) (suc i) x lt is e =
      ap (λ b. bytes_eq q (name y) || b) (among q ys i x (omega arith) is e) ∙ or-true (bytes_eq q (name y))

  -- the first has another name than one behind it
  behind : (q : List ℕ) (y : A) (ys : List A) (i : ℕ) (x : A) → list_any (bytes_eq (name y)) (map name ys) ≡ false
      → i < length ys → x ≡ get_or ys i x → bytes_eq (name x) q ≡ true → (b : Bool) → bytes_eq (name y) q ≡ b
      → b ≡ false
  behind q y ys i x none lt is e false h = refl
  behind q y ys i x none lt is e true h =
      let one : name y ≡ q = (bytes_eq-Decides (name y) q).0 h in
      let two : name x ≡ q = (bytes_eq-Decides (name x) q).0 e in
      let same : name y ≡ name x = one ∙ sym two in
      let there = among (name y) ys i x lt is ((bytes_eq-Decides (name y) (name x)).1 same) in
      let no : true ≡ false = sym there ∙ none in
      absurd cc

  pub found_at : (q : List ℕ) (xs : List A) (i : ℕ) (x : A) → are_distinct (map name xs) ≡ true → i < length xs
      → x ≡ get_or xs i x → bytes_eq (name x) q ≡ true → find (λ y. bytes_eq (name y) q) xs ≡ Some x
  found_at q [] i x d lt is e = absurd (omega arith)
  found_at q (y ∷ ys) zero x d lt is e =
      let P : A → Type 0 = λ z. bytes_eq (name z) q ≡ true in
      let here : bytes_eq (name y) q ≡ true = subst P is e in
      ap (λ b. cond b (Some y) (find (λ z. bytes_eq (name z) q) ys)) here ∙ ap Some (sym is)
  found_at q (y ∷ ys) (suc i) x d lt is e =
      let twice : Bool = list_any (bytes_eq (name y)) (map name ys) in
      let once = not-true twice (first_so (not twice) (are_distinct (map name ys)) d) in
      let apart = second_so (not twice) (are_distinct (map name ys)) d in
      let within : i < length ys = omega arith in
      let no = behind q y ys i x once within is e (bytes_eq (name y) q) refl in
      ap (λ b. cond b (Some y) (find (λ z. bytes_eq (name z) q) ys)) no ∙ found_at q ys i x apart within is e

pub field_at : (q : List ℕ) (fields : List Field) (i : ℕ) (f : Field) → FieldsAreApart fields → i < length fields
    → f ≡ get_or fields i f → bytes_eq f.name q ≡ true → find (λ g. bytes_eq g.name q) fields ≡ Some f
field_at q fields i f h = found_at (λ g. g.name) q fields i f h.apart

pub column_at : (q : List ℕ) (columns seen : List Column) (i : ℕ) (col : Column) → seen ≡ columns
    → ColumnsAreApart columns → i < length seen → col ≡ get_or seen i col → bytes_eq col.name q ≡ true
    → find (λ c. bytes_eq c.name q) columns ≡ Some col
column_at q columns seen i col same h lt is e =
    found_at (λ c. c.name) q columns i col h.apart (subst (λ (l : List Column). i < length l) same lt)
    (is ∙ ap (λ (l : List Column). get_or l i col) same) e

abbrev named : List Field → Column → Option Field
named fields col = find (λ f. bytes_eq f.name col.name) fields

abbrev tree_of_field : Option Field → Option Json
tree_of_field o = option_map (λ f. f.tree) o

either_tree : (a b : Option Field) → tree_of_field (option_or a b) ≡ option_or (tree_of_field a) (tree_of_field b)
either_tree None b = refl
either_tree (Some f) b = refl

module _ (first second : List Field) (col : Column) where
  -- a tree is that of the first list, or else of the second
  tree_in_both : tree_for (first ++ second) col ≡ option_or (tree_for first col) (tree_for second col)
  tree_in_both =
      ap tree_of_field (find-append (λ f. bytes_eq f.name col.name) first second)
      ∙ either_tree (named first col) (named second col)

  abbrev with_first : Option Field → Option Json
  with_first o = option_or (tree_of_field o) (tree_for second col)

  pub from_first : (f : Field) → Some f ≡ named first col → Some f.tree ≡ tree_for (first ++ second) col
  from_first f h = sym (tree_in_both ∙ ap with_first (sym h))

  pub from_second : (f : Field) → None ≡ named first col → Some f ≡ named second col
      → Some f.tree ≡ tree_for (first ++ second) col
  from_second f n h = sym (tree_in_both ∙ ap with_first (sym n) ∙ ap tree_of_field (sym h))

  pub from_none : None ≡ named first col → None ≡ named second col → None ≡ tree_for (first ++ second) col
  from_none n h = sym (tree_in_both ∙ ap with_first (sym n) ∙ ap tree_of_field (sym h))
