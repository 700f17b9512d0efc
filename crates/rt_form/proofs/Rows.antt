-- The members of a row, one more and all.
use Rattle.std.proofs.Common.{◌≡◌, ℕ, zero, suc, ◌+◌, ◌<◌, List, [], ◌∷◌, ◌++◌, length, take, get_or, min, refl, ap}
use Rattle.std.proofs.Common.{arith, add-one, ◌∙◌}
use Rattle.rt_json.specs.declared.tree.Json.{Json}
use Rattle.rt_json.specs.declared.tree.named.Member.{Member}
use Rattle.rt_form.specs.declared.catalogue.Column.{Column}
use Rattle.rt_json.specs.Trees.{field}
use Rattle.rt_form.specs.Messages.{row_members}

pub one_more : (columns : List Column) (values : List Json) (d : Column) (e : Json) (i : ℕ) → i < length columns
    → i < length values
    → row_members (take (suc i) columns) (take (suc i) values) ≡ row_members (take i columns) (take i values) ++ field
    (get_or columns i d).name (get_or values i e) ∷ []
one_more [] values d e i h k = absurd (omega arith)
one_more (c ∷ columns) [] d e i h k = absurd (omega arith)
one_more (c ∷ columns) (v ∷ values) d e zero h k = refl
one_more (c ∷ columns) (v ∷ values) d e (suc i) h k = ap (λ rest. field c.name v ∷ rest)
    (one_more columns values d e i (omega arith) (omega arith))

-- one turn of the walk over both
pub next_member : (columns : List Column) (values : List Json) (i : ℕ) (old new : List Member) (column : Column)
    (name : List ℕ) (item value : Json)
    → i < length columns → i < length values → old ≡ row_members (take i columns) (take i values)
    → item ≡ get_or values i item
    → name ≡ (get_or columns i column).name → value ≡ item → new ≡ old ++ field name value ∷ [] → new ≡ row_members
    (take (i + 1) columns) (take (i + 1) values)
next_member columns values i old new column name item value h k so_far is_item is_name is_value put =
    let more = one_more columns values column item i h k in
    rw add-one (put ∙ rw (so_far, is_name, is_value, more, ← is_item) refl)

no_columns : (n : ℕ) (values : List Json) → row_members (take n []) values ≡ []
no_columns zero values = refl
no_columns (suc n) values = refl

no_values : (n : ℕ) (columns : List Column) → row_members columns (take n []) ≡ []
no_values zero [] = refl
no_values zero (c ∷ columns) = refl
no_values (suc n) [] = refl
no_values (suc n) (c ∷ columns) = refl

pub all_members : (columns : List Column) (values : List Json) (n : ℕ) → n ≡ min (length columns) (length values)
    → row_members (take n columns) (take n values) ≡ row_members columns values
all_members [] values n e = no_columns n (take n values)
all_members (c ∷ columns) [] n e = no_values n (take n (c ∷ columns))
all_members (c ∷ columns) (v ∷ values) zero e = absurd (omega arith)
all_members (c ∷ columns) (v ∷ values) (suc n) e = ap (λ rest. field c.name v ∷ rest)
    (all_members columns values n (omega arith))
