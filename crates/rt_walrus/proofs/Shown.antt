-- The members of a record, column by column.
use Rattle.std.proofs.Common.{◌≡◌, ℕ, ◌&&◌, Bool, true, false, List, Option, refl, ap, ◌∙◌}
use Rattle.std.specs.List.{enumerate_from, filter_map}
use Rattle.rt_json.specs.declared.tree.named.Member.{Member}
use Rattle.rt_value.specs.Choice.{◌>>=◌, some_if}
use Rattle.rt_catalog.specs.declared.catalog.Catalog.{Catalog}
use Rattle.rt_catalog.specs.declared.catalog.Column.{Column}
use Rattle.rt_catalog.specs.Access.{may_select, table_at}
use Rattle.rt_change.specs.declared.change.Change.{Change}
use Rattle.rt_change.specs.Shape.{field_of}
use Rattle.rt_walrus.specs.declared.sides.Side.{Side}
use Rattle.rt_walrus.specs.declared.sides.Side.TheVariants.{New, Old}
use Rattle.rt_walrus.specs.Sides.{columns_of, trees_of, is_open, shown_member}
use Rattle.rt_walrus.proofs.Given.{fused}

one_test : {A B : Type 0} (b : Bool) (x : A) (g : A → Option B) → (some_if b x >>= g) ≡ (some_if (b && true) x >>= g)
one_test true x g = refl
one_test false x g = refl

module _ (c : Catalog) (role max : ℕ) (ch : Change) where
  abbrev numbered : List (ℕ × Column)
  numbered = enumerate_from 0 (table_at c ch.table).columns

  abbrev selects : ℕ × Column → Bool
  selects n = may_select c role ch.table n.0

  abbrev opens : ℕ × Column → Bool
  opens n = is_open c role max ch Old n.0

  abbrev fields_of : Side → ℕ × Column → Option Member
  fields_of side = field_of c role max ch (trees_of c role max ch side)

  both_tests : (a : Bool) (n : ℕ × Column)
      → (some_if a n >>= λ m. some_if (opens m) m) ≡ some_if (a && opens n) n
  both_tests true n = refl
  both_tests false n = refl

  pub members_shown : (side : Side)
      → filter_map (fields_of side) (columns_of c role max ch side)
      ≡ filter_map (shown_member c role max ch side) numbered
  members_shown New =
      fused _ _ (shown_member c role max ch New) (λ n. one_test (selects n) n (fields_of New)) numbered
  members_shown Old =
      ap (filter_map (fields_of Old))
      (fused _ _ (λ n. some_if (selects n && opens n) n) (λ n. both_tests (selects n) n) numbered)
      ∙ fused _ _ (shown_member c role max ch Old) (λ n. refl) numbered
