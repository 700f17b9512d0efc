-- The elements of a list in order, each once.
use Rattle.std.specs.Prelude.{List, [], ◌∷◌}
use Rattle.std.specs.declared.cmp.Ordering.{Ordering}
use Rattle.std.specs.declared.cmp.Ordering.TheVariants.{Less, Equal, Greater}

module _ {K : Type 0} (cmp : K → K → Ordering) where
  abbrev pub inserted_by : Ordering → K → K → List K → List K → List K
  inserted_by Less k l ls more = k ∷ l ∷ ls
  inserted_by Equal k l ls more = l ∷ ls
  inserted_by Greater k l ls more = l ∷ more

  -- among elements in order, where it is not there yet
  abbrev pub inserted : K → List K → List K
  inserted k [] = k ∷ []
  inserted k (l ∷ ls) = inserted_by (cmp k l) k l ls (inserted k ls)

  abbrev pub in_order : List K → List K
  in_order [] = []
  in_order (k ∷ ks) = inserted k (in_order ks)
