-- The data of a change, by the first case that applies.
use Rattle.std.proofs.Common.{◌≡◌, ℕ, true, false, Result, IfOk, subst}
use Rattle.std.specs.Prelude.{codes}
use Rattle.rt_catalog.specs.declared.catalog.Catalog.{Catalog}
use Rattle.rt_change.specs.declared.change.Change.{Change}
use Rattle.rt_change.specs.Verdicts.{lacks_key, hides_key}
use Rattle.rt_change.specs.Shape.{refused, whole, shape_of}

-- what is answered, said in other words
pub told : {A E : Type 0} (r : Result A E) (x y : A) → x ≡ y → IfOk r (λ t. t ≡ x) → IfOk r (λ t. t ≡ y)
told {A} r x y same h = let P : A → Type 0 = λ z. IfOk r (λ t. t ≡ z) in subst P same h

module _ (c : Catalog) (role max : ℕ) (ch : Change) where
  pub no_key : lacks_key ch ≡ true
      → shape_of c role max ch ≡ refused c role max ch (codes "Error 400: Bad Request, no primary key")
  unfolding shape_of
  no_key e = rw e

  pub hidden : lacks_key ch ≡ false → hides_key c role ch ≡ true
      → shape_of c role max ch ≡ refused c role max ch (codes "Error 401: Unauthorized")
  unfolding shape_of
  hidden e f = rw (e, f)

  pub shown : lacks_key ch ≡ false → hides_key c role ch ≡ false → shape_of c role max ch ≡ whole c role max ch
  unfolding shape_of
  shown e f = rw (e, f)
