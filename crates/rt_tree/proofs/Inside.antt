-- The stack's order doesn't matter for whether an EXISTS is open.
use Rattle.std.proofs.Common.{◌≡◌, Bool, true, false, ◌||◌, List, [], ◌∷◌, ◌++◌, reverse, refl, ap, sym, ◌∙◌}
use Rattle.std.specs.List.{list_any}
use Rattle.std.proofs.Math.Bool.{or-false, or-true}
use Rattle.std.proofs.lemmas.Grind.{reverse_onto}
use Rattle.rt_policy.specs.Machine.{inside, is_where}
use Rattle.rt_policy.specs.declared.building.Frame.{Frame}
use Rattle.rt_policy.specs.declared.building.Frame.TheVariants as frame

inside_append : (xs ys : List Frame) → inside (xs ++ ys) ≡ (inside xs || inside ys)
inside_append [] ys = refl
inside_append (frame.Not l ∷ xs) ys = inside_append xs ys
inside_append (frame.Group l s ∷ xs) ys = inside_append xs ys
inside_append (frame.Where l s t ∷ xs) ys = refl

last : (xs : List Frame) (f : Frame) → inside (reverse xs ++ f ∷ []) ≡ inside (reverse (f ∷ xs))
last xs f = ap inside (sym (reverse_onto xs f []))

-- of the first in front of others
front : (f : Frame) (xs : List Frame) → (inside (reverse xs) || inside (f ∷ [])) ≡ inside (reverse (f ∷ xs))
front f xs = sym (inside_append (reverse xs) (f ∷ [])) ∙ last xs f

pub inside_reversed : (xs : List Frame) → list_any is_where xs ≡ inside (reverse xs)
inside_reversed [] = refl
inside_reversed (frame.Not l ∷ xs) =
    inside_reversed xs ∙ sym (or-false (inside (reverse xs))) ∙ front (frame.Not l) xs
inside_reversed (frame.Group l s ∷ xs) =
    inside_reversed xs ∙ sym (or-false (inside (reverse xs))) ∙ front (frame.Group l s) xs
inside_reversed (frame.Where l s t ∷ xs) = sym (or-true (inside (reverse xs))) ∙ front (frame.Where l s t) xs
