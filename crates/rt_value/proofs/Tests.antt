-- Facts on tests and options that several crates cite.
use Rattle.std.proofs.Common.{◌≡◌, Bool, true, false, not, ◌||◌, Option, Some, None, option_map, refl, sym}
use Rattle.std.specs.Str.{all_ascii_digits}
use Rattle.std.specs.Str.Parse.{digits_value}
use Rattle.std.proofs.lemmas.Str.Parse.{IsNumeralModel, numerals_by_value, tells_all_ascii_digits}

pub same_tests : (a b : Bool) → (a ≡ true → b ≡ true) → (b ≡ true → a ≡ true) → a ≡ b
same_tests true b f g = sym (f refl)
same_tests false true f g = g refl
same_tests false false f g = refl

pub or_swap : (a b c : Bool) → (a || (b || c)) ≡ (b || (a || c))
or_swap true true c = refl
or_swap true false c = refl
or_swap false b c = refl

pub true_from_not : (b : Bool) → false ≡ not b → b ≡ true
true_from_not true h = refl
true_from_not false h = cc

pub false_from_not : (b : Bool) → true ≡ not b → b ≡ false
false_from_not true h = cc
false_from_not false h = refl

-- what can be nothing else is none
pub none_mapped : {A B : Type 0} (f : A → B) (o : Option A) → ((u : A) × (o ≡ Some u) → false ≡ true)
    → None ≡ option_map f o
none_mapped f None h = refl
none_mapped f (Some u) h = let e : false ≡ true = h (u, refl) in cc

-- digits as std's readers of numbers take them
pub digits : IsNumeralModel (λ ds. all_ascii_digits ds ≡ true) (digits_value 10)
digits = numerals_by_value _ tells_all_ascii_digits
