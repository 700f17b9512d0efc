-- A number that was found, kept in 32 bits.
use Rattle.std.proofs.Common.{◌≡◌, ℕ, ◌<◌, ◌^◌, Option, Some, None, ap, sym, ◌∙◌}
use Rattle.std.specs.Option.{SomeIff}

-- a number that fits is kept
pub fits_is : (r : Option ℕ) (n : ℕ) (o : Option ℕ) → SomeIff r (n < 2 ^ 32) n → o ≡ Some n → n < 2 ^ 32 → r ≡ o
fits_is None n o h e less = absurd (h less)
fits_is (Some m) n o h e less = ap Some h.1 ∙ sym e
