-- A test of a line is one thing.
use Rattle.std.proofs.Common.{◌≡◌, Bool, true, false}

-- nothing is both true and false
pub either : {A : Type 0} (b : Bool) → b ≡ true → b ≡ false → A
either true e f = absurd cc
either false e f = absurd cc
