-- What was there stays in front of what is written.
use Rattle.std.proofs.Common.{◌≡◌, ℕ, ◌≤◌, List, ◌++◌, arith, ap, ◌∙◌, length, take}
use Rattle.std.specs.Io.{StartsWith}
use Rattle.std.proofs.lemmas.List.{take-append-le, length-take}

no_shorter : (out old : List ℕ) → StartsWith out old → length old ≤ length out
no_shorter out old e = omega (arith, ap length e, length-take (length old) out)

pub more_behind : (new out old more : List ℕ) → StartsWith out old → new ≡ out ++ more → StartsWith new old
more_behind new out old more e is =
    ap (take (length old)) is ∙ take-append-le (length old) out more (no_shorter out old e) ∙ e
