-- The number that a text writes.
use Rattle.std.proofs.Common.{◌≡◌, ℕ, ◌<◌, ◌^◌, List, arith, Result, Ok}
use Rattle.std.proofs.Common.{Err, Bool, true, false, ap, sym, ◌∙◌}
use Rattle.std.specs.Str.{bytes_eq}
use Rattle.std.specs.Fmt.{decimal}
use Rattle.std.specs.Str.Parse.{ParsesUnsigned}
use Rattle.std.proofs.lemmas.Slice.Eq.{bytes_eq-Decides}
use Rattle.std.proofs.lemmas.Fmt.{parse-decimal}

-- a text of digits that isn't read in 32 bits writes no number below 2 ^ 32
pub unread : {E : Type 0} (text : List ℕ) (r : Result ℕ E) {e : E} (n : ℕ) → n < 2 ^ 32 → text ≡ decimal n → r ≡ Err e
    → ParsesUnsigned 32 10 text r → ⊥
unread text r n small is found read = let same : r ≡ Ok n = parse-decimal 32 n text r small (omega arith) is read in cc

-- nor does a text that is read as a number which is written otherwise
pub other_text : {E : Type 0} (text printed : List ℕ) (r : Result ℕ E) (number n : ℕ) (b : Bool) → n < 2 ^ 32
    → text ≡ decimal n → r ≡ Ok number → ParsesUnsigned 32 10 text r
    → printed ≡ decimal number → b ≡ bytes_eq printed text → b ≡ false → ⊥
other_text text printed r number n b small is found read writes e unequal =
    let same : r ≡ Ok n = parse-decimal 32 n text r small (omega arith) is read in
    let equal : number ≡ n = cc in
    let told : bytes_eq printed text ≡ true = (bytes_eq-Decides printed text).1 (writes ∙ ap decimal equal ∙ sym is) in
    let bad : false ≡ true = sym unequal ∙ e ∙ told in cc
