-- What the class of a byte says of it.
use Rattle.std.proofs.Common.{◌≡◌, ℕ, true, refl}
use Rattle.std.specs.Prelude.{◌==◌}
use Rattle.std.proofs.lemmas.Bool.{eqb-true, cond_both}
use Rattle.rt_json.specs.Text.{is_digit}
use Rattle.rt_json.specs.Grammar.{is_blank}
use Rattle.rt_json.specs.Machine.{class_of}
use Rattle.rt_json.specs.declared.bytes.Class.{Class}
use Rattle.rt_json.specs.declared.bytes.Class.TheVariants as c
use Rattle.rt_json.specs.declared.bytes.Word.TheVariants as w
use Rattle.rt_json.proofs.Numbers.{StartsNumber}

abbrev pub IsOf : ℕ → Class → Type 0
IsOf b c.Blank = is_blank b ≡ true
IsOf b c.Quote = b ≡ 34
IsOf b c.Comma = b ≡ 44
IsOf b (c.NumberStart digits) = StartsNumber b digits
IsOf b c.Colon = b ≡ 58
IsOf b c.LeftBracket = b ≡ 91
IsOf b c.RightBracket = b ≡ 93
IsOf b (c.WordStart w.False) = b ≡ 102
IsOf b (c.WordStart w.Null) = b ≡ 110
IsOf b (c.WordStart w.True) = b ≡ 116
IsOf b c.LeftBrace = b ≡ 123
IsOf b c.RightBrace = b ≡ 125
IsOf b c.Other = Unit {0}

pub class_means : (b : ℕ) → IsOf b (class_of b)
unfolding class_of
class_means b =
    let P : Class → Type 0 = IsOf b in
    cond_both (is_blank b) _ _ P (λ e. e) (λ n. cond_both (b == 34) _ _ P (λ e. eqb-true b 34 e) (λ n. cond_both (b == 44) _ _ P (λ e. eqb-true b 44 e)
    (λ n. cond_both (b == 45) _ _ P (λ e. eqb-true b 45 e) (λ n. cond_both (b == 48) _ _ P (λ e. eqb-true b 48 e)
    (λ n48. cond_both (is_digit b) _ _ P (λ e. (e, n48)) (λ n. cond_both (b == 58) _ _ P (λ e. eqb-true b 58 e) (λ n. cond_both (b == 91) _ _ P (λ e. eqb-true b 91 e)
    (λ n. cond_both (b == 93) _ _ P (λ e. eqb-true b 93 e) (λ n. cond_both (b == 102) _ _ P (λ e. eqb-true b 102 e) (λ n. cond_both (b == 110) _ _ P (λ e. eqb-true b 110 e)
    (λ n. cond_both (b == 116) _ _ P (λ e. eqb-true b 116 e) (λ n. cond_both (b == 123) _ _ P (λ e. eqb-true b 123 e) (λ n. cond_both (b == 125) _ _ P (λ e. eqb-true b 125 e) (λ n. tt))))))))))))))

-- what holds at each byte of a class with one byte holds at the byte
pub class_of_blank : (b : ℕ) → is_blank b ≡ true → class_of b ≡ c.Blank
unfolding class_of
class_of_blank b h = rw h refl
