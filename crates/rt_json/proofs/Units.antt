-- The digits of an escape, and its two halves.
use Rattle.std.proofs.Common.{◌≡◌, ◌≢◌, ℕ, ◌+◌, ◌-◌, ◌*◌, ◌<◌, ◌≤◌, ◌⊎◌, inl, inr, Bool, true, false, List, ◌++◌, None, Ok, Err, refl, ap, sym, ◌∙◌, length, drop, get_or, arith, cond, not}
use Rattle.std.specs.Prelude.{encode_utf8}
use Rattle.std.proofs.lemmas.Bool.{ne_eqb, eq-eqb}
use mathlib.Core.Bool.{beq}
use lib.Utf8.{scalar, low_scalar}
use Rattle.rt_json.specs.Text.{hex_value, is_high, is_low, pair_code}
use Rattle.rt_json.specs.Machine as m
use Rattle.rt_json.specs.Machine.{Slot, Half, Inner, Outcome, bad, outcome, is_low_front, first_digit, two_digits}
use Rattle.rt_json.specs.Reads.{at_text, Faults, InAll, DigitReads, ByteReads, IsHalfOf, ReadsPart, FailsPart, FirstReads, FrontReads, UnitReads, after_text}
use Rattle.rt_json.specs.declared.state.Frame.{Frame}
use Rattle.rt_json.specs.declared.stop.Stop.{Stop}
use Rattle.rt_json.specs.declared.stop.Stop.TheVariants as stop
use Rattle.rt_json.proofs.Steps.{text_goes, text_breaks, text_ends, text_closes}
use Rattle.rt_json.proofs.Hex.{front_range, no_front, low_range, low_by, is_high_by}
use Rattle.rt_json.proofs.Utf8.{is_a_scalar}
use Rattle.rt_json.proofs.ByteTests.{order}

-- what another byte than a digit breaks
abbrev Refuses : Inner → Type 0
Refuses i = (t : List ℕ) (b : ℕ) → hex_value b ≡ None → m.text_step t i b ≡ m.broken

-- the place where something breaks, or the end
faults_at : (bytes : List ℕ) (at left : ℕ) (i : Inner) (stack : List Frame) (slot : Slot) (t : List ℕ) → at ≤ length bytes → left ≡ length bytes - at
    → (at < length bytes → m.text_step t i (get_or bytes at 0) ≡ m.broken) → at_text stack slot t i (drop at bytes) ≡ bad left
faults_at bytes at left i stack slot t within is e = by (order at (length bytes))
  where
    by : (at < length bytes) ⊎ (length bytes ≤ at) → at_text stack slot t i (drop at bytes) ≡ bad left
    by (inl lt) = text_breaks bytes at stack slot t i lt (e lt) ∙ ap bad (sym is)
    by (inr le) = let none : 0 ≡ left = omega arith in text_ends bytes at stack slot t i le ∙ ap bad none

pub digit_faults : (bytes : List ℕ) (at : ℕ) (e : Stop) (i : Inner) → at ≤ length bytes → Refuses i → DigitReads bytes at (Err e) → InAll (λ stack slot t. Faults e (at_text stack slot t i (drop at bytes)))
digit_faults bytes at stop.NoMemory i within r h = absurd h
digit_faults bytes at (stop.TooDeep left) i within r h = absurd h
digit_faults bytes at (stop.Bad left) i within r h = λ stack slot t. faults_at bytes at left i stack slot t within h.0 (λ lt. r t (get_or bytes at 0) (h.1 lt))

pub byte_faults : (bytes : List ℕ) (at wanted : ℕ) (e : Stop) (i : Inner) → at ≤ length bytes → ((t : List ℕ) (b : ℕ) → b ≢ wanted → m.text_step t i b ≡ m.broken)
    → ByteReads bytes at wanted (Err e) → InAll (λ stack slot t. Faults e (at_text stack slot t i (drop at bytes)))
byte_faults bytes at wanted stop.NoMemory i within r h = absurd h
byte_faults bytes at wanted (stop.TooDeep left) i within r h = absurd h
byte_faults bytes at wanted (stop.Bad left) i within r h = λ stack slot t. faults_at bytes at left i stack slot t within h.0 (λ lt. r t (get_or bytes at 0) (h.1 lt))

refuses0 : (half : Half) → Refuses (m.unit0 half)
refuses0 half t b e = ap (m.first_read t half) e

refuses1 : (half : Half) (v : ℕ) → Refuses (m.unit1 half v)
refuses1 half v t b e = ap (m.second_read t half v) e

refuses2 : (half : Half) (v : ℕ) → Refuses (m.unit2 half v)
refuses2 half v t b e = ap (m.third_read t half v) e

refuses3 : (half : Half) (v : ℕ) → Refuses (m.unit3 half v)
refuses3 half v t b e = ap (m.fourth_read t half v) e

-- the fault comes behind a part that is read
part_faults : (bytes : List ℕ) (at to : ℕ) (second : Bool) (inner : Half → Inner) (e : Stop) → ReadsPart bytes at to second inner
    → ((half : Half) → IsHalfOf second half → InAll (λ stack slot t. Faults e (at_text stack slot t (inner half) (drop to bytes)))) → FailsPart bytes at second e
part_faults bytes at to second inner e read fails half is stack slot t = by e (fails half is stack slot t)
  where
    by : (e : Stop) → Faults e (at_text stack slot t (inner half) (drop to bytes)) → Faults e (at_text stack slot t (m.unit0 half) (drop at bytes))
    by stop.NoMemory h = tt
    by (stop.Bad left) h = read half is stack slot t ∙ h
    by (stop.TooDeep left) h = read half is stack slot t ∙ h

-- the first digit
first_test : (second : Bool) (half : Half) (v : ℕ) → IsHalfOf second half → (second ≡ true → v ≡ 13) → first_digit half v ≡ true
first_test true (m.second_unit u) v is h = eq-eqb v 13 (h refl)
first_test false m.first_unit v is h = refl
first_test true m.first_unit v is h = absurd is
first_test false (m.second_unit u) v is h = absurd is

pub first_ok : (bytes : List ℕ) (at : ℕ) (second : Bool) (v : ℕ) → DigitReads bytes at (Ok v) → (second ≡ true → v ≡ 13) → FirstReads bytes at second (Ok v)
first_ok bytes at second v d h =
    let lt = d.0 in (
      omega (arith, lt),
      d.1,
      λ half is stack slot t.
          text_goes bytes at (at + 1) stack slot t t (m.unit0 half) (m.unit1 half v) lt refl
          (ap (m.first_read t half) d.2 ∙ ap (λ (x : Bool). cond x (m.goes t (m.unit1 half v)) m.broken) (first_test second half v is h)),
    )

pub first_digit_err : (bytes : List ℕ) (at : ℕ) (second : Bool) (e : Stop) → at ≤ length bytes → DigitReads bytes at (Err e) → FirstReads bytes at second (Err e)
first_digit_err bytes at second e within d half is = digit_faults bytes at e (m.unit0 half) within (refuses0 half) d

first_not : (half : Half) (v : ℕ) → IsHalfOf true half → v ≢ 13 → first_digit half v ≡ false
first_not (m.second_unit u) v is n = ne_eqb v 13 n
first_not m.first_unit v is n = absurd is

pub first_err : (bytes : List ℕ) (at v : ℕ) (second : Bool) → at ≤ length bytes → DigitReads bytes at (Ok v) → second ≡ true → v ≢ 13 → FirstReads bytes at second (Err (stop.Bad (length bytes - at)))
first_err bytes at v false within d s n = absurd cc
first_err bytes at v true within d s n = λ half is stack slot t.
    text_breaks bytes at stack slot t (m.unit0 half) d.0 (ap (m.first_read t half) d.2 ∙ ap (λ (x : Bool). cond x (m.goes t (m.unit1 half v)) m.broken) (first_not half v is n))

-- the first two
front_test : (second : Bool) (half : Half) (v : ℕ) → IsHalfOf second half → is_low_front v ≡ second → two_digits half v ≡ true
front_test true (m.second_unit u) v is e = e
front_test false m.first_unit v is e = ap not e
front_test true m.first_unit v is e = absurd is
front_test false (m.second_unit u) v is e = absurd is

-- a test of the first two digits, by whether they are those of a second half
abbrev front_of : Half → Bool → Bool
front_of m.first_unit x = not x
front_of (m.second_unit u) x = x

front_fails : (second : Bool) (half : Half) (v : ℕ) → IsHalfOf second half → (is_low_front v ≡ second → ⊥) → two_digits half v ≡ false
front_fails second half v is n = same half ∙ by second half (is_low_front v) is n
  where
    same : (half : Half) → two_digits half v ≡ front_of half (is_low_front v)
    same m.first_unit = refl
    same (m.second_unit u) = refl

    by : (second : Bool) (half : Half) (x : Bool) → IsHalfOf second half → (x ≡ second → ⊥) → front_of half x ≡ false
    by true (m.second_unit u) true is n = absurd (n refl)
    by true (m.second_unit u) false is n = refl
    by false m.first_unit true is n = refl
    by false m.first_unit false is n = absurd (n refl)
    by true m.first_unit x is n = absurd is
    by false (m.second_unit u) x is n = absurd is

pub front_ok : (bytes : List ℕ) (at : ℕ) (second : Bool) (v x w : ℕ) → FirstReads bytes at second (Ok v) → DigitReads bytes (at + 1) (Ok x) → w ≡ v * 16 + x → is_low_front w ≡ second
    → FrontReads bytes at second (Ok w)
front_ok bytes at second v x w f d is low =
    let lt = d.0 in let hv = f.1 in let hx = d.1 in (
      omega (arith, lt),
      omega (arith, hv, hx, is),
      low,
      λ half h stack slot t.
          f.2 half h stack slot t
          ∙ text_goes bytes (at + 1) (at + 2) stack slot t t (m.unit1 half v) (m.unit2 half w) lt (omega arith)
          (ap (m.second_read t half v) d.2 ∙ ap (λ (y : ℕ). cond (two_digits half y) (m.goes t (m.unit2 half y)) m.broken) (sym is)
          ∙ ap (λ (y : Bool). cond y (m.goes t (m.unit2 half w)) m.broken) (front_test second half w h low)),
    )

pub front_digit_err : (bytes : List ℕ) (at : ℕ) (second : Bool) (v : ℕ) (e : Stop) → FirstReads bytes at second (Ok v) → DigitReads bytes (at + 1) (Err e) → FrontReads bytes at second (Err e)
front_digit_err bytes at second v e f d =
    part_faults bytes at (at + 1) second (λ half. m.unit1 half v) e f.2 (λ half is. digit_faults bytes (at + 1) e (m.unit1 half v) f.0 (refuses1 half v) d)

pub front_err : (bytes : List ℕ) (at : ℕ) (second : Bool) (v x w : ℕ) → FirstReads bytes at second (Ok v) → DigitReads bytes (at + 1) (Ok x) → w ≡ v * 16 + x → (is_low_front w ≡ second → ⊥)
    → FrontReads bytes at second (Err (stop.Bad (length bytes - (at + 1))))
front_err bytes at second v x w f d is other = λ half h stack slot t.
    f.2 half h stack slot t
    ∙ text_breaks bytes (at + 1) stack slot t (m.unit1 half v) d.0
    (ap (m.second_read t half v) d.2 ∙ ap (λ (y : ℕ). cond (two_digits half y) (m.goes t (m.unit2 half y)) m.broken) (sym is)
    ∙ ap (λ (y : Bool). cond y (m.goes t (m.unit2 half w)) m.broken) (front_fails second half w h other))

-- all four
is_low_front_range : (second : Bool) (v r s : ℕ) → is_low_front v ≡ second → r < 16 → s < 16 → is_low ((v * 16 + r) * 16 + s) ≡ second
is_low_front_range true v r s e hr hs = let k = front_range v e in low_by ((v * 16 + r) * 16 + s) (omega (arith, k.0)) (omega (arith, k.1))
is_low_front_range false v r s e hr hs = by (is_low ((v * 16 + r) * 16 + s)) refl (no_front v (ap not e))
  where
    by : (x : Bool) → is_low ((v * 16 + r) * 16 + s) ≡ x → (v < 220) ⊎ (224 ≤ v) → x ≡ false
    by false f h = refl
    by true f (inl h) = let k = low_range ((v * 16 + r) * 16 + s) f in absurd (omega (arith, k.0, h))
    by true f (inr h) = let k = low_range ((v * 16 + r) * 16 + s) f in absurd (omega (arith, k.1, h))

pub unit_third_err : (bytes : List ℕ) (at : ℕ) (second : Bool) (v : ℕ) (e : Stop) → FrontReads bytes at second (Ok v) → DigitReads bytes (at + 2) (Err e) → UnitReads bytes at second (Err e)
unit_third_err bytes at second v e f d =
    part_faults bytes at (at + 2) second (λ half. m.unit2 half v) e f.3 (λ half is. digit_faults bytes (at + 2) e (m.unit2 half v) f.0 (refuses2 half v) d)

third_ok : (bytes : List ℕ) (at : ℕ) (second : Bool) (v x : ℕ) → FrontReads bytes at second (Ok v) → DigitReads bytes (at + 2) (Ok x) → ReadsPart bytes at (at + 3) second (λ half. m.unit3 half (v * 16 + x))
third_ok bytes at second v x f d half is stack slot t =
    f.3 half is stack slot t
    ∙ text_goes bytes (at + 2) (at + 3) stack slot t t (m.unit2 half v) (m.unit3 half (v * 16 + x)) d.0 (omega arith) (ap (m.third_read t half v) d.2)

pub unit_fourth_err : (bytes : List ℕ) (at : ℕ) (second : Bool) (v x : ℕ) (e : Stop) → FrontReads bytes at second (Ok v) → DigitReads bytes (at + 2) (Ok x) → DigitReads bytes (at + 3) (Err e) → UnitReads bytes at second (Err e)
unit_fourth_err bytes at second v x e f d g =
    let lt = d.0 in
    part_faults bytes at (at + 3) second (λ half. m.unit3 half (v * 16 + x)) e (third_ok bytes at second v x f d)
    (λ half is. digit_faults bytes (at + 3) e (m.unit3 half (v * 16 + x)) (omega (arith, lt)) (refuses3 half (v * 16 + x)) g)

-- the answer to the last digit
last : (bytes : List ℕ) (at : ℕ) (stack : List Frame) (slot : Slot) (t : List ℕ) (i : Inner) (a : m.TextAnswer) → at < length bytes → m.text_step t i (get_or bytes at 0) ≡ a → (a ≡ m.broken → ⊥)
    → at_text stack slot t i (drop at bytes) ≡ after_text stack slot t a (drop (at + 1) bytes)
last bytes at stack slot t i (m.goes u k) lt e n = text_goes bytes at (at + 1) stack slot t u i k lt refl e
last bytes at stack slot t i m.closed lt e n = text_closes bytes at (at + 1) stack slot t i lt refl e
last bytes at stack slot t i m.broken lt e n = absurd (n refl)

-- a unit that is no character and no low half is a high one
pub half_range : (u : ℕ) → u < 65536 → scalar u ≡ false → is_low u ≡ false → is_high u ≡ true
half_range u small s l = by (order u 55296) (order u 56320) (order u 57344)
  where
    by : (u < 55296) ⊎ (55296 ≤ u) → (u < 56320) ⊎ (56320 ≤ u) → (u < 57344) ⊎ (57344 ≤ u) → is_high u ≡ true
    by (inl a) _ _ = let yes = low_scalar u a in absurd cc
    by (inr a) (inl b) _ = is_high_by u a b
    by (inr a) (inr b) (inl k) = let yes = low_by u b k in absurd cc
    by (inr a) (inr b) (inr k) = let yes = is_a_scalar u (omega arith) (inr k) in absurd cc

-- a unit that may stand where it does breaks nothing
unit_stands : (second : Bool) (half : Half) (t : List ℕ) (u : ℕ) → IsHalfOf second half → u < 65536 → is_low u ≡ second → m.unit_ended t half u ≡ m.broken → ⊥
unit_stands true (m.second_unit h) t u is small low e =
    let goes : m.unit_ended t (m.second_unit h) u ≡ m.goes (t ++ encode_utf8 (pair_code h u)) m.between = rw low refl in absurd cc
unit_stands false m.first_unit t u is small low e = by (scalar u) refl
  where
    by : (x : Bool) → scalar u ≡ x → ⊥
    by true f = let goes : m.unit_ended t m.first_unit u ≡ m.goes (t ++ encode_utf8 u) m.between = rw f refl in absurd cc
    by false f = let high = half_range u small f low in let goes : m.unit_ended t m.first_unit u ≡ m.goes t (m.high u) = rw (f, high) refl in absurd cc
unit_stands true m.first_unit t u is small low e = absurd is
unit_stands false (m.second_unit h) t u is small low e = absurd is

pub unit_ok : (bytes : List ℕ) (at : ℕ) (second : Bool) (v x y u : ℕ) → FrontReads bytes at second (Ok v) → DigitReads bytes (at + 2) (Ok x) → DigitReads bytes (at + 3) (Ok y)
    → u ≡ (v * 16 + x) * 16 + y → UnitReads bytes at second (Ok u)
unit_ok bytes at second v x y u f d g is =
    let lt = g.0 in let hx = d.1 in let hy = g.1 in let small = f.1 in
    let low : is_low u ≡ second = ap is_low is ∙ is_low_front_range second v x y f.2 hx hy in
    let top : u < 65536 = omega (arith, hx, hy, small, is) in (
      omega (arith, lt),
      top,
      low,
      λ half h stack slot t.
          third_ok bytes at second v x f d half h stack slot t
          ∙ last bytes (at + 3) stack slot t (m.unit3 half (v * 16 + x)) (m.unit_ended t half u) lt
          (ap (m.fourth_read t half (v * 16 + x)) g.2 ∙ ap (m.unit_ended t half) (sym is)) (unit_stands second half t u h top low)
          ∙ ap (λ (n : ℕ). after_text stack slot t (m.unit_ended t half u) (drop n bytes)) (omega arith),
    )

-- tests of two truth values
pub bool_same : (a b : Bool) → beq a b ≡ true → a ≡ b
bool_same true true e = refl
bool_same false false e = refl
bool_same true false e = cc
bool_same false true e = cc

pub bool_other : (a b : Bool) → beq a b ≡ false → a ≡ b → ⊥
bool_other true true e is = absurd cc
bool_other false false e is = absurd cc
bool_other true false e is = absurd cc
bool_other false true e is = absurd cc
