-- What an offset's text spells.
use Rattle.std.proofs.Common.{◌≡◌, ℕ, ℤ, suc, ◌+◌, ◌-◌, ◌*◌, ◌/◌, ◌%◌, ◌<◌, ◌≤◌, ◌⊎◌, inl, inr, Bool, true, false, List, [], ◌∷◌, ◌++◌, arith, refl, sym, ap, ◌∙◌, subst, length, FitsSigned, w32}
use Rattle.jiff.proofs.SpanFacts.{signed_arith}
use Rattle.jiff.specs.Words.{signed}
use Rattle.jiff_fmt.specs.Text.{pad2}
use Rattle.rt_wal.specs.Times.{sign_of, IsClockText, IsOffsetText}

pub digits_spell : (tens ones : ℕ) → 48 ≤ tens → tens ≤ 57 → 48 ≤ ones → ones ≤ 57 → pad2 ((tens - 48) * 10 + (ones - 48)) ≡ tens ∷ ones ∷ []
digits_spell tens ones a b c d =
    let first : 48 + ((tens - 48) * 10 + (ones - 48)) / 10 ≡ tens = omega arith in
    let second : 48 + ((tens - 48) * 10 + (ones - 48)) % 10 ≡ ones = omega arith in
    rw (first, second) refl

-- digits spell one number
pub one_pad2 : (m n : ℕ) (xs ys : List ℕ) → pad2 m ++ xs ≡ pad2 n ++ ys → (m ≡ n) × (xs ≡ ys)
one_pad2 m n xs ys e =
    let tens : 48 + m / 10 ≡ 48 + n / 10 = cc in
    let ones : 48 + m % 10 ≡ 48 + n % 10 = cc in
    let rest : xs ≡ ys = cc in
    (omega arith, rest)

pub clock_length : (text : List ℕ) (hours minutes : ℕ) → IsClockText text hours minutes → (length text ≡ 5) ⊎ (length text ≡ 2)
clock_length text hours minutes (inl e) = inl (ap length e)
clock_length text hours minutes (inr h) = inr (ap length h.0)

lengths : {n : ℕ} → n ≡ 5 → n ≡ 2 → ⊥
lengths a b = omega arith

pub one_clock : (text : List ℕ) (h m h' m' : ℕ) → IsClockText text h m → IsClockText text h' m' → (h ≡ h') × (m ≡ m')
one_clock text h m h' m' (inl a) (inl b) =
    let hours = one_pad2 h h' (58 ∷ pad2 m) (58 ∷ pad2 m') (sym a ∙ b) in
    let minutes : pad2 m ≡ pad2 m' = cc (hours.1) in
    let tens : 48 + m / 10 ≡ 48 + m' / 10 = cc in
    let ones : 48 + m % 10 ≡ 48 + m' % 10 = cc in
    (hours.0, omega arith)
one_clock text h m h' m' (inl a) (inr b) = absurd (lengths (ap length a) (ap length b.0))
one_clock text h m h' m' (inr a) (inl b) = absurd (lengths (ap length b) (ap length a.0))
one_clock text h m h' m' (inr a) (inr b) =
    let e : pad2 h ≡ pad2 h' = sym a.0 ∙ b.0 in
    let tens : 48 + h / 10 ≡ 48 + h' / 10 = cc in
    let ones : 48 + h % 10 ≡ 48 + h' % 10 = cc in
    (omega arith, a.1 ∙ sym b.1)

one_sign : (a b : Bool) → sign_of a ≡ sign_of b → a ≡ b
one_sign true true e = refl
one_sign true false e = absurd (omega arith)
one_sign false true e = absurd (omega arith)
one_sign false false e = refl

-- a text is one offset
pub one_offset : (text : List ℕ) (a b : ℤ) → IsOffsetText text a → IsOffsetText text b → a ≡ b
one_offset text a b x y =
    let parts = sym x.parts ∙ y.parts in
    let signs : sign_of x.is_west ≡ sign_of y.is_west = cc in
    let clocks : x.clock ≡ y.clock = cc in
    let west = one_sign x.is_west y.is_west signs in
    let written : IsClockText x.clock y.hours y.minutes = rw clocks y.written in
    let clock = one_clock x.clock x.hours x.minutes y.hours y.minutes x.written written in
    x.value ∙ rw (west, clock.0, clock.1) (sym y.value)

pub offset_length : (text : List ℕ) (seconds : ℤ) → IsOffsetText text seconds → (length text ≡ 6) ⊎ (length text ≡ 3)
offset_length text seconds x = by_clock (clock_length x.clock x.hours x.minutes x.written)
  where
    by_clock : (length x.clock ≡ 5) ⊎ (length x.clock ≡ 2) → (length text ≡ 6) ⊎ (length text ≡ 3)
    by_clock (inl e) = inl (ap length x.parts ∙ ap suc e)
    by_clock (inr e) = inr (ap length x.parts ∙ ap suc e)

pub offset_fits : (text : List ℕ) (seconds : ℤ) → IsOffsetText text seconds → FitsSigned w32 seconds
offset_fits text seconds x = subst (FitsSigned w32) (sym x.value) (fits x.is_west (x.hours * 3600 + x.minutes * 60) (omega (arith, x.hours_in, x.minutes_in)))
  where
    fits : (is_west : Bool) (n : ℕ) → n < 60000 → FitsSigned w32 (signed is_west n)
    fits true n h = omega (arith, signed_arith)
    fits false n h = omega (arith, signed_arith)
