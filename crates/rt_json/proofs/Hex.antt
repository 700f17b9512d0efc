-- Hexadecimal digits, and the halves of a pair.
use Rattle.std.proofs.Common.{◌≡◌, ℕ, ◌+◌, ◌*◌, ◌<◌, ◌≤◌, Bool, true, false, Option, Some, None, refl, arith, ◌⊎◌, inl, inr, not}
use Rattle.std.specs.Prelude.{◌&&◌, nat_le, nat_lt}
use Rattle.std.proofs.lemmas.Bool.{cond_both, leb-true, le-leb, lt-leb, ltb-true, lt-ltb, le-ltb, eq-eqb, and_parts}
use lib.Utf8.{scalar, scalar_cases}
use Rattle.rt_json.specs.Text.{is_digit, hex_value, is_high, is_low}
use Rattle.rt_json.specs.Machine.{Half, first_unit, second_unit, first_digit, two_digits, is_low_front}
use Rattle.rt_json.proofs.ByteTests.{order}

abbrev IsSmall : Option ℕ → Type 0
IsSmall None = Unit {0}
IsSmall (Some v) = v < 16

small : (b : ℕ) → IsSmall (hex_value b)
small b =
    cond_both (is_digit b) _ _ IsSmall (λ h. let t = and_parts (nat_le 48 b) (nat_le b 57) h in let u : b ≤ 57 = leb-true b 57 t.1 in omega arith)
    (λ _. cond_both (nat_le 97 b && nat_le b 102) _ _ IsSmall (λ h. let t = and_parts (nat_le 97 b) (nat_le b 102) h in let u : b ≤ 102 = leb-true b 102 t.1 in omega arith)
    (λ _. cond_both (nat_le 65 b && nat_le b 70) _ _ IsSmall (λ h. let t = and_parts (nat_le 65 b) (nat_le b 70) h in let u : b ≤ 70 = leb-true b 70 t.1 in omega arith) (λ _. tt)))

pub hex_small : (b v : ℕ) → hex_value b ≡ Some v → v < 16
hex_small b v e = let P : Option ℕ → Type 0 = IsSmall in by (hex_value b) (small b) e
  where
    by : (o : Option ℕ) → IsSmall o → o ≡ Some v → v < 16
    by None s e = absurd cc
    by (Some x) s e = let is : x ≡ v = cc in omega (arith, s)

pub low_range : (u : ℕ) → is_low u ≡ true → (56320 ≤ u) × (u < 57344)
low_range u h = let t = and_parts (nat_le 56320 u) (nat_lt u 57344) h in (leb-true 56320 u t.0, ltb-true u 57344 t.1)

pub high_range : (u : ℕ) → is_high u ≡ true → (55296 ≤ u) × (u < 56320)
high_range u h = let t = and_parts (nat_le 55296 u) (nat_lt u 56320) h in (leb-true 55296 u t.0, ltb-true u 56320 t.1)

-- a test of a range that fails
below : (a b u : ℕ) → u < a → (nat_le a u && nat_lt u b) ≡ false
below a b u h = rw (lt-leb a u h) refl

above : (a b u : ℕ) → b ≤ u → (nat_le a u && nat_lt u b) ≡ false
above a b u h = by (nat_le a u)
  where
    by : (x : Bool) → (x && nat_lt u b) ≡ false
    by true = le-ltb u b h
    by false = refl

pub scalar_not_low : (u : ℕ) → scalar u ≡ true → is_low u ≡ false
scalar_not_low u s = elim (scalar_cases u s) [ inl h ↦ below 56320 57344 u (omega (arith, h)) | inr h ↦ above 56320 57344 u h.0 ]

pub high_not_low : (u : ℕ) → is_high u ≡ true → is_low u ≡ false
high_not_low u h = let r = high_range u h in below 56320 57344 u r.1

pub high_no_scalar : (u : ℕ) → is_high u ≡ true → scalar u ≡ false
high_no_scalar u h = let r = high_range u h in let low : 55296 ≤ u = r.0 in let up : u < 57344 = omega (arith, r.1) in rw (le-ltb u 55296 low, lt-leb 57344 u up) refl

-- what a unit of each half may be
abbrev pub IsHalf : Half → ℕ → Type 0
IsHalf first_unit u = is_low u ≡ false
IsHalf (second_unit h) u = is_low u ≡ true

not_true : (x : Bool) → x ≡ false → not x ≡ true
not_true x e = rw e refl

true_if : (x : Bool) → (x ≡ false → ⊥) → x ≡ true
true_if true h = refl
true_if false h = absurd (h refl)

low_front : (v : ℕ) → (220 ≤ v) × (v < 224) → is_low_front v ≡ true
low_front v h = rw (le-leb 220 v h.0, lt-ltb v 224 h.1) refl

pub low_by : (u : ℕ) → 56320 ≤ u → u < 57344 → is_low u ≡ true
low_by u l h = rw (le-leb 56320 u l, lt-ltb u 57344 h) refl

-- the tests of the first two digits pass
pub fronts : (half : Half) (p q r s : ℕ) → q < 16 → r < 16 → s < 16 → IsHalf half (((p * 16 + q) * 16 + r) * 16 + s)
    → (first_digit half p ≡ true) × (two_digits half (p * 16 + q) ≡ true)
fronts first_unit p q r s hq hr hs h = (refl, not_true (is_low_front (p * 16 + q)) (by (order (p * 16 + q) 220) (order (p * 16 + q) 224)))
  where
    by : (p * 16 + q < 220) ⊎ (220 ≤ p * 16 + q) → (p * 16 + q < 224) ⊎ (224 ≤ p * 16 + q) → is_low_front (p * 16 + q) ≡ false
    by (inl a) _ = below 220 224 (p * 16 + q) a
    by (inr a) (inr b) = above 220 224 (p * 16 + q) b
    by (inr a) (inl b) = let yes = low_by (((p * 16 + q) * 16 + r) * 16 + s) (omega arith) (omega arith) in absurd cc
fronts (second_unit high) p q r s hq hr hs h =
    let t = low_range (((p * 16 + q) * 16 + r) * 16 + s) h in
    let l = t.0 in let u = t.1 in
    let thirteen : p ≡ 13 = omega arith in
    (eq-eqb p 13 thirteen, low_front (p * 16 + q) (omega arith, omega arith))

pub is_high_by : (u : ℕ) → 55296 ≤ u → u < 56320 → is_high u ≡ true
is_high_by u l h = rw (le-leb 55296 u l, lt-ltb u 56320 h) refl

pub front_range : (v : ℕ) → is_low_front v ≡ true → (220 ≤ v) × (v < 224)
front_range v h = let t = and_parts (nat_le 220 v) (nat_lt v 224) h in (leb-true 220 v t.0, ltb-true v 224 t.1)

pub no_front : (v : ℕ) → not (is_low_front v) ≡ true → (v < 220) ⊎ (224 ≤ v)
no_front v h = by (order v 220) (order v 224)
  where
    by : (v < 220) ⊎ (220 ≤ v) → (v < 224) ⊎ (224 ≤ v) → (v < 220) ⊎ (224 ≤ v)
    by (inl a) _ = inl a
    by (inr a) (inr b) = inr b
    by (inr a) (inl b) = let yes = low_front v (a, b) in absurd cc
