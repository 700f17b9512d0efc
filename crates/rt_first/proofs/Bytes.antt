-- Names that are one, or differ.
use Rattle.std.proofs.Common.{◌≡◌, ℕ, Bool, true, false, List, refl, inl, inr}
use Rattle.std.specs.Prelude.{◌≢◌, ◌==◌}
use Rattle.std.specs.Str.{bytes_eq}
use Rattle.std.proofs.lemmas.Bool.Decides.{eqb_tells}
use Rattle.std.proofs.lemmas.Slice.Eq.{bytes_eq-Decides}

pub same_name : (name : List ℕ) → bytes_eq name name ≡ true
same_name name = (bytes_eq-Decides name name).1 refl

pub other_name : (name other : List ℕ) → name ≢ other → bytes_eq name other ≡ false
other_name name other ne = by (bytes_eq name other) (bytes_eq-Decides name other).0
  where
    by : (b : Bool) → (b ≡ true → name ≡ other) → b ≡ false
    by true h = absurd (ne (h refl))
    by false h = refl

pub same_number : (n : ℕ) → (n == n) ≡ true
same_number n = elim (eqb_tells n n) [ inl t ↦ t.0 | inr t ↦ absurd (t.1 refl) ]

pub other_number : (n m : ℕ) → n ≢ m → (n == m) ≡ false
other_number n m ne = elim (eqb_tells n m) [ inl t ↦ absurd (ne t.1) | inr t ↦ t.0 ]
