-- How the parts of a text are put together.
use Rattle.std.proofs.Common.{◌≡◌, ℕ, ℤ, ◌-◌, inl, inr, List, ◌++◌, length, take, drop, refl, sym, ap, ◌∙◌, arith, Option, Some, None, take_at, drop_at, length-append, subst}
use Rattle.std.specs.Prelude.{IfSome, IfNone}
use Rattle.jiff.specs.Types.{DateTime}
use Rattle.rt_wal.specs.Times.{IsCivilText, IsOffsetText, IsUtc, IsInstantOf, IsInstant, HasNoInstantAt}
use Rattle.rt_wal.proofs.CivilText.{one_civil}
use Rattle.rt_wal.proofs.Offsets.{one_offset, offset_length}

pub some_weaker : {A : Type 0} (o : Option A) (P Q : A → Type 0) → ((x : A) → P x → Q x) → IfSome o P → IfSome o Q
some_weaker (Some x) P Q f h = f x h
some_weaker None P Q f h = tt

pub none_weaker : {A : Type 0} (o : Option A) (P Q : Type 0) → (P → Q) → IfNone o P → IfNone o Q
none_weaker (Some x) P Q f h = tt
none_weaker None P Q f h = f h

-- an offset has six bytes or three
pub no_instant : (text : List ℕ) (o : Option DateTime) → HasNoInstantAt text 6 → IfNone o (HasNoInstantAt text 3) → IfNone o ((utc : DateTime) → IsInstant text utc → ⊥)
no_instant text (Some x) six three = tt
no_instant text None six three = λ utc h.
    elim (offset_length h.offset h.instant.seconds h.instant.is_offset) [
      | inl long ↦ six h.civil h.offset utc h.parts long h.instant
      | inr short ↦ three h.civil h.offset utc h.parts short h.instant
    ]

-- the front and the back of a text are its parts
pub split_same : (text civil zone : List ℕ) (n at : ℕ) → text ≡ civil ++ zone → length zone ≡ n → at ≡ length text - n → (take at text ≡ civil) × (drop at text ≡ zone)
split_same text civil zone n at e long is =
    let front : length civil ≡ at = omega (arith, ap length e, length-append civil zone, is, long) in
    (ap (take at) e ∙ take_at civil zone at front, ap (drop at) e ∙ drop_at civil zone at front)

-- the time in UTC is of any two readings of the same parts
pub same_utc : (civil offset : List ℕ) (local : DateTime) (seconds : ℤ) (utc : DateTime) → IsCivilText civil local → IsOffsetText offset seconds → IsInstantOf civil offset utc → IsUtc local seconds utc
same_utc civil offset local seconds utc c o h =
    let nanos = one_civil civil h.local local h.is_civil c in
    let zone = one_offset offset h.seconds seconds h.is_offset o in
    (h.is_utc.0 ∙ rw (nanos, zone) refl, h.is_utc.1)

pub no_instant_at : (text front back : List ℕ) (n at : ℕ) (o : Option DateTime) → at ≡ length text - n → front ≡ take at text → back ≡ drop at text
    → IfNone o ((utc : DateTime) → IsInstantOf front back utc → ⊥) → IfNone o (HasNoInstantAt text n)
no_instant_at text front back n at o is f b h = none_weaker o _ (HasNoInstantAt text n)
    (λ no civil offset utc parts long h.
    let same = split_same text civil offset n at parts long is in
    let P : List ℕ → List ℕ → Type 0 = λ c z. IsInstantOf c z utc in
    no utc (subst (λ (z : List ℕ). P front z) (sym (b ∙ same.1)) (subst (λ (c : List ℕ). P c offset) (sym (f ∙ same.0)) h)))
    h
