-- A text names one commit time at most.
use Rattle.std.proofs.Common.{◌≡◌, ℕ, ℤ, suc, ◌-◌, ◌⊎◌, inl, inr, Bool, true, false, List, ◌∷◌, ◌++◌, length, refl, sym, ap, ◌∙◌, subst, arith, append_assoc}
use Rattle.jiff.specs.Types.{DateTime}
use Rattle.jiff.proofs.Family.{same_datetime}
use Rattle.jiff_fmt.specs.Text.{pad2}
use Rattle.rt_wal.specs.Times.{sign_of, IsOffsetText, IsClockText, IsInstantOf, IsInstant, IsMoment, utc_text}
use Rattle.rt_wal.proofs.Offsets.{offset_length}
use Rattle.rt_wal.proofs.Instants.{split_same, same_utc}

-- a longer offset ends in a colon and two digits
clock_tail : (offset : List ℕ) (seconds : ℤ) → IsOffsetText offset seconds → length offset ≡ 6 → (front : List ℕ) × (minutes : ℕ) × (offset ≡ front ++ 58 ∷ pad2 minutes)
clock_tail offset seconds x six = by_clock x.written
  where
    by_clock : IsClockText x.clock x.hours x.minutes → (front : List ℕ) × (minutes : ℕ) × (offset ≡ front ++ 58 ∷ pad2 minutes)
    by_clock (inl e) = (sign_of x.is_west ∷ pad2 x.hours, x.minutes, x.parts ∙ ap (λ c. sign_of x.is_west ∷ c) e)
    by_clock (inr h) =
        let short : length offset ≡ 3 = ap length x.parts ∙ ap (λ (c : List ℕ). suc (length c)) h.0 in
        absurd (omega (arith, six, short))

no_colon : (is_west : Bool) → sign_of is_west ≡ 58 → ⊥
no_colon true e = absurd (omega (arith, e))
no_colon false e = absurd (omega (arith, e))

-- no text ends in a short offset and in a long one
not_both : (text civil civil' long short : List ℕ) (a b : ℤ) → text ≡ civil ++ long → text ≡ civil' ++ short → IsOffsetText long a → IsOffsetText short b → length long ≡ 6 → length short ≡ 3 → ⊥
not_both text civil civil' long short a b e e' x y six three =
    let tail = clock_tail long a x six in
    let whole : text ≡ (civil ++ tail.0) ++ 58 ∷ pad2 tail.1 = e ∙ ap (λ l. civil ++ l) tail.2 ∙ sym (append_assoc civil tail.0 (58 ∷ pad2 tail.1)) in
    let colon = split_same text (civil ++ tail.0) (58 ∷ pad2 tail.1) 3 (length text - 3) whole refl refl in
    let sign = split_same text civil' short 3 (length text - 3) e' three refl in
    let same : 58 ∷ pad2 tail.1 ≡ sign_of y.is_west ∷ y.clock = sym colon.1 ∙ sign.1 ∙ y.parts in
    let first : sign_of y.is_west ≡ 58 = cc in
    no_colon y.is_west first

-- the same parts are the same instant
same_parts : (text : List ℕ) (a b : DateTime) (n : ℕ) (x : IsInstant text a) (y : IsInstant text b) → length x.offset ≡ n → length y.offset ≡ n → a ≡ b
same_parts text a b n x y l k =
    let p = split_same text x.civil x.offset n (length text - n) x.parts l refl in
    let q = split_same text y.civil y.offset n (length text - n) y.parts k refl in
    let civil : y.civil ≡ x.civil = sym q.0 ∙ p.0 in
    let offset : y.offset ≡ x.offset = sym q.1 ∙ p.1 in
    let moved : IsInstantOf x.civil x.offset b = subst (λ (c : List ℕ). IsInstantOf c x.offset b) civil (subst (λ (o : List ℕ). IsInstantOf y.civil o b) offset y.instant) in
    let other = same_utc x.civil x.offset x.instant.local x.instant.seconds b x.instant.is_civil x.instant.is_offset moved in
    same_datetime a b (x.instant.is_utc.0 ∙ sym other.0)

one_instant : (text : List ℕ) (a b : DateTime) → IsInstant text a → IsInstant text b → a ≡ b
one_instant text a b x y =
    by_length (offset_length x.offset x.instant.seconds x.instant.is_offset) (offset_length y.offset y.instant.seconds y.instant.is_offset)
  where
    by_length : (length x.offset ≡ 6) ⊎ (length x.offset ≡ 3) → (length y.offset ≡ 6) ⊎ (length y.offset ≡ 3) → a ≡ b
    by_length (inl l) (inl k) = same_parts text a b 6 x y l k
    by_length (inl l) (inr k) =
        absurd (not_both text x.civil y.civil x.offset y.offset x.instant.seconds y.instant.seconds x.parts y.parts x.instant.is_offset y.instant.is_offset l k)
    by_length (inr l) (inl k) =
        absurd (not_both text y.civil x.civil y.offset x.offset y.instant.seconds x.instant.seconds y.parts x.parts y.instant.is_offset x.instant.is_offset k l)
    by_length (inr l) (inr k) = same_parts text a b 3 x y l k

pub moment_once : (text a b : List ℕ) → IsMoment text a → IsMoment text b → a ≡ b
moment_once text a b x y = x.2 ∙ ap utc_text (one_instant text x.0 y.0 x.1 y.1) ∙ sym y.2
