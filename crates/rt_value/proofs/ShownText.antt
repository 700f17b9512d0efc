-- What the library prints of a date and a time of day is what the definitions show.
use Rattle.std.proofs.Common.{◌≡◌, ℕ, ◌+◌, ◌*◌, ◌/◌, ◌%◌, ◌<◌, ◌==◌, Bool, cond, List, [], ◌∷◌, ◌++◌, take, Some, refl, sym, ap, ◌∙◌, subst, arith, inl, inr, pos, ◌+ℤ◌, ne_eqb}
use Rattle.std.proofs.lemmas.Bool.Decides.{eqb_tells}
use Rattle.jiff_core.specs.declared.civil.date.Date.{Date}
use Rattle.jiff_core.specs.declared.civil.time.Time.{Time}
use Rattle.jiff_core.specs.Date.{epoch_day}
use Rattle.jiff_core.proofs.DateLemmas.{epoch_day_injective}
use Rattle.jiff_core.proofs.SignedLemmas.{signed_arith}
use Rattle.jiff_fmt.specs.Text.{date_text, time_text, fraction_part, places}
use Rattle.rt_value.specs.Calendar.{year_at, month_at, day_of_month_at}
use Rattle.rt_value.specs.Moments.{six_digits, fraction_places, fraction_shown, date_shown, clock_shown}
use Rattle.rt_value.proofs.CalendarDays.{date_at, library_day}

library_date : (d : Date) (n : ℕ) → n < 3652059 → epoch_day d +ℤ pos 4371587 ≡ pos (3652425 + n)
    → (d.year ≡ pos (year_at n)) × (d.month ≡ month_at n) × (d.day ≡ day_of_month_at n)
library_date d n h e =
    let at = date_at n h in
    let f = at.fits in
    let number = library_day (year_at n) (month_at n) (day_of_month_at n) f.year.0 f.month.0 f.month.1 f.day.0 in
    let mine : Date = record {
      year = pos (year_at n);
      month = month_at n;
      day = day_of_month_at n;
      year_in = (omega (arith, signed_arith), omega (arith, signed_arith, f.year.1));
      month_in = f.month;
      day_in = f.day;
    } in
    epoch_day_injective d mine (omega (arith, signed_arith, e, number, at.is))

pub date_printed : (d : Date) (n : ℕ) → n < 3652059 → epoch_day d +ℤ pos 4371587 ≡ pos (3652425 + n) → date_text d
    ≡ date_shown n
unfolding date_shown
date_printed d n h e = let p = library_date d n h e in rw (p.0, p.1, p.2) refl

places_six : (u : ℕ) → u < 1000000 → places 6 1000000000 (u * 1000) ≡ six_digits u
unfolding places
places_six u h =
    let a : 48 + u * 1000 / 100000000 ≡ 48 + u / 10000 / 10 = omega arith in
    let b : 48 + u * 1000 % 100000000 / 10000000 ≡ 48 + u / 10000 % 10 = omega arith in
    let c : 48 + u * 1000 % 100000000 % 10000000 / 1000000 ≡ 48 + u / 100 % 100 / 10 = omega arith in
    let d : 48 + u * 1000 % 100000000 % 10000000 % 1000000 / 100000 ≡ 48 + u / 100 % 100 % 10 = omega arith in
    let e : 48 + u * 1000 % 100000000 % 10000000 % 1000000 % 100000 / 10000 ≡ 48 + u % 100 / 10 = omega arith in
    let f : 48 + u * 1000 % 100000000 % 10000000 % 1000000 % 100000 % 10000 / 1000 ≡ 48 + u % 100 % 10 = omega arith in
    λ i. a i ∷ b i ∷ c i ∷ d i ∷ e i ∷ f i ∷ []

choose : (P : ℕ → Type 0) (n k rest : ℕ) → (n ≡ 0 → P k) → ((n ≡ 0 → ⊥) → P rest) → P (cond (n == 0) k rest)
choose P n k rest zero other =
    elim (eqb_tells n 0) [
      | inl t ↦ subst (λ (b : Bool). P (cond b k rest)) (sym t.0) (zero t.1)
      | inr t ↦ subst (λ (b : Bool). P (cond b k rest)) (sym t.0) (other t.1)
    ]

-- how many places, by cases
pub by_places : (u : ℕ) (P : ℕ → Type 0) → (u ≡ 0 → P 0) → ((u ≡ 0 → ⊥) → u % 100000 ≡ 0 → P 1) →
    ((u ≡ 0 → ⊥) → u % 10000 ≡ 0 → P 2)
    → ((u ≡ 0 → ⊥) → u % 1000 ≡ 0 → P 3) → ((u ≡ 0 → ⊥) → u % 100 ≡ 0 → P 4) → ((u ≡ 0 → ⊥) → u % 10 ≡ 0 → P 5) →
    ((u ≡ 0 → ⊥) → P 6)
    → P (fraction_places u)
unfolding fraction_places
by_places u P f0 f1 f2 f3 f4 f5 f6 =
    choose P u 0 _ f0 (λ z. choose P (u % 100000) 1 _ (f1 z)
    (λ _. choose P (u % 10000) 2 _ (f2 z) (λ _. choose P (u % 1000) 3 _ (f3 z)
    (λ _. choose P (u % 100) 4 _ (f4 z) (λ _. choose P (u % 10) 5 6 (f5 z) (λ _. f6 z))))))

-- the fraction with so many places
abbrev pub with_places : ℕ → ℕ → List ℕ
with_places u k = cond (u == 0) [] (46 ∷ take k (six_digits u))

abbrev PrintsWith : ℕ → ℕ → Type 0
PrintsWith u k = fraction_part (Some k) (u * 1000) ≡ with_places u k

some_places : (u k : ℕ) → u < 1000000 → (places k 1000000000 (u * 1000) ≡ take k (places 6 1000000000 (u * 1000))) →
    (fraction_part (Some k) (u * 1000) ≡ 46 ∷ places k 1000000000 (u * 1000))
    → (u ≡ 0 → ⊥) → PrintsWith u k
some_places u k h front whole z =
    whole ∙ ap (λ xs. 46 ∷ xs) (front ∙ ap (take k) (places_six u h)) ∙ sym
    (ap (λ b. cond b [] (46 ∷ take k (six_digits u))) (ne_eqb _ _ z))

pub fraction_printed : (u : ℕ) → u < 1000000 → fraction_part (Some (fraction_places u)) (u * 1000) ≡ fraction_shown u
unfolding fraction_shown places
fraction_printed u h =
    by_places u (PrintsWith u)
    (λ z. rw z refl)
    (λ z _. some_places u 1 h refl refl z)
    (λ z _. some_places u 2 h refl refl z)
    (λ z _. some_places u 3 h refl refl z)
    (λ z _. some_places u 4 h refl refl z)
    (λ z _. some_places u 5 h refl refl z)
    (λ z. some_places u 6 h refl refl z)

pub clock_printed : (t : Time) (seconds u : ℕ) → u < 1000000 → t.hour ≡ seconds / 3600 → t.minute ≡ seconds / 60 % 60
    → t.second ≡ seconds % 60
    → t.subsec_nanosecond ≡ u * 1000 → time_text (Some (fraction_places u)) t ≡ clock_shown seconds ++ fraction_shown u
unfolding clock_shown
clock_printed t seconds u h hour minute second subsec =
    rw (hour, minute, second, subsec, fraction_printed u h) refl
