use Rattle.std.proofs.Common.{◌≡◌, ℕ, pos, ◌≤ℤ◌, sym, ◌∙◌, subst, Some, false, arith, rules}
use Rattle.std.proofs.lemmas.Int.{ints}
use Rattle.jiff.specs.Types.{DateTime}
use Rattle.jiff.specs.Words.{datetime_text}
use Rattle.rt_wal.specs.Times.{IsCivilText}
use Rattle.rt_wal.proofs.CivilText.{civil_text_length, one_length, reads, whole_of, spells}
use Rattle.rt_wal.proofs.times.civil_time.Goals.{else-is_spelling-via-then-is_spelling+else-local-ge1, else-is_spelling-via-else-is_spelling}
use Rattle.rt_wal.proofs.times.civil_time.Goals as goal

pub returns-in_err-places-clause-none : goal.returns-in_err-places-clause-none
returns-in_err-places-clause-none c = rw c.from_residual.ensures (λ local h. c.in_err-places.ensures h.places h.few (civil_text_length c.args.text.now local h))

pub returns-in_default-clause-none : goal.returns-in_default-clause-none
returns-in_default-clause-none c = λ local h.
    let read = reads c.args.text.now local h in
    let failed = c.in_default.ensures in
    cc

pub returns-then-local-ge1-clause-some : goal.returns-then-local-ge1-clause-some
returns-then-local-ge1-clause-some c =
    let text = c.args.text.now in
    let local = c.in-Ok.local in
    let places = c.in_ok-places.places in
    let written : text ≡ datetime_text false 32 (Some places) local = search rules in
    let year : pos 1 ≤ℤ local.date.year = omega (arith, ints) in
    subst (λ (dt : DateTime). IsCivilText text dt) (sym c.from_plain.ensures) (record {
      places = places;
      few = c.in_ok-places.ensures.0;
      written = written;
      whole = whole_of text places local c.in_ok-places.ensures.0 written (sym c.in-Ok.ensures);
      year = year;
    })

pub returns-else-is_spelling-clause-none : goal.returns-else-is_spelling-clause-none
returns-else-is_spelling-clause-none c = λ local h.
    let text = c.args.text.now in
    let both = spells text local c.in-Ok.local h (sym c.in-Ok.ensures) in
    let places = one_length h.places c.in_ok-places.places h.few c.in_ok-places.ensures.0 (sym (civil_text_length text local h) ∙ c.in_ok-places.ensures.1) in
    let written : text ≡ datetime_text false 32 (Some c.in_ok-places.places) c.in-Ok.local = subst (λ (k : ℕ). text ≡ datetime_text false 32 (Some k) c.in-Ok.local) places both.0 in
    elim c.else-is_spelling.branch [
      | else-is_spelling-via-then-is_spelling+else-local-ge1 w ↦ let late = w.if-local-ge1.false in let year = both.1 in absurd (omega (arith, ints))
      | else-is_spelling-via-else-is_spelling w ↦ let is = c.is_spelling.ensures.1 written in let wrong = w.if-is_spelling.false in cc
    ]
