use Rattle.std.proofs.Common.{◌≡◌, ◌∷◌, List, ℕ, subst, sym, ◌∙◌}
use Rattle.rt_wal.specs.Times.{IsClockText, sign_of}
use Rattle.rt_wal.proofs.times.offset_in.Goals as goal

pub returns-in_err-hours-clause-none : goal.returns-in_err-hours-clause-none
returns-in_err-hours-clause-none c = rw c.from_residual-in_err-hours.ensures (λ seconds h.
    let both : sign_of h.is_west ∷ h.clock ≡ c.in_ok-sign.sign.now ∷ c.in_ok-sign.clock.now = sym h.parts ∙ c.in_ok-sign.ensures.cases.0 in
    let same : h.clock ≡ c.in_ok-sign.clock.now = cc in
    c.in_err-hours.ensures h.hours h.minutes h.hours_in h.minutes_in (subst (λ (t : List ℕ). IsClockText t h.hours h.minutes) same h.written))
