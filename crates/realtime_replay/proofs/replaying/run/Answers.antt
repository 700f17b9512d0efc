use Rattle.std.proofs.Common.{refl, ◌∙◌}
use Rattle.std.proofs.lemmas.Result.{err_from_is_err_and}
use Rattle.realtime_replay.proofs.Tells.{ended_behind, ran, ran_in_part}
use Rattle.realtime_replay.proofs.replaying.run.Goals as goal

pub returns-in_err-steps-clause-cause : goal.returns-in_err-steps-clause-cause
returns-in_err-steps-clause-cause g c =
    let p = err_from_is_err_and c.from_residual-in_err-steps.result c.from_residual-in_err-steps.ensures.1 in
    rw (p.1, p.2) (ended_behind _ _ _ _ _ c.in_ok-form.ensures.found refl c.in_err-steps.ensures.cause)

pub returns-in_err-write_all-clause-cause : goal.returns-in_err-write_all-clause-cause
returns-in_err-write_all-clause-cause g c =
    let p = err_from_is_err_and c.from_residual-in_err-write_all.result c.from_residual-in_err-write_all.ensures.1 in
    rw (p.1, p.2)
    (ran_in_part _ _ _ _ _ _ c.given_is_due.ensures c.in_ok-form.ensures.found c.in_ok-steps.ensures.found
    (c.get.ensures ∙ c.in_ok-bytes.ensures) c.in_err-write_all.ensures.front c.in_err-write_all.ensures.cause)

pub returns-clause-ran : goal.returns-clause-ran
returns-clause-ran g c =
    ran _ _ _ _ _ _ c.given_is_due.ensures c.in_ok-form.ensures.found c.in_ok-steps.ensures.found
    (c.get.ensures ∙ c.in_ok-bytes.ensures) c.in_ok-write_all.ensures.whole
