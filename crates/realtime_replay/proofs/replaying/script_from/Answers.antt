use Rattle.std.proofs.lemmas.Result.{err_from_is_err_and}
use Rattle.realtime_replay.proofs.Tells.{no_script}
use Rattle.realtime_replay.proofs.replaying.script_from.Goals as goal

pub returns-in_err-script-clause-cause : goal.returns-in_err-script-clause-cause
returns-in_err-script-clause-cause g c =
    let p = err_from_is_err_and c.from_residual-in_err-script.result c.from_residual-in_err-script.ensures.1 in
    rw (p.1, p.2) (no_script _ _ _ _ _ c.in_ok-text.ensures.whole c.get.ensures c.in_err-script.ensures.only)
