use Rattle.std.proofs.lemmas.Result.{err_from_is_err_and}
use Rattle.realtime_replay.proofs.Tells.{no_catalogue, one_catalogue}
use Rattle.realtime_replay.proofs.replaying.catalogue_from.Goals as goal

pub returns-in_err-catalogue-clause-cause : goal.returns-in_err-catalogue-clause-cause
returns-in_err-catalogue-clause-cause g c =
    let p = err_from_is_err_and c.from_residual-in_err-catalogue.result c.from_residual-in_err-catalogue.ensures.1 in
    rw (p.1, p.2) (no_catalogue _ _ _ _ c.in_ok-text.ensures.whole c.get.ensures c.in_err-catalogue.ensures.only)

pub returns-clause-found : goal.returns-clause-found
returns-clause-found g c =
    one_catalogue _ _ _ _ c.in_ok-text.ensures.whole c.get.ensures
    c.in_ok-catalogue.ensures.found c.in_ok-catalogue.ensures.only
