use Rattle.std.proofs.Common.{sym, ap, ◌∙◌, option_copied}
use Rattle.rt_cluster.proofs.Indexed.{none_gone, none_updates, one_gone, taken_indexed}
use Rattle.rt_cluster.proofs.places.take.Goals as goal

pub returns-in-None-clause-marks : goal.returns-in-None-clause-marks
returns-in-None-clause-marks c =
    none_gone _ _ c.requires c.args.dot.now (sym c.get.ensures ∙ ap option_copied c.in-None.is)

pub returns-in-None-clause-places : goal.returns-in-None-clause-places
returns-in-None-clause-places c =
    none_updates _ _ c.requires c.args.dot.now (sym c.get.ensures ∙ ap option_copied c.in-None.is)

pub returns-clause-marks : goal.returns-clause-marks
returns-clause-marks c =
    one_gone _ _ c.requires c.args.dot.now c.in-Some.place.now (sym c.get.ensures ∙ ap option_copied c.in-Some.is) _
    c.in_ok-remove-in-Some.ensures.updates

pub returns-clause-index : goal.returns-clause-index
returns-clause-index c =
    taken_indexed _ _ c.requires c.args.dot.now _ _ (returns-clause-marks c) c.in_ok-remove.ensures.updates
