use Rattle.realtime_replay.proofs.Nodes.{complete_cluster}
use Rattle.realtime_replay.proofs.Tells.{complete, unbuilt, usage}
use Rattle.realtime_replay.proofs.replaying.replay.Goals as goal

pub returns-clause-others : goal.returns-clause-others
returns-clause-others g c = usage _ _ _ _ _ c.done-status.ensures

pub returns-clause-unbuilt : goal.returns-clause-unbuilt
returns-clause-unbuilt g c = λ command. unbuilt _ _ _ _ _ command c.done-status.ensures

pub returns-clause-complete : goal.returns-clause-complete
returns-clause-complete g c = λ text lines. complete _ _ _ _ text lines _ c.done-status.ensures

pub returns-clause-complete_cluster : goal.returns-clause-complete_cluster
returns-clause-complete_cluster g c = λ lines. complete_cluster _ _ _ _ lines _ c.done-status.ensures
