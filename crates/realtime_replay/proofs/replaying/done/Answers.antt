use Rattle.std.proofs.Common.{refl, subst}
use Rattle.realtime_replay.specs.Answers.{clusters, no_command, not_built, runs}
use Rattle.realtime_replay.specs.Words.{IsCommand}
use Rattle.realtime_replay.proofs.Tells.{all_untouched, differs_from}
use Rattle.realtime_replay.proofs.replaying.done.Goals as goal

pub returns-in-None : goal.returns-in-None
returns-in-None g c = no_command c.in-None.ensures (all_untouched refl refl refl)

pub returns-in-Some-Replay : goal.returns-in-Some-Replay
returns-in-Some-Replay g c =
    runs (subst (IsCommand _) c.in-Some-Replay.field-0-is c.in-Some-Replay.ensures) c.status_after.ensures

pub returns-in-Some-Cluster : goal.returns-in-Some-Cluster
returns-in-Some-Cluster g c =
    clusters (subst (IsCommand _) c.in-Some-Cluster.field-0-is c.in-Some-Cluster.ensures) refl c.cluster_status.ensures

pub returns-in-Some-Audit : goal.returns-in-Some-Audit
returns-in-Some-Audit g c =
    not_built c.in-Some-Audit.field-0 c.in-Some-Audit.ensures (differs_from c.in-Some-Audit.field-0-is (λ e. cc))
    (differs_from c.in-Some-Audit.field-0-is (λ e. cc)) (all_untouched refl refl refl)

pub returns-in-Some-Check : goal.returns-in-Some-Check
returns-in-Some-Check g c =
    not_built c.in-Some-Check.field-0 c.in-Some-Check.ensures (differs_from c.in-Some-Check.field-0-is (λ e. cc))
    (differs_from c.in-Some-Check.field-0-is (λ e. cc)) (all_untouched refl refl refl)

pub returns-in-Some-Generate : goal.returns-in-Some-Generate
returns-in-Some-Generate g c =
    not_built c.in-Some-Generate.field-0 c.in-Some-Generate.ensures
    (differs_from c.in-Some-Generate.field-0-is (λ e. cc))
    (differs_from c.in-Some-Generate.field-0-is (λ e. cc)) (all_untouched refl refl refl)
