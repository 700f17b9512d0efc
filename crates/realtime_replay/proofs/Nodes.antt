-- What the status of a script of nodes tells.
use Rattle.std.proofs.Common.{ℕ, List, inl, inr, refl, subst}
use Rattle.rt_cluster_script.proofs.OneEnd.{never_both, refused_once}
use Rattle.rt_cluster_script.specs.Script.{Refuses, Shows}
use Rattle.realtime_replay.specs.Answers.{Tells, clusters, no_command, not_built, runs}
use Rattle.realtime_replay.specs.Clusters.{ClusterTells, HasRefused, HasShown, IsCalmAlone, IsClusterComplete}
use Rattle.realtime_replay.specs.Flows.{Flow}
use Rattle.realtime_replay.specs.Words.{IsCommand}
use Rattle.realtime_replay.specs.declared.status.Status.{Status}
use Rattle.realtime_replay.specs.declared.status.Status.TheVariants as s
use Rattle.realtime_replay.specs.declared.words.Command.TheVariants.{Cluster}
use Rattle.realtime_replay.proofs.Tells.{fits_not, gave_all, one_cluster, two_commands}

module _ (script out : Flow) (lines : List ℕ) (calm : IsCalmAlone script out lines) where
  shows : (bytes : List ℕ) → HasShown script bytes → Shows lines bytes
  shows bytes has = subst (λ t. Shows t bytes) (gave_all script lines has.text calm.script_is has.gave) has.is

  refuses : (line : ℕ) → HasRefused script line → Refuses lines line
  refuses line has = subst (λ t. Refuses t line) (gave_all script lines has.text calm.script_is has.gave) has.is

  complete_nodes : (status : Status) → ClusterTells script out status → IsClusterComplete lines status
  complete_nodes s.Ok h =
      record {
        shown = λ bytes is. inl refl;
        refused = λ line is. absurd (never_both lines h.bytes line (shows h.bytes h.has) is);
      }
  complete_nodes s.Usage h = absurd h
  complete_nodes (s.Refused first) h =
      record {
        shown = λ bytes is. absurd (never_both lines bytes first is (refuses first h.0));
        refused = λ line is. let e = refused_once lines first line (refuses first h.0) is in inl cc;
      }
  complete_nodes s.ReadFault h = absurd (calm.script_holds h.0)
  complete_nodes s.WriteFault h = absurd (calm.out_holds h.failed)
  complete_nodes s.NoMemory h = record { shown = λ bytes is. inr refl; refused = λ line is. inr refl }
  complete_nodes s.TooLong h = absurd (fits_not script lines calm.script_is calm.script_fits h.0)
  complete_nodes s.NotBuilt h = absurd h

-- with the script's text known and no fault, the status is the one that the text decides
pub complete_cluster : (words : List (List ℕ)) (catalogue script out : Flow) (lines : List ℕ) (status : Status)
    → Tells words catalogue script out status → IsCommand words Cluster → IsCalmAlone script out lines
    → IsClusterComplete lines status
complete_cluster words catalogue script out lines _ (no_command n same) is calm = absurd (n Cluster is)
complete_cluster words catalogue script out lines _ (not_built command h differs another same) is calm =
    absurd (another (one_cluster words command h is))
complete_cluster words catalogue script out lines status (runs h tells) is calm = absurd (two_commands words is h)
complete_cluster words catalogue script out lines status (clusters h kept tells) is calm =
    complete_nodes script out lines calm status tells
