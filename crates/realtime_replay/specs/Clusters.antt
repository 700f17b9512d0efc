-- What the answers to `cluster` tell of the script's source and of the output.
use Rattle.std.specs.Prelude.{◌≡◌, ℕ, ◌≤◌, List, length, Some}
use Rattle.rt_io.specs.Streams.{Puts}
use Rattle.rt_io.specs.Whole.{PutsFront}
use Rattle.rt_cluster_script.specs.Script.{Shows, Refuses}
use Rattle.realtime_replay.specs.Flows.{Flow, Gave, HasFailed, IsTooLong, IsUntouched, most_bytes, IsStatus}
use Rattle.realtime_replay.specs.declared.fault.RunFault.{RunFault}
use Rattle.realtime_replay.specs.declared.fault.RunFault.TheVariants as f
use Rattle.realtime_replay.specs.declared.status.Status.{Status}
use Rattle.realtime_replay.specs.declared.status.Status.TheVariants as s

-- the source gave the text of a script of nodes that shows the bytes
pub record HasShown (source : Flow) (bytes : List ℕ) : Type 0 where
  pub text : List ℕ
  pub gave : Gave source text
  pub is : Shows text bytes

-- it gave a text whose first refused line is this
pub record HasRefused (source : Flow) (line : ℕ) : Type 0 where
  pub text : List ℕ
  pub gave : Gave source text
  pub is : Refuses text line

-- what a fault tells of the source
abbrev pub NodesTell : Flow → RunFault → Type 0
NodesTell source f.NoMemory = Unit {0}
NodesTell source (f.Refused line) = HasRefused source line
NodesTell source f.ReadFault = HasFailed source
NodesTell source f.TooLong = IsTooLong source
NodesTell source f.NotBuilt = ⊥
NodesTell source f.WriteFault = ⊥

-- the output was given exactly what the script shows
pub record ShownAll (script out : Flow) : Type 0 where
  pub bytes : List ℕ
  pub has : HasShown script bytes
  pub put : Puts out.before out.after bytes

-- it failed, and was given some first bytes of that
pub record ShownInPart (script out : Flow) : Type 0 where
  pub bytes : List ℕ
  pub has : HasShown script bytes
  pub put : PutsFront out.before out.after bytes
  pub failed : HasFailed out

-- what the status of a run of nodes tells
abbrev pub ClusterTells : Flow → Flow → Status → Type 0
ClusterTells script out s.Ok = ShownAll script out
ClusterTells script out s.Usage = ⊥
ClusterTells script out (s.Refused line) = HasRefused script line × IsUntouched out
ClusterTells script out s.ReadFault = HasFailed script × IsUntouched out
ClusterTells script out s.WriteFault = ShownInPart script out
ClusterTells script out s.NoMemory = IsUntouched out
ClusterTells script out s.TooLong = IsTooLong script × IsUntouched out
ClusterTells script out s.NotBuilt = ⊥

-- The script's text is known and not too long, and neither its source nor the output failed in the call.
pub record IsCalmAlone (script out : Flow) (lines : List ℕ) : Type 0 where
  pub script_is : script.before ≡ Some lines
  pub script_fits : length lines ≤ most_bytes
  pub script_holds : HasFailed script → ⊥
  pub out_holds : HasFailed out → ⊥

-- so the status is Ok where the script shows anything, and names the first refused line where one is refused
pub record IsClusterComplete (lines : List ℕ) (result : Status) : Type 0 where
  pub shown : (bytes : List ℕ) → Shows lines bytes → IsStatus s.Ok result
  pub refused : (line : ℕ) → Refuses lines line → IsStatus (s.Refused line) result
