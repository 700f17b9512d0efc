-- What each answer of the program tells of its words, of the two sources and of the output. For the first that applies,
-- in this order: the words, reading the catalogue, the catalogue, reading the script, the script, the writing. Want of
-- memory alone may come in place of any.
use Rattle.std.specs.Prelude.{◌≡◌, ◌≢◌, ◌⊎◌, ℕ, ◌≤◌, List, length, Some}
use Rattle.rt_io.specs.Streams.{Puts}
use Rattle.rt_io.specs.Whole.{PutsFront}
use Rattle.rt_entry.specs.declared.input.Input.{Input}
use Rattle.rt_script.specs.Reading.{default_settings}
use Rattle.rt_script.specs.Running.{printed_due}
use Rattle.rt_first.specs.First.{catalog_of, AreInputsOf}
use Rattle.rt_form.specs.Script.{IsScript}
use Rattle.rt_form.specs.Statements.{IsCatalogue}
use Rattle.rt_form.specs.declared.catalogue.Catalogue.{Catalogue}
use Rattle.rt_form.specs.declared.script.Script.{Script}
use Rattle.realtime_replay.specs.Clusters.{ClusterTells}
use Rattle.realtime_replay.specs.Flows.{Flow, Gave, HasFailed, IsTooLong, IsUntouched, IsStatus, most_bytes}
use Rattle.realtime_replay.specs.Words.{IsCommand, NoCommand}
use Rattle.realtime_replay.specs.declared.words.Command.{Command}
use Rattle.realtime_replay.specs.declared.words.Command.TheVariants.{Replay, Cluster}
use Rattle.realtime_replay.specs.declared.status.Status.{Status}
use Rattle.realtime_replay.specs.declared.status.Status.TheVariants as s

-- the source gave the text of a catalogue of the first form
pub record HasCatalogue (source : Flow) (c : Catalogue) : Type 0 where
  pub text : List ℕ
  pub gave : Gave source text
  pub is : IsCatalogue text c

-- it gave a text that is none
pub record HasNoCatalogue (source : Flow) : Type 0 where
  pub text : List ℕ
  pub gave : Gave source text
  pub none : (c : Catalogue) → IsCatalogue text c → ⊥

-- the texts of both sources are of the first form, and they mean a catalogue and these inputs
pub record Means (catalogue script : Flow) (c : Catalogue) (journal : List Input) : Type 0 where
  pub has : HasCatalogue catalogue c
  pub text : List ℕ
  pub gave : Gave script text
  pub inputs : AreInputsOf c text journal

-- the catalogue's is, and the script's isn't
pub record HasNoScript (catalogue script : Flow) : Type 0 where
  pub c : Catalogue
  pub has : HasCatalogue catalogue c
  pub text : List ℕ
  pub gave : Gave script text
  pub none : (d : Catalogue) (s : Script) → IsCatalogue has.text d → IsScript d text s → ⊥

-- all that is due by the inputs, as it is printed
abbrev pub due_bytes : Catalogue → List Input → List ℕ
due_bytes c journal = printed_due (catalog_of c) default_settings journal

-- the output was given exactly what is due
pub record Ran (catalogue script out : Flow) : Type 0 where
  pub c : Catalogue
  pub journal : List Input
  pub means : Means catalogue script c journal
  pub put : Puts out.before out.after (due_bytes c journal)

-- it failed, and was given some first bytes of that
pub record RanInPart (catalogue script out : Flow) : Type 0 where
  pub c : Catalogue
  pub journal : List Input
  pub means : Means catalogue script c journal
  pub put : PutsFront out.before out.after (due_bytes c journal)
  pub failed : HasFailed out

-- something befell the catalogue's source before the script's was read, or the script's behind a catalogue of the form
abbrev pub Befell : (Flow → Type 0) → Flow → Flow → Type 0
Befell P catalogue script = (P catalogue × IsUntouched script) ⊎ ((c : Catalogue) × HasCatalogue catalogue c × P script)

-- what the status of a run tells
abbrev pub RunTells : Flow → Flow → Flow → Status → Type 0
RunTells catalogue script out s.Ok = Ran catalogue script out
RunTells catalogue script out s.Usage = ⊥
RunTells catalogue script out (s.Refused line) = ⊥
RunTells catalogue script out s.ReadFault = Befell HasFailed catalogue script × IsUntouched out
RunTells catalogue script out s.WriteFault = RanInPart catalogue script out
RunTells catalogue script out s.NoMemory = IsUntouched out
RunTells catalogue script out s.TooLong = Befell IsTooLong catalogue script × IsUntouched out
RunTells catalogue script out s.NotBuilt =
    ((HasNoCatalogue catalogue × IsUntouched script) ⊎ HasNoScript catalogue script) × IsUntouched out

pub record AllUntouched (catalogue script out : Flow) : Type 0 where
  pub catalogue_is : IsUntouched catalogue
  pub script_is : IsUntouched script
  pub out_is : IsUntouched out

-- what the program's status tells, by its words
pub data Tells (words : List (List ℕ)) (catalogue script out : Flow) : Status → Type 0 where
  no_command : NoCommand words → AllUntouched catalogue script out → Tells words catalogue script out s.Usage
  -- a command that isn't built
  not_built : (command : Command) → IsCommand words command → command ≢ Replay → command ≢ Cluster
      → AllUntouched catalogue script out → Tells words catalogue script out s.NotBuilt
  runs : {status : Status} → IsCommand words Replay → RunTells catalogue script out status
      → Tells words catalogue script out status
  clusters : {status : Status} → IsCommand words Cluster → IsUntouched catalogue → ClusterTells script out status
      → Tells words catalogue script out status

-- Both texts are known and not too long, and no source and no sink failed in the call.
pub record IsCalm (catalogue script out : Flow) (text lines : List ℕ) : Type 0 where
  pub catalogue_is : catalogue.before ≡ Some text
  pub script_is : script.before ≡ Some lines
  pub catalogue_fits : length text ≤ most_bytes
  pub script_fits : length lines ≤ most_bytes
  pub catalogue_holds : HasFailed catalogue → ⊥
  pub script_holds : HasFailed script → ⊥
  pub out_holds : HasFailed out → ⊥

-- the texts are of the first form
pub record AreOfForm (text lines : List ℕ) : Type 0 where
  pub c : Catalogue
  pub script : Script
  pub is_catalogue : IsCatalogue text c
  pub is_script : IsScript c lines script

-- so the status is Ok where they are, and NotBuilt where they aren't
pub record IsComplete (text lines : List ℕ) (result : Status) : Type 0 where
  pub built : AreOfForm text lines → IsStatus s.Ok result
  pub unbuilt : (AreOfForm text lines → ⊥) → IsStatus s.NotBuilt result
