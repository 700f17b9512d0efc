-- What the parts of a run make of one source.
use Rattle.std.specs.Prelude.{◌≡◌, List, ℕ}
use Rattle.rt_form.specs.Script.{IsScript}
use Rattle.rt_form.specs.Statements.{IsCatalogue}
use Rattle.rt_form.specs.declared.catalogue.Catalogue.{Catalogue}
use Rattle.rt_form.specs.declared.script.Script.{Script}
use Rattle.realtime_replay.specs.Answers.{HasCatalogue}
use Rattle.realtime_replay.specs.Flows.{Flow, Gave, HasFailed, IsTooLong}
use Rattle.realtime_replay.specs.declared.fault.RunFault.{RunFault}
use Rattle.realtime_replay.specs.declared.fault.RunFault.TheVariants as f

-- the one catalogue of the source's text
pub record HasOne (source : Flow) (c : Catalogue) : Type 0 where
  pub has : HasCatalogue source c
  pub only : (d : Catalogue) → IsCatalogue has.text d → c ≡ d

-- a script of the source's text
pub record HasScript (c : Catalogue) (source : Flow) (s : Script) : Type 0 where
  pub text : List ℕ
  pub gave : Gave source text
  pub is : IsScript c text s

pub record LacksScript (c : Catalogue) (source : Flow) : Type 0 where
  pub text : List ℕ
  pub gave : Gave source text
  pub none : (s : Script) → IsScript c text s → ⊥

-- what a fault tells of the source, with what it lacks
abbrev pub SourceTells : (Flow → Type 0) → Flow → RunFault → Type 0
SourceTells Lacks source f.NoMemory = Unit {0}
SourceTells Lacks source (f.Refused line) = ⊥
SourceTells Lacks source f.ReadFault = HasFailed source
SourceTells Lacks source f.TooLong = IsTooLong source
SourceTells Lacks source f.NotBuilt = Lacks source
SourceTells Lacks source f.WriteFault = ⊥
