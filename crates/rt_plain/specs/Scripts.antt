-- What a script that was read may do.
use Rattle.std.specs.Prelude.{◌≡◌, ℕ, false, List, Option, Some, None}
use Rattle.std.specs.List.{filter_map}
use Rattle.rt_catalog.specs.declared.catalog.Catalog.{Catalog}
use Rattle.rt_entry.specs.declared.input.Step.{Step}
use Rattle.rt_entry.specs.Headline.{AreAllowed}
use Rattle.rt_script.specs.declared.script.Act.{Act}
use Rattle.rt_script.specs.declared.script.Act.TheVariants.{One, Drain}
use Rattle.rt_script.specs.declared.script.Line.{Line}
use Rattle.rt_script.specs.declared.script.Script.{Script}
use Rattle.rt_script.specs.Reading.{IsScript}
use Rattle.rt_script.specs.Running.{scheduled}
use Rattle.rt_plain.specs.Plain.{IsPlain}

-- the steps of lines, without the drains
abbrev pub step_in : Act → Option Step
step_in (One x) = Some x
step_in Drain = None

abbrev pub steps_in : List Line → List Step
steps_in lines = filter_map (λ l. step_in l.step) lines

-- the steps that a script's run makes, but for those of its drains, keep the caller's conditions
abbrev pub ScriptsAreAllowed : Type 0
ScriptsAreAllowed = (c : Catalog) (text : List ℕ) (s : Script) → IsScript c text s
    → AreAllowed c s.settings 0 (steps_in (scheduled s))

-- a script whose schedule isn't written out is plain: its lines are inputs, and its limits are at least 1
abbrev pub ScriptsArePlain : Type 0
ScriptsArePlain = (c : Catalog) (text : List ℕ) (s : Script) → IsScript c text s → s.manual ≡ false → IsPlain s
