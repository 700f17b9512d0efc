-- What every script has, whatever its schedule, its lines and its settings.
use Rattle.std.specs.Prelude.{◌≡◌}
use Rattle.rt_catalog.specs.declared.catalog.Catalog.{Catalog}
use Rattle.rt_script.specs.declared.script.Script.{Script}
use Rattle.rt_script.specs.Running.{Ending, IsRun}

-- a run: each drain comes to its end
abbrev pub ScriptsRun : Type 0
ScriptsRun = (c : Catalog) (script : Script) → (e : Ending) × IsRun c script e

-- and no second one
abbrev pub RunsAreOne : Type 0
RunsAreOne = (c : Catalog) (script : Script) (e f : Ending) → IsRun c script e → IsRun c script f → e ≡ f
