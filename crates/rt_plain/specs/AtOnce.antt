-- The workers of a round, all at once.
use Rattle.std.specs.Prelude.{◌≡◌, ◌==◌, ◌+◌, ℕ, nat_lt, true, false, map}
use Rattle.rt_catalog.specs.declared.catalog.Catalog.{Catalog}
use Rattle.rt_entry.specs.declared.input.Settings.{Settings}
use Rattle.rt_entry.specs.declared.input.Step.TheVariants.{Work}
use Rattle.rt_entry.specs.Machine.{Lane, World, step_of, run}
use Rattle.rt_script.specs.Running.{every_lane, outcomes}

-- a lane whose worker takes an entry, where there is one
abbrev pub worked_lane : Lane → Lane
worked_lane x = elim (x.worked == x.sent) [ true ↦ x | false ↦ record x { worked = x.worked + 1 } ]

-- each of so many lanes' workers takes one, all from the same world
abbrev pub worked_at : ℕ → World → ℕ → Lane
worked_at workers w l = elim (nat_lt l workers) [ true ↦ worked_lane (w.lanes l) | false ↦ w.lanes l ]

abbrev pub work_all : ℕ → World → World
work_all workers w = record w { lanes = worked_at workers w }

-- the Work of a round's lanes, one after another, leads where all at once lead, with the answers that each gives alone
pub record AreAtOnce (c : Catalog) (s : Settings) (w : World) : Type 0 where
  pub world : run c s (map Work (every_lane c s)) w ≡ work_all s.workers w
  pub answers : outcomes c s (map Work (every_lane c s)) w ≡ map (λ l. (step_of c s w (Work l)).0) (every_lane c s)

abbrev pub RoundsAreAtOnce : Type 0
RoundsAreAtOnce = (c : Catalog) (s : Settings) (w : World) → AreAtOnce c s w
