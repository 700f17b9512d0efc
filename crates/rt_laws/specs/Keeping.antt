-- A worker's own state of a slot is what the machine says of it.
use Rattle.std.specs.Prelude.{◌≡◌, ◌≢◌, ℕ, ◌==◌, true, false, List, ◌∷◌, map, drop}
use Rattle.rt_catalog.specs.declared.catalog.Catalog.{Catalog}
use Rattle.rt_entry.specs.declared.input.Settings.{Settings}
use Rattle.rt_entry.specs.declared.input.Step.{Step}
use Rattle.rt_entry.specs.declared.input.Step.TheVariants.{Work, Push}
use Rattle.rt_entry.specs.Answers.{Mark}
use Rattle.rt_entry.specs.Kept.{Kept, keep, kept_after, kept_pushed, kept_shut, opening_behind}
use Rattle.rt_entry.specs.Machine.{World, Placed, lane_of, lane_in, worked_items, is_cut, is_full_for, pending, start}
use Rattle.rt_entry.specs.Machine.{step_of, run}
use Rattle.rt_laws.specs.Working.{marks_in, worked_version, told_by_mark, after_work}

module _ (c : Catalog) (s : Settings) where
  -- what stands in the machine of a slot for its worker
  abbrev pub kept_in : World → ℕ → Kept
  kept_in w slot =
      keep (worked_version c s w slot)
      (is_cut (w.slots slot).cuts (opening_behind 0 (worked_items c s w slot)))
      (map (λ p. p.item) (pending c s w slot))

  -- After any steps: a worker that takes an entry changes what it keeps of a slot by what the entry tells the slot, and
  -- that is what stands in the machine then.
  abbrev pub WorkersKeep : Type 0
  WorkersKeep = (steps : List Step) (slot : ℕ) (mark : Mark) (rest : List Mark)
      → ((lane_in c s (run c s steps start) slot).worked == (lane_in c s (run c s steps start) slot).sent) ≡ false
      → drop (lane_in c s (run c s steps start) slot).worked (marks_in c s (run c s steps start) slot) ≡ mark ∷ rest
      → kept_in (after_work c s (run c s steps start) slot) slot
      ≡ kept_after (kept_in (run c s steps start) slot) (told_by_mark c s slot mark)

  -- A push puts the first item that is kept into the outbox, and where that is full for it drops its opening.
  pub record IsPushed (w : World) (slot : ℕ) (p : Placed) : Type 0 where
    pub given : is_full_for c s (w.slots slot) p.item ≡ false
        → kept_in (step_of c s w (Push slot)).1 slot ≡ kept_pushed (kept_in w slot)
    pub cut : is_full_for c s (w.slots slot) p.item ≡ true
        → kept_in (step_of c s w (Push slot)).1 slot ≡ kept_shut (kept_in w slot)

  abbrev pub PushesTake : Type 0
  PushesTake = (w : World) (slot : ℕ) (p : Placed) (ps : List Placed) → pending c s w slot ≡ p ∷ ps
      → IsPushed w slot p

  -- after any steps no other step changes what is kept: only a push on the slot, and the work of its lane
  abbrev pub OthersKeep : Type 0
  OthersKeep = (steps : List Step) (x : Step) (slot : ℕ) → x ≢ Push slot → x ≢ Work (lane_of c s slot)
      → kept_in (step_of c s (run c s steps start) x).1 slot ≡ kept_in (run c s steps start) slot
