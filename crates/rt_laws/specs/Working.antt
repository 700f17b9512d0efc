-- What a lane's worker makes of the next entry of its lane, and that workers don't meet.
use Rattle.std.specs.Prelude.{◌≡◌, ℕ, ◌==◌, false, List, [], ◌∷◌, ◌++◌, drop, take}
use Rattle.rt_phx.specs.declared.message.Version.{Version}
use Rattle.rt_phx.specs.declared.message.Version.TheVariants.{V1}
use Rattle.rt_catalog.specs.declared.catalog.Catalog.{Catalog}
use Rattle.rt_entry.specs.declared.input.Settings.{Settings}
use Rattle.rt_entry.specs.declared.input.Step.TheVariants.{Work}
use Rattle.rt_entry.specs.declared.answer.Answer.{Answer}
use Rattle.rt_entry.specs.Answers.{Mark, told, spell, lane_marks, answers_of_marks, entry_of}
use Rattle.rt_entry.specs.Fan.{given_by}
use Rattle.rt_entry.specs.Spelling.{version_after}
use Rattle.rt_entry.specs.Machine.{World, lane_of, lane_in, worked_items, step_of, run}

module _ (c : Catalog) (s : Settings) where
  -- the marks of the slot's lane, and those that its worker has worked
  abbrev pub marks_in : World → ℕ → List Mark
  marks_in w slot = lane_marks c s w.journal (lane_of c s slot)

  abbrev pub worked_answers : World → ℕ → List Answer
  worked_answers w slot = told slot (answers_of_marks c s (take (lane_in c s w slot).worked (marks_in w slot)))

  -- the version that stands behind what the worker has made of the slot
  abbrev pub worked_version : World → ℕ → Version
  worked_version w slot = version_after V1 (worked_answers w slot)

  -- what a mark's entry tells the slot
  abbrev pub told_by_mark : ℕ → Mark → List Answer
  told_by_mark slot mark = told slot (given_by c s (entry_of c s mark))

  -- the world after the slot's worker takes an entry
  abbrev pub after_work : World → ℕ → World
  after_work w slot = (step_of c s w (Work (lane_of c s slot))).1

  pub record IsWorked (w : World) (slot : ℕ) (mark : Mark) : Type 0 where
    pub items : worked_items c s (after_work w slot) slot
        ≡ worked_items c s w slot ++ spell (worked_version w slot) (told_by_mark slot mark)
    pub version : worked_version (after_work w slot) slot
        ≡ version_after (worked_version w slot) (told_by_mark slot mark)

  -- Where an entry was sent that the worker hasn't worked, it makes of the slot what the entry tells it, spelled in the
  -- version that stands.
  abbrev pub WorkSpells : Type 0
  WorkSpells = (w : World) (slot : ℕ) (mark : Mark) (rest : List Mark)
      → ((lane_in c s w slot).worked == (lane_in c s w slot).sent) ≡ false
      → drop (lane_in c s w slot).worked (marks_in w slot) ≡ mark ∷ rest → IsWorked w slot mark

  -- workers may go in whatever order
  abbrev pub WorksCommute : Type 0
  WorksCommute = (w : World) (l m : ℕ) → run c s (Work l ∷ Work m ∷ []) w ≡ run c s (Work m ∷ Work l ∷ []) w

  -- and what one answers doesn't depend on another
  abbrev pub WorksAreAlone : Type 0
  WorksAreAlone = (w : World) (l m : ℕ) → (m == l) ≡ false
      → (step_of c s (step_of c s w (Work l)).1 (Work m)).0 ≡ (step_of c s w (Work m)).0
