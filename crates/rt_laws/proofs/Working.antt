-- A worker's next entry, and workers one after another.
use Rattle.std.proofs.Common.{◌≡◌, ℕ, ◌+◌, Bool, true, false, List, [], ◌∷◌, ◌++◌, take, drop, refl, sym, ap, ◌∙◌}
use Rattle.std.proofs.Common.{subst}
use Rattle.std.proofs.Common.{append-nil, inl, inr}
use Rattle.std.specs.Prelude.{◌==◌}
use Rattle.std.proofs.lemmas.Bool.Decides.{eqb_tells}
use Rattle.rt_phx.specs.declared.message.Version.TheVariants.{V1}
use Rattle.rt_catalog.specs.declared.catalog.Catalog.{Catalog}
use Rattle.rt_entry.specs.declared.input.Settings.{Settings}
use Rattle.rt_entry.specs.declared.input.Step.TheVariants.{Work}
use Rattle.rt_entry.specs.Answers.{Mark, told, spell, answers_of_marks}
use Rattle.rt_entry.specs.Spelling.{version_after}
use Rattle.rt_entry.specs.Machine.{Lane, World, Outcome, done, empty, lane_of, lane_in, with_lane, step_of, run}
use Rattle.rt_entry.proofs.Fans.{entries_give}
use Rattle.rt_entry.proofs.Marks.{told_append, marks_append}
use Rattle.rt_entry.proofs.Spelling.{spell_append, version_append}
use Rattle.rt_entry.proofs.Shapes.{eqb_same}
use Rattle.rt_laws.specs.Working.{marks_in, worked_answers, told_by_mark, after_work, WorkSpells, WorksCommute}
use Rattle.rt_laws.specs.Working.{WorksAreAlone}
use Rattle.rt_laws.proofs.Lists.{take_step}
use Rattle.rt_laws.proofs.Stepping.{one_worked}

-- a lane behind its worker's next step
abbrev next : Lane → Lane
next x = elim (x.worked == x.sent) [ true ↦ x | false ↦ one_worked x ]

abbrev next_at : ℕ → (ℕ → Lane) → ℕ → Lane
next_at l lanes n = elim (n == l) [ true ↦ next (lanes n) | false ↦ lanes n ]

abbrev with_lanes : World → (ℕ → Lane) → World
with_lanes w lanes = record w { lanes = lanes }

same_lanes : (w : World) (f g : ℕ → Lane) → ((n : ℕ) → f n ≡ g n) → with_lanes w f ≡ with_lanes w g
same_lanes w f g e = λ i. with_lanes w (λ n. e n i)

module _ (c : Catalog) (s : Settings) where
  -- at the lane
  at_lane : (w : World) (l : ℕ) (b : Bool) → ((w.lanes l).worked == (w.lanes l).sent) ≡ b → (n : ℕ)
      → ((elim b as (λ t. Outcome × World) [
        | true ↦ (empty, w)
        | false ↦ (done, with_lane w l (one_worked (w.lanes l)))
      ]).1).lanes n ≡ next_at l w.lanes n
  at_lane w l true e n = elim (eqb_tells n l) [
    | inl t ↦
        let P : ℕ → Type 0 = λ m. ((w.lanes m).worked == (w.lanes m).sent) ≡ true in
        let own = subst P (sym t.1) e in
        sym (ap (λ (b : Bool). elim b as (λ x. Lane) [ true ↦ next (w.lanes n) | false ↦ w.lanes n ]) t.0
        ∙ ap (λ (b : Bool). elim b as (λ x. Lane) [ true ↦ w.lanes n | false ↦ one_worked (w.lanes n) ]) own)
    | inr t ↦ sym (ap (λ (b : Bool). elim b as (λ x. Lane) [ true ↦ next (w.lanes n) | false ↦ w.lanes n ]) t.0)
  ]
  at_lane w l false e n = elim (eqb_tells n l) [
    | inl t ↦
        let P : ℕ → Type 0 = λ m. ((w.lanes m).worked == (w.lanes m).sent) ≡ false in
        let own = subst P (sym t.1) e in
        ap (λ (b : Bool). elim b as (λ x. Lane) [ true ↦ one_worked (w.lanes l) | false ↦ w.lanes n ]) t.0
        ∙ ap (λ m. one_worked (w.lanes m)) (sym t.1)
        ∙ sym (ap (λ (b : Bool). elim b as (λ x. Lane) [ true ↦ next (w.lanes n) | false ↦ w.lanes n ]) t.0
        ∙ ap (λ (b : Bool). elim b as (λ x. Lane) [ true ↦ w.lanes n | false ↦ one_worked (w.lanes n) ]) own)
    | inr t ↦
        ap (λ (b : Bool). elim b as (λ x. Lane) [ true ↦ one_worked (w.lanes l) | false ↦ w.lanes n ]) t.0
        ∙ sym (ap (λ (b : Bool). elim b as (λ x. Lane) [ true ↦ next (w.lanes n) | false ↦ w.lanes n ]) t.0)
  ]

  by_lanes : (w : World) (l : ℕ) (b : Bool) (f : ℕ → Lane)
      → ((n : ℕ) → ((elim b as (λ t. Outcome × World) [
        | true ↦ (empty, w)
        | false ↦ (done, with_lane w l (one_worked (w.lanes l)))
      ]).1).lanes n ≡ f n)
      → (elim b as (λ t. Outcome × World) [
        | true ↦ (empty, w)
        | false ↦ (done, with_lane w l (one_worked (w.lanes l)))
      ]).1 ≡ with_lanes w f
  by_lanes w l true f e = same_lanes w w.lanes f e
  by_lanes w l false f e = same_lanes w (with_lane w l (one_worked (w.lanes l))).lanes f e

  pub work_is : (w : World) (l : ℕ) → (step_of c s w (Work l)).1 ≡ with_lanes w (next_at l w.lanes)
  unfolding step_of
  work_is w l =
      let b = (w.lanes l).worked == (w.lanes l).sent in
      by_lanes w l b (next_at l w.lanes) (at_lane w l b refl)

  two_works : (w : World) (l m : ℕ) → run c s (Work l ∷ Work m ∷ []) w ≡ with_lanes w (next_at m (next_at l w.lanes))
  unfolding run
  two_works w l m =
      ap (λ (v : World). (step_of c s v (Work m)).1) (work_is w l) ∙ work_is (with_lanes w (next_at l w.lanes)) m

  either_way : (a b : Bool) (x : Lane)
      → elim a as (λ t. Lane) [
        | true ↦ next (elim b as (λ t. Lane) [ true ↦ next x | false ↦ x ])
        | false ↦ elim b as (λ t. Lane) [ true ↦ next x | false ↦ x ]
      ]
      ≡ elim b as (λ t. Lane) [
        | true ↦ next (elim a as (λ t. Lane) [ true ↦ next x | false ↦ x ])
        | false ↦ elim a as (λ t. Lane) [ true ↦ next x | false ↦ x ]
      ]
  either_way true true x = refl
  either_way true false x = refl
  either_way false true x = refl
  either_way false false x = refl

  pub works_commute : WorksCommute c s
  works_commute w l m =
      two_works w l m
      ∙ same_lanes w (next_at m (next_at l w.lanes)) (next_at l (next_at m w.lanes))
      (λ n. either_way (n == m) (n == l) (w.lanes n))
      ∙ sym (two_works w m l)

  abbrev answered : Lane → Outcome
  answered x = elim (x.worked == x.sent) [ true ↦ empty | false ↦ done ]

  outcome_is : (w : World) (m : ℕ) → (step_of c s w (Work m)).0 ≡ answered (w.lanes m)
  unfolding step_of
  outcome_is w m = elim ((w.lanes m).worked == (w.lanes m).sent) as (λ b. (elim b as (λ t. Outcome × World) [
    | true ↦ (empty, w)
    | false ↦ (done, with_lane w m (one_worked (w.lanes m)))
  ]).0 ≡ elim b as (λ t. Outcome) [ true ↦ empty | false ↦ done ]) [ true ↦ refl | false ↦ refl ]

  pub works_alone : WorksAreAlone c s
  works_alone w l m apart =
      ap (λ (v : World). (step_of c s v (Work m)).0) (work_is w l)
      ∙ outcome_is (with_lanes w (next_at l w.lanes)) m
      ∙ ap (λ (b : Bool). answered (elim b as (λ t. Lane) [ true ↦ next (w.lanes m) | false ↦ w.lanes m ])) apart
      ∙ sym (outcome_is w m)

  -- what a mark tells a slot
  one_mark : (slot : ℕ) (mark : Mark) → told slot (answers_of_marks c s (mark ∷ [])) ≡ told_by_mark c s slot mark
  unfolding answers_of_marks
  one_mark slot mark = ap (told slot) (append-nil _ ∙ sym (entries_give c s mark))

  pub next_answers : (slot n : ℕ) (marks : List Mark) (mark : Mark) (rest : List Mark) → drop n marks ≡ mark ∷ rest
      → told slot (answers_of_marks c s (take (n + 1) marks))
      ≡ told slot (answers_of_marks c s (take n marks)) ++ told_by_mark c s slot mark
  next_answers slot n marks mark rest e =
      ap (λ ms. told slot (answers_of_marks c s ms)) (take_step n marks mark rest e)
      ∙ ap (told slot) (marks_append c s (take n marks) (mark ∷ []))
      ∙ told_append slot (answers_of_marks c s (take n marks)) (answers_of_marks c s (mark ∷ []))
      ∙ ap (λ xs. told slot (answers_of_marks c s (take n marks)) ++ xs) (one_mark slot mark)

  pub one_more : (w : World) (slot : ℕ) → ((lane_in c s w slot).worked == (lane_in c s w slot).sent) ≡ false
      → after_work c s w slot ≡ with_lanes w (next_at (lane_of c s slot) w.lanes)
      × ((lane_in c s (with_lanes w (next_at (lane_of c s slot) w.lanes)) slot) ≡ one_worked (lane_in c s w slot))
  one_more w slot e =
      let l = lane_of c s slot in (
        work_is w l,
        ap (λ (b : Bool). elim b as (λ x. Lane) [ true ↦ next (w.lanes l) | false ↦ w.lanes l ]) (eqb_same l)
            ∙ ap (λ (b : Bool). elim b as (λ x. Lane) [ true ↦ w.lanes l | false ↦ one_worked (w.lanes l) ]) e,
      )

  pub worked_next : (w : World) (slot : ℕ) (mark : Mark) (rest : List Mark)
      → ((lane_in c s w slot).worked == (lane_in c s w slot).sent) ≡ false
      → drop (lane_in c s w slot).worked (marks_in c s w slot) ≡ mark ∷ rest
      → worked_answers c s (after_work c s w slot) slot ≡ worked_answers c s w slot ++ told_by_mark c s slot mark
  worked_next w slot mark rest more e =
      let one = one_more w slot more in
      let marks = marks_in c s w slot in
      ap (λ (v : World). worked_answers c s v slot) one.0
      ∙ ap (λ (x : Lane). told slot (answers_of_marks c s (take x.worked marks))) one.1
      ∙ next_answers slot (lane_in c s w slot).worked marks mark rest e

  pub work_spells : WorkSpells c s
  work_spells w slot mark rest more e =
      let before = worked_answers c s w slot in
      let new = told_by_mark c s slot mark in
      let is = worked_next w slot mark rest more e in
      record {
        items = ap (spell V1) is ∙ spell_append V1 before new;
        version = ap (version_after V1) is ∙ version_append V1 before new;
      }
