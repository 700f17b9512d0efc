-- A lane has as many stops as the journal.
use Rattle.std.proofs.Common.{◌≡◌, ℕ, ◌+◌, true, false, cond, List, [], ◌∷◌, ◌++◌, map, refl, ap, ◌∙◌, arith}
use Rattle.std.specs.Prelude.{count_by}
use Rattle.std.specs.List.{filter}
use Rattle.std.proofs.lemmas.List.Sums.{sum_by-append}
use Rattle.rt_catalog.specs.declared.catalog.Catalog.{Catalog}
use Rattle.rt_entry.specs.declared.input.Input.{Input}
use Rattle.rt_entry.specs.declared.input.Input.TheVariants.{Opened, Frame, Gone, Poll, Tick, Stop, Post}
use Rattle.rt_entry.specs.declared.input.Settings.{Settings}
use Rattle.rt_entry.specs.Story.{now_of, tables_left, is_stop}
use Rattle.rt_entry.specs.Doings.{story}
use Rattle.rt_entry.specs.Answers.{Answers, Mark, stop, mark_of, of_lane, is_in_lane, answers_by, marks_of, lane_marks}
use Rattle.rt_entry.specs.Lanes.{is_stop_mark, StopsAreMarked}
use Rattle.rt_entry.proofs.Marks.{lane_more, lane_none}

abbrev stops_in : List Mark → ℕ
stops_in marks = count_by is_stop_mark marks

both : (xs ys : List Mark) → stops_in (xs ++ ys) ≡ stops_in xs + stops_in ys
both xs ys = sum_by-append _ xs ys

module _ (c : Catalog) (s : Settings) where
  no_stop : (lane : ℕ) (given : Answers) → stops_in (of_lane c s lane given) ≡ 0
  no_stop lane [] = refl
  no_stop lane (g ∷ given) =
      let rest = filter (is_in_lane s.workers lane) given in
      elim (is_in_lane s.workers lane g) as (λ t. stops_in (map mark_of (cond t (g ∷ rest) rest)) ≡ 0) [
        | true ↦ no_stop lane given
        | false ↦ no_stop lane given
      ]

  one_input : (lane : ℕ) (journal : List Input) (i : Input)
      → stops_in (marks_of c s lane journal i) ≡ count_by is_stop (i ∷ [])
  unfolding marks_of
  one_input lane journal (Opened n version claims) = no_stop lane _
  one_input lane journal (Frame n bytes) = no_stop lane _
  one_input lane journal (Gone n) = no_stop lane _
  one_input lane journal (Post n claims ps) = no_stop lane _
  one_input lane journal (Poll changes) = refl
  one_input lane journal (Tick m) = no_stop lane _
  one_input lane journal Stop =
      let given = answers_by c s (now_of (story c s journal)) (tables_left c (story c s journal) Stop) Stop in
      both (of_lane c s lane given) (stop ∷ []) ∙ ap (λ n. n + 1) (no_stop lane given)

  pub stops_marked : StopsAreMarked c s
  stops_marked [] lane = ap stops_in (lane_none c s lane)
  stops_marked (i ∷ journal) lane =
      let before = lane_marks c s journal lane in
      let all : stops_in (lane_marks c s (i ∷ journal) lane)
      ≡ stops_in before + stops_in (marks_of c s lane journal i) =
      ap stops_in (lane_more c s journal i lane) ∙ both before (marks_of c s lane journal i) in
      let old = stops_marked journal lane in
      let one = one_input lane journal i in
      let split : count_by is_stop (i ∷ journal) ≡ count_by is_stop (i ∷ []) + count_by is_stop journal =
      sum_by-append _ (i ∷ []) journal in
      omega arith
