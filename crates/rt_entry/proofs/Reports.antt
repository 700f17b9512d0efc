-- The reports of a lane's entries are the audit.
use Rattle.std.proofs.Common.{◌≡◌, ℕ, List, [], ◌∷◌, ◌++◌, map, length, refl, sym, ap, ◌∙◌, append-nil}
use Rattle.std.specs.List.{filter, flat_map}
use Rattle.std.proofs.lemmas.List.{map-append}
use Rattle.std.proofs.lemmas.List.Concat.{flat_map-append}
use Rattle.rt_catalog.specs.declared.catalog.Catalog.{Catalog}
use Rattle.rt_entry.specs.declared.input.Input.{Input}
use Rattle.rt_entry.specs.declared.input.Input.TheVariants.{Opened, Frame, Gone, Poll, Tick, Stop, Post}
use Rattle.rt_entry.specs.declared.input.Settings.{Settings}
use Rattle.rt_entry.specs.declared.answer.Answer.{Answer}
use Rattle.rt_entry.specs.declared.answer.Answer.TheVariants as a
use Rattle.rt_entry.specs.Story.{now_of, tables_left}
use Rattle.rt_entry.specs.Doings.{story, subscriptions}
use Rattle.rt_entry.specs.Answers.{Answers, Mark, mark_of, stop, is_in_lane, of_lane, answer_entry, answers_by}
use Rattle.rt_entry.specs.Answers.{marks_of, lane_marks, entry_of}
use Rattle.rt_entry.specs.Audit.{judged_poll, audit_line, judged_input, audit}
use Rattle.rt_entry.specs.Reports.{report_of, ReportsAreAudits}
use Rattle.rt_entry.proofs.Journals.{story_length}
use Rattle.rt_entry.proofs.Marks.{lane_more, lane_none}

module _ (c : Catalog) (s : Settings) where
  abbrev reported : List Mark → List ℕ
  reported marks = flat_map (report_of c) (map (entry_of c s) marks)

  reported_both : (xs ys : List Mark) → reported (xs ++ ys) ≡ reported xs ++ reported ys
  reported_both xs ys =
      ap (flat_map (report_of c)) (map-append (entry_of c s) xs ys)
      ∙ flat_map-append (report_of c) (map (entry_of c s) xs) (map (entry_of c s) ys)

  silent : (slot : ℕ) (x : Answer) → report_of c (answer_entry slot x) ≡ []
  silent slot (a.Opened v) = refl
  silent slot (a.Says m) = refl
  silent slot (a.Ended name) = refl

  all_silent : (gs : Answers) → reported (map mark_of gs) ≡ []
  all_silent [] = refl
  all_silent (g ∷ gs) = ap (λ xs. xs ++ reported (map mark_of gs)) (silent g.0 g.1) ∙ all_silent gs

  lane_silent : (lane : ℕ) (gs : Answers) → reported (of_lane c s lane gs) ≡ []
  lane_silent lane gs = all_silent (filter (is_in_lane s.workers lane) gs)

  one_poll : (lane : ℕ) (before : List Input) (i : Input)
      → reported (marks_of c s lane before i) ≡ flat_map (audit_line c) (judged_input c s before i)
  unfolding marks_of now_of
  one_poll lane before (Poll changes) =
      let st = story c s before in
      let lines : ℕ → List ℕ = λ n. flat_map (audit_line c)
      (judged_poll c n (tables_left c st (Poll changes)) (subscriptions (now_of st).members) changes) in
      append-nil (lines (length st)) ∙ ap lines (story_length c s before)
  one_poll lane before Stop =
      let gs = answers_by c s (now_of (story c s before)) (tables_left c (story c s before) Stop) Stop in
      reported_both (of_lane c s lane gs) (stop ∷ []) ∙ append-nil (reported (of_lane c s lane gs))
      ∙ lane_silent lane gs
  one_poll lane before (Opened n v claims) = lane_silent lane _
  one_poll lane before (Frame n bytes) = lane_silent lane _
  one_poll lane before (Gone n) = lane_silent lane _
  one_poll lane before (Post n claims ps) = lane_silent lane _
  one_poll lane before (Tick m) = lane_silent lane _

  pub reports_audits : ReportsAreAudits c s
  unfolding audit
  reports_audits [] lane = ap reported (lane_none c s lane)
  reports_audits (i ∷ before) lane =
      let rest = marks_of c s lane before i in
      ap reported (lane_more c s before i lane) ∙ reported_both (lane_marks c s before lane) rest
      ∙ ap (λ xs. xs ++ reported rest) (reports_audits before lane)
      ∙ ap (λ xs. flat_map (audit_line c) (audit c s before) ++ xs) (one_poll lane before i)
      ∙ sym (flat_map-append (audit_line c) (audit c s before) (judged_input c s before i))
