-- Blanks change nothing outside of words, numbers and texts, and a fault behind what is read is the fault of the whole.
use Rattle.std.proofs.Common.{◌≡◌, ℕ, ◌≤◌, Bool, true, false, List, [], ◌∷◌, Ok, Err, Result, refl, ap, sym, ◌∙◌, length, drop}
use Rattle.std.proofs.lemmas.List.{drop_all}
use Rattle.rt_json.specs.Grammar.{max_levels, is_blank}
use Rattle.rt_json.specs.Machine as m
use Rattle.rt_json.specs.Machine.{State, Outcome, outcome}
use Rattle.rt_json.specs.Reads.{past_blanks, choose}
use Rattle.rt_json.specs.States.{Gives}
use Rattle.rt_json.specs.declared.tree.Json.{Json}
use Rattle.rt_json.specs.declared.state.Frame.{Frame}
use Rattle.rt_json.specs.declared.state.Mode.{Mode}
use Rattle.rt_json.specs.declared.stop.Stop.{Stop}
use Rattle.rt_json.proofs.Again.{stays}
use Rattle.rt_json.proofs.Classes.{class_of_blank}
use Rattle.rt_json.proofs.Chars.{faults_behind}
use Rattle.rt_json.proofs.Steps.{next_outcome}

-- blanks change nothing
pub blanks_outcome : (stack : List Frame) (o : Mode) (xs : List ℕ) → outcome (m.outside stack o) xs ≡ outcome (m.outside stack o) (past_blanks xs)
blanks_outcome stack o [] = refl
blanks_outcome stack o (b ∷ bs) = by (is_blank b) refl (blanks_outcome stack o bs)
  where
    by : (x : Bool) → is_blank b ≡ x → outcome (m.outside stack o) bs ≡ outcome (m.outside stack o) (past_blanks bs)
        → outcome (m.outside stack o) (b ∷ bs) ≡ outcome (m.outside stack o) (choose x (past_blanks bs) (b ∷ bs))
    by true e h = next_outcome (m.outside stack o) (m.outside stack o) b bs (ap (m.outside_next max_levels stack o b) (class_of_blank b e) ∙ stays max_levels stack o b) ∙ h
    by false e h = refl

-- from a place on, past the blanks there
pub past_blanks_outcome : (bytes : List ℕ) (at to : ℕ) (stack : List Frame) (o : Mode) → drop to bytes ≡ past_blanks (drop at bytes)
    → outcome (m.outside stack o) (drop at bytes) ≡ outcome (m.outside stack o) (drop to bytes)
past_blanks_outcome bytes at to stack o e = blanks_outcome stack o (drop at bytes) ∙ ap (outcome (m.outside stack o)) (sym e)

-- what is given behind what is read is given
pub gives_behind : (r : Result Json Stop) (o p : Outcome) → o ≡ p → Gives r p → Gives r o
gives_behind (Ok t) o p is h = is ∙ h
gives_behind (Err e) o p is h = faults_behind e o p is h

pub end_outcome : (bytes : List ℕ) (at : ℕ) (s : State) → length bytes ≤ at → outcome s (drop at bytes) ≡ m.finished (m.end_step s)
end_outcome bytes at s le = ap (outcome s) (drop_all at bytes le)
