-- What is due asks the settings for the secret and the size of a record alone.
use Rattle.std.proofs.Common.{◌≡◌, ℕ, List, [], ◌∷◌, ◌++◌, refl, sym, ap, ◌∙◌}
use Rattle.std.specs.List.{filter_map}
use Rattle.rt_value.specs.declared.row.Row.{Row}
use Rattle.rt_catalog.specs.declared.catalog.Catalog.{Catalog}
use Rattle.rt_entry.specs.declared.input.Input.{Input}
use Rattle.rt_entry.specs.declared.input.Input.TheVariants.{Opened, Frame, Gone, Post, Poll, Tick, Stop}
use Rattle.rt_entry.specs.declared.input.Settings.{Settings}
use Rattle.rt_entry.specs.declared.story.Part.{Part}
use Rattle.rt_entry.specs.Story.{Line, Story, Now, now_of, tables_left}
use Rattle.rt_entry.specs.Joining.{standing_for, channel_of_join, renewal_of}
use Rattle.rt_entry.specs.Doings.{doings, poll_parts, story}
use Rattle.rt_entry.specs.Answers.{answer_of, answers_by, answers, all_answers, items_for, due}

-- settings of a secret and a size alone
abbrev bare : List ℕ → ℕ → Settings
bare secret size = record {
  workers = 0;
  capacity = 0;
  lane = 0;
  inlet = 0;
  rows = 0;
  inputs = 0;
  max_record = size;
  secret = secret;
}

doings_bare : (c : Catalog) (s : Settings) (now : Now) (tables : List (List Row)) (i : Input)
    → doings c s now tables i ≡ doings c (bare s.secret s.max_record) now tables i
unfolding doings poll_parts channel_of_join renewal_of standing_for
doings_bare c s now tables (Opened slot version claims) = refl
doings_bare c s now tables (Frame slot bytes) = refl
doings_bare c s now tables (Gone slot) = refl
doings_bare c s now tables (Post slot claims ps) = refl
doings_bare c s now tables (Poll changes) = refl
doings_bare c s now tables (Tick m) = refl
doings_bare c s now tables Stop = refl

module _ (c : Catalog) (s t : Settings) (e : s.secret ≡ t.secret) (f : s.max_record ≡ t.max_record) where
  same_doings : (now : Now) (tables : List (List Row)) (i : Input) → doings c s now tables i ≡ doings c t now tables i
  same_doings now tables i =
      doings_bare c s now tables i ∙ ap (λ secret. doings c (bare secret s.max_record) now tables i) e
      ∙ ap (λ size. doings c (bare t.secret size) now tables i) f ∙ sym (doings_bare c t now tables i)

  abbrev line_with : Settings → Story → Input → Line
  line_with r st i = record { input = i; parts = doings c r (now_of st) (tables_left c st i) i }

  pub same_story : (journal : List Input) → story c s journal ≡ story c t journal
  unfolding story
  same_story [] = refl
  same_story (i ∷ before) =
      ap (λ (st : Story). line_with s st i ∷ st) (same_story before)
      ∙ ap (λ (ps : List Part). let l : Line = record { input = i; parts = ps } in
      l ∷ story c t before) (same_doings (now_of (story c t before)) (tables_left c (story c t before) i) i)

  same_answers : (before : List Input) (i : Input) → answers c s before i ≡ answers c t before i
  unfolding answers_by
  same_answers before i =
      ap (λ (st : Story). filter_map answer_of (doings c s (now_of st) (tables_left c st i) i)) (same_story before)
      ∙ ap (filter_map answer_of) (same_doings (now_of (story c t before)) (tables_left c (story c t before) i) i)

  same_all : (journal : List Input) → all_answers c s journal ≡ all_answers c t journal
  unfolding all_answers
  same_all [] = refl
  same_all (i ∷ before) = ap (λ xs. xs ++ answers c s before i) (same_all before)
      ∙ ap (λ xs. all_answers c t before ++ xs) (same_answers before i)

  pub same_due : (journal : List Input) (slot : ℕ) → due c s journal slot ≡ due c t journal slot
  same_due journal slot = ap (items_for slot) (same_all journal)
