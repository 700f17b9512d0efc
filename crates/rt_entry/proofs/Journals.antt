-- The story of every journal.
use Rattle.std.proofs.Common.{◌≡◌, List, [], ◌∷◌, length, refl, ap, ◌∙◌, suc}
use Rattle.rt_catalog.specs.declared.catalog.Catalog.{Catalog}
use Rattle.rt_entry.specs.declared.input.Input.{Input}
use Rattle.rt_entry.specs.declared.input.Settings.{Settings}
use Rattle.rt_entry.specs.Story.{Line, Story, ids_given, now_of, edits_at, tables_of, tables_left}
use Rattle.rt_entry.specs.Doings.{doings, story}
use Rattle.rt_entry.specs.After.{after}
use Rattle.rt_entry.proofs.Shapes.{Shape, fine_for, shape_doings}
use Rattle.rt_entry.proofs.Grows.{now_grows}
use Rattle.rt_entry.proofs.Sound.{members_in, Shaped, held_below, members_apart, shape_sound}

module _ (c : Catalog) (s : Settings) where
  abbrev pub line_of : List Input → Input → Line
  line_of journal i = record {
    input = i;
    parts = doings c s (now_of (story c s journal)) (tables_left c (story c s journal) i) i;
  }

  pub shape_next : (st : Story) (i : Input) → Shaped st
      → Shape (fine_for i) (length st) (ids_given st) (members_in st) (doings c s (now_of st) (tables_left c st i) i)
  unfolding now_of
  shape_next st i h = shape_doings (now_of st) (held_below st h) (members_apart st h) c s (tables_left c st i) i

  pub story_shaped : (journal : List Input) → Shaped (story c s journal)
  unfolding story
  story_shaped [] = tt
  story_shaped (i ∷ before) = (shape_next (story c s before) i (story_shaped before), story_shaped before)

  story_more : (journal : List Input) (i : Input) → story c s (i ∷ journal) ≡ line_of journal i ∷ story c s journal
  unfolding story
  story_more journal i = refl

  pub story_grows : (journal : List Input) (i : Input)
      → now_of (story c s (i ∷ journal)) ≡ after (now_of (story c s journal)) i
      (doings c s (now_of (story c s journal)) (tables_left c (story c s journal) i) i)
  story_grows journal i =
      let st = story c s journal in
      let l = line_of journal i in
      ap now_of (story_more journal i)
      ∙ now_grows l st (shape_sound l st (shape_next st i (story_shaped journal), story_shaped journal))

  pub tables_grow : (journal : List Input) (i : Input) → tables_of c (edits_at (story c s (i ∷ journal)))
      ≡ tables_left c (story c s journal) i
  unfolding story edits_at
  tables_grow journal i = refl

  pub story_length : (journal : List Input) → length (story c s journal) ≡ length journal
  unfolding story
  story_length [] = refl
  story_length (i ∷ before) = ap suc (story_length before)
