-- What the poll of the first form does, and all answers of its journal.
use Rattle.std.proofs.Common.{◌≡◌, ℕ, ◌<◌, ◌≤◌, Bool, true, false, List, [], ◌∷◌, ◌++◌, length, ap, ◌∙◌}
use Rattle.std.specs.Prelude.{◌≢◌, codes, nat_lt}
use Rattle.std.specs.List.{filter_map}
use Rattle.std.specs.Str.{bytes_eq}
use Rattle.rt_value.specs.declared.row.Row.{Row}
use Rattle.rt_json.specs.Grammar.{IsJson}
use Rattle.rt_json.specs.declared.tree.Json.{Json}
use Rattle.rt_phx.specs.declared.message.Message.{Message}
use Rattle.rt_phx.specs.declared.message.Version.TheVariants.{V1}
use Rattle.rt_phx.specs.Frame.{frame_limit}
use Rattle.rt_phx.specs.Asks.{is_channel_topic}
use Rattle.rt_phx.specs.Says.{reply_ok}
use Rattle.rt_catalog.specs.declared.catalog.Catalog.{Catalog}
use Rattle.rt_change.specs.declared.change.Change.{Change}
use Rattle.rt_change.specs.Verdicts.{verdict_of}
use Rattle.rt_entry.specs.declared.input.Input.{Input}
use Rattle.rt_entry.specs.declared.input.Input.TheVariants.{Opened, Frame, Poll}
use Rattle.rt_entry.specs.declared.input.Settings.{Settings}
use Rattle.rt_entry.specs.declared.story.Channel.{Channel}
use Rattle.rt_entry.specs.declared.story.Part.TheVariants.{Tells}
use Rattle.rt_entry.specs.declared.answer.Answer.TheVariants.{Opened as opened, Says as says}
use Rattle.rt_entry.specs.declared.entry.ChannelView.{ChannelView}
use Rattle.rt_entry.specs.Messages.{joined_response, subscribed_message, change_message}
use Rattle.rt_entry.specs.Story.{Story, joined, departed, members_at, standing_at, now_of, tables_left}
use Rattle.rt_entry.specs.Doings.{subscriptions, poll_parts, doings, story}
use Rattle.rt_entry.specs.Answers.{Answers, answer_of, answers_by, answers, all_answers}
use Rattle.rt_form.specs.Script.{join_tree}
use Rattle.rt_form.specs.Messages.{inserted}
use Rattle.rt_form.specs.declared.catalogue.Column.{Column}
use Rattle.rt_first.specs.First.{kind_of}
use Rattle.rt_first.proofs.Binds.{change_is}
use Rattle.rt_first.proofs.Claims.{held_by}
use Rattle.rt_first.proofs.Form.{catalog_with, table_with}
use Rattle.rt_first.proofs.Joins.{join, channel, second_story, frame_joins, second_story_is}
use Rattle.rt_first.proofs.Opens.{first_story, first_story_is, opened_alone}
use Rattle.rt_first.proofs.Shapes.{shape_is}
use Rattle.rt_first.proofs.Values.{Stands}

module _ (name : List ℕ) (first second : Column) (is_key : Bool) (role : List ℕ) (s : Settings) (slot : ℕ)
    (topic reference frame : List ℕ) (one two : Json) (size : ℕ) where
  abbrev cat : Catalog
  cat = catalog_with name first second is_key role

  abbrev change : Change
  change = change_is name first second is_key one two size

  abbrev after_join : Story
  after_join = second_story name first second is_key role s slot topic reference frame

  abbrev member : Channel
  member = channel name first second is_key role s slot topic reference frame

  abbrev view : ChannelView
  view = record { channel = 1; slot = slot; topic = topic; join_ref = member.join_ref }

  abbrev pub reply : Message
  reply = reply_ok member.join_ref (join name first second is_key role s slot topic reference frame) (joined_response member)

  abbrev pub told : Message
  told = subscribed_message member

  abbrev pub change_told : Message
  change_told = change_message view (1 ∷ []) (inserted (table_with name first second is_key) (one ∷ two ∷ []))

  -- the poll tells the one member
  module _ (differ : first.name ≢ second.name) (of_one : Stands (kind_of first.column_type) one) (of_two : Stands (kind_of second.column_type) two)
      (few : nat_lt s.max_record size ≡ false) where
    poll_tells : (tables : List (List Row)) → doings cat s (now_of after_join) tables (Poll (change ∷ [])) ≡ Tells slot change_told ∷ []
    unfolding doings now_of members_at joined departed standing_at subscriptions poll_parts verdict_of
    poll_tells tables =
        ap (λ (data_ : Json). Tells slot (change_message view (1 ∷ []) data_) ∷ [])
        (shape_is name first second is_key role one two size differ of_one of_two s.max_record few)

    abbrev pub journal : List Input
    journal = Poll (change ∷ []) ∷ Frame slot frame ∷ Opened slot V1 (held_by role) ∷ []

    abbrev pub given : Answers
    given = (slot, opened V1) ∷ (slot, says reply) ∷ (slot, says told) ∷ (slot, says change_told) ∷ []

    module _ (no_star : bytes_eq name (codes "*") ≡ false) (on : is_channel_topic topic ≡ true)
        (short : length frame ≤ frame_limit) (read : IsJson frame (join_tree topic reference name)) (within : slot < 256) where
      abbrev opening : Input
      opening = Opened slot V1 (held_by role)

      abbrev before : Story
      before = first_story slot (held_by role)

      first_answers : answers cat s [] opening ≡ (slot, opened V1) ∷ []
      unfolding answers_by story
      first_answers = ap (filter_map answer_of) (opened_alone slot (held_by role) cat s within _)

      second_answers : answers cat s (opening ∷ []) (Frame slot frame) ≡ (slot, says reply) ∷ (slot, says told) ∷ []
      unfolding answers_by
      second_answers =
          ap (λ (st : Story). answers_by cat s (now_of st) (tables_left cat st (Frame slot frame)) (Frame slot frame))
          (first_story_is slot (held_by role) cat s within)
          ∙ ap (filter_map answer_of) (frame_joins name first second is_key role s slot topic reference frame no_star on short read within _)

      third_answers : answers cat s (Frame slot frame ∷ opening ∷ []) (Poll (change ∷ [])) ≡ (slot, says change_told) ∷ []
      unfolding answers_by
      third_answers =
          ap (λ (st : Story). answers_by cat s (now_of st) (tables_left cat st (Poll (change ∷ []))) (Poll (change ∷ [])))
          (second_story_is name first second is_key role s slot topic reference frame no_star on short read within)
          ∙ ap (filter_map answer_of) (poll_tells _)

      pub all_given : all_answers cat s journal ≡ given
      unfolding all_answers
      all_given =
          let poll = answers cat s (Frame slot frame ∷ opening ∷ []) (Poll (change ∷ [])) in
          let sent = answers cat s (opening ∷ []) (Frame slot frame) in
          ap (λ (xs : Answers). (([] ++ xs) ++ sent) ++ poll) first_answers
          ∙ ap (λ (xs : Answers). (((slot, opened V1) ∷ []) ++ xs) ++ poll) second_answers
          ∙ ap (λ (xs : Answers). ((slot, opened V1) ∷ (slot, says reply) ∷ (slot, says told) ∷ []) ++ xs) third_answers
