-- What the frame of the first form does, and the story behind it.
use Rattle.std.proofs.Common.{◌≡◌, ℕ, ◌<◌, ◌≤◌, Bool, true, false, List, [], ◌∷◌, length, refl, ap, ◌∙◌}
use Rattle.std.specs.Prelude.{codes, option_to_list}
use Rattle.std.specs.Str.{bytes_eq}
use Rattle.rt_value.specs.declared.row.Row.{Row}
use Rattle.rt_json.specs.Grammar.{IsJson}
use Rattle.rt_phx.specs.declared.message.Message.{Message}
use Rattle.rt_phx.specs.declared.message.Version.TheVariants.{V1}
use Rattle.rt_phx.specs.Frame.{frame_limit}
use Rattle.rt_phx.specs.Asks.{is_channel_topic}
use Rattle.rt_phx.specs.Says.{reply_ok, reply_error}
use Rattle.rt_catalog.specs.declared.catalog.Catalog.{Catalog}
use Rattle.rt_entry.specs.declared.input.Input.{Input}
use Rattle.rt_entry.specs.declared.input.Input.TheVariants.{Opened, Frame}
use Rattle.rt_entry.specs.declared.input.Settings.{Settings}
use Rattle.rt_entry.specs.declared.story.Opening.{Opening}
use Rattle.rt_entry.specs.declared.story.Channel.{Channel}
use Rattle.rt_entry.specs.declared.story.Part.{Part}
use Rattle.rt_entry.specs.declared.story.Part.TheVariants.{Tells, Joins}
use Rattle.rt_entry.specs.Messages.{joined_response, subscribed_message}
use Rattle.rt_entry.specs.Story.{Story, Line, joined, departed, members_at, ids_given, now_of, tables_left}
use Rattle.rt_entry.specs.Doings.{tell, channel_on, join_result_parts, join_over_former, message_parts, frame_parts, doings, story}
use Rattle.rt_form.specs.Script.{join_tree}
use Rattle.rt_form.specs.declared.catalogue.Column.{Column}
use Rattle.rt_first.proofs.Claims.{held_by}
use Rattle.rt_first.proofs.Channels.{join_with, message_read, channel_with, channel_made}
use Rattle.rt_first.proofs.Form.{catalog_with}
use Rattle.rt_first.proofs.Opens.{opening_by, opening_found, first_story, first_story_is, still_open}

module _ (name : List ℕ) (first second : Column) (is_key : Bool) (role : List ℕ) (s : Settings) (slot : ℕ)
    (topic reference frame : List ℕ) where
  abbrev cat : Catalog
  cat = catalog_with name first second is_key role

  abbrev before : Story
  before = first_story slot (held_by role)

  abbrev opening : Opening
  opening = opening_by (held_by role)

  abbrev pub join : Message
  join = join_with topic reference name

  -- the journal has one input before
  abbrev pub channel : Channel
  channel = record (channel_with (now_of before) slot topic reference name role) { number = 1; first_id = 1 }

  abbrev pub joined_parts : List Part
  joined_parts =
      Joins channel ∷ Tells slot (reply_ok channel.join_ref join (joined_response channel)) ∷ Tells slot (subscribed_message channel) ∷ []

  abbrev pub second_story : Story
  second_story = record { input = Frame slot frame; parts = joined_parts } ∷ before

  module _ (no_star : bytes_eq name (codes "*") ≡ false) (on : is_channel_topic topic ≡ true)
      (short : length frame ≤ frame_limit) (read : IsJson frame (join_tree topic reference name)) (within : slot < 256) where
    pub frame_joins : (tables : List (List Row)) → doings cat s (now_of before) tables (Frame slot frame) ≡ joined_parts
    unfolding doings now_of members_at joined departed ids_given
    frame_joins tables =
        let now = now_of before in
        ap (frame_parts cat s now tables slot frame) (opening_found before slot within ∙ still_open slot (held_by role))
        ∙ ap (message_parts cat s now tables slot opening) (message_read topic reference name frame short read)
        ∙ ap
        (λ (b : Bool).
        elim b [
          | true ↦ join_over_former cat s now tables slot opening join (option_to_list (channel_on now slot topic))
          | false ↦ tell slot (reply_error join.join_ref join (codes "unmatched topic"))
        ])
        on
        ∙ ap (join_result_parts now slot [] join) (channel_made name first second is_key role no_star s now slot topic reference tables 0 refl)

    pub second_story_is : story cat s (Frame slot frame ∷ Opened slot V1 (held_by role) ∷ []) ≡ second_story
    unfolding story
    second_story_is =
        let i : Input = Frame slot frame in
        let line : List Part → Line = λ parts. record { input = i; parts = parts } in
        ap (λ (st : Story). line (doings cat s (now_of st) (tables_left cat st i) i) ∷ st) (first_story_is slot (held_by role) cat s within)
        ∙ ap (λ (parts : List Part). line parts ∷ before) (frame_joins (tables_left cat before i))
