-- The presence that a client holds, message by message (the Realtime protocol, "Presence").
use Rattle.std.specs.Prelude.{◌≡◌, ℕ, zero, suc, ◌==◌, ◌<◌, ◌^◌, nat_le, true, false, not, ◌&&◌, List, [], ◌∷◌, ◌++◌}
use Rattle.std.specs.Prelude.{map, length, take, codes, Option, Some, None, count_by, IsPermutation, Contains}
use Rattle.std.specs.List.{AllByRecursion, filter, filter_map}
use Rattle.std.specs.Str.{bytes_eq}
use Rattle.rt_value.specs.Choice.{◌>>=◌, first_case}
use Rattle.rt_json.specs.declared.tree.Json.{Json}
use Rattle.rt_json.specs.Grammar.{IsWithin}
use Rattle.rt_phx.specs.declared.message.Message.{Message}
use Rattle.rt_phx.specs.declared.message.Version.{Version}
use Rattle.rt_phx.specs.Frame.{message_of_tree, spelled}
use Rattle.rt_presence.specs.Trees.{Held}
use Rattle.rt_presence.specs.Reading.{metas_in, after_difference}
use Rattle.rt_catalog.specs.declared.catalog.Catalog.{Catalog}
use Rattle.rt_catalog.specs.Names.{HasReadableNames}
use Rattle.rt_entry.specs.declared.input.Input.{Input}
use Rattle.rt_entry.specs.declared.input.Settings.{Settings}
use Rattle.rt_entry.specs.declared.input.Step.{Step}
use Rattle.rt_entry.specs.declared.story.Opening.{Opening}
use Rattle.rt_entry.specs.declared.answer.Item.{Item}
use Rattle.rt_entry.specs.declared.answer.Item.TheVariants.{Message as Said, End}
use Rattle.rt_entry.specs.declared.story.Channel.{Channel}
use Rattle.rt_entry.specs.declared.story.Track.{Track}
use Rattle.rt_entry.specs.declared.answer.Answer.{Answer}
use Rattle.rt_entry.specs.declared.answer.Answer.TheVariants.{Opened, Says, Ended}
use Rattle.rt_entry.specs.Story.{opening_at, members_at, present_at}
use Rattle.rt_entry.specs.Messages.{shown_meta}
use Rattle.rt_entry.specs.Doings.{story}
use Rattle.rt_entry.specs.Answers.{told, answers, due}
use Rattle.rt_entry.specs.Machine.{is_message, start, run}
use Rattle.rt_entry.specs.Readable.{payload_levels, IsOfLines}

abbrev pub after_message : List Held → Message → List Held
after_message held m =
    first_case (
    (bytes_eq m.event (codes "presence_state"), metas_in m.payload)
    ∷ (bytes_eq m.event (codes "presence_diff"), after_difference held m.payload)
    ∷ []) held

-- what messages leave with a client
abbrev pub client_view : List Held → List Message → List Held
client_view held [] = held
client_view held (m ∷ ms) = client_view (after_message held m) ms

-- a message to a channel's slot on its topic
abbrev pub said_to : Channel → ℕ × Answer → Option Message
said_to ch (slot, Says m) = elim ((slot == ch.slot) && bytes_eq m.topic ch.topic) [ true ↦ Some m | false ↦ None ]
said_to ch (slot, Opened version) = None
said_to ch (slot, Ended name) = None

module _ (c : Catalog) (s : Settings) where
  -- what a channel was told from its join on
  abbrev pub told_since : Channel → List Input → List Message
  told_since ch [] = []
  told_since ch (i ∷ before) =
      elim (nat_le ch.number (length before)) [
        | true ↦ told_since ch before
            ++ filter_map (said_to ch) (answers c s before i)
        | false ↦ []
      ]

  -- what is present on a topic
  abbrev pub present_behind : List Input → List ℕ → List Track
  present_behind journal topic = filter (λ t. bytes_eq t.topic topic) (present_at (story c s journal))

  -- Each member with presence holds what is present on its topic. A state is in key order and the tracks in journal
  -- order, so it is equal up to order.
  abbrev pub ClientsHold : List Input → Type 0
  ClientsHold journal =
      (ch : Channel) → Contains (members_at (story c s journal)) ch → ch.presence ≡ true
      → IsPermutation (client_view [] (told_since ch journal)) (map shown_meta (present_behind journal ch.topic))

  -- A client takes metas away by `phx_ref`, the number of the track's input in decimal, and that tells numbers apart
  -- below 2 ^ 64: so the journal is shorter.
  abbrev pub ClientsAgree : List Input → Type 0
  ClientsAgree journal = length journal < 2 ^ 64 → ClientsHold journal

  -- So it is at each place of the journal that any steps make: there it is no longer than the limit on inputs, a number
  -- of 32 bits.
  abbrev pub TakenClientsAgree : Type 0
  TakenClientsAgree =
      s.inputs < 2 ^ 32 → (steps : List Step) (later before : List Input)
      → (run c s steps start).journal ≡ later ++ before → ClientsHold before

-- The same of what a slot was given of an opening, by the opening's number on the slot: the messages behind so many
-- terminators, up to the next one.
abbrev pub items_of : ℕ → List Item → List Item
items_of number [] = []
items_of zero (Said bytes ∷ more) = Said bytes ∷ items_of zero more
items_of zero (End name ∷ more) = []
items_of (suc number) (Said bytes ∷ more) = items_of (suc number) more
items_of (suc number) (End name ∷ more) = items_of number more

-- those of the last opening: the items behind the last terminator
abbrev pub end_count : List Item → ℕ
end_count items = count_by (λ x. not (is_message x)) items

abbrev pub last_items : List Item → List Item
last_items [] = []
last_items (End name ∷ more) = last_items more
last_items (Said bytes ∷ more) = elim (end_count more == 0) [ true ↦ Said bytes ∷ more | false ↦ last_items more ]

abbrev pub said_by : Answer → Option Message
said_by (Says m) = Some m
said_by (Opened version) = None
said_by (Ended name) = None

abbrev pub as_items : Version → List Message → List Item
as_items version ms = map (λ m. Said (spelled version m)) ms

abbrev pub messages_to : Channel → List Message → List Message
messages_to ch ms = filter (λ m. bytes_eq m.topic ch.topic) ms

module _ (c : Catalog) (s : Settings) where
  -- what a channel's slot was told from its join on, on all topics
  abbrev pub said_since : Channel → List Input → List Message
  said_since ch [] = []
  said_since ch (i ∷ before) =
      elim (nat_le ch.number (length before)) [
        | true ↦ said_since ch before
            ++ filter_map said_by (told ch.slot (answers c s before i))
        | false ↦ []
      ]

  -- what a slot was given after steps; and of an opening, up to a place of it
  abbrev pub given_after : List Step → ℕ → List Item
  given_after steps slot = ((run c s steps start).slots slot).given

  abbrev pub given_of : List Step → ℕ → (number place : ℕ) → List Item
  given_of steps slot number place = items_of number (take place (given_after steps slot))

  -- The slot has a member with presence in the opening that it has then, and these items are exactly what is due of
  -- that opening by the inputs so far.
  pub record IsUpTo (given : List Item) (before : List Input) (ch : Channel) (o : Opening) : Type 0 where
    pub member : Contains (members_at (story c s before)) ch
    pub enabled : ch.presence ≡ true
    pub opening : opening_at (story c s before) ch.slot ≡ Some o
    pub items : given ≡ last_items (due c s before ch.slot)

  -- Then they end with all that the slot was told since the join, each message in the opening's spelling; and by these
  -- a client holds what is present on the channel's topic, whatever it held before.
  pub record HoldsPresent (given : List Item) (before : List Input) (ch : Channel) (o : Opening) : Type 0 where
    pub front : List Item
    pub whole : given ≡ front ++ as_items o.version (said_since ch before)
    pub holds : (held : List Held)
        → IsPermutation (client_view held (messages_to ch (said_since ch before)))
        (map shown_meta (present_behind c s before ch.topic))

  -- After any steps and for a place of the journal that they make: where a slot was given, of its opening of some
  -- number and up to some place of what it was given, exactly what is due of the opening that it has there. (So that
  -- opening isn't cut before. What was given of it later is for later places.)
  abbrev pub OpeningsAgree : Type 0
  OpeningsAgree =
      s.inputs < 2 ^ 32
      → (steps : List Step) (later before : List Input) (ch : Channel) (o : Opening) (number place : ℕ)
      → (run c s steps start).journal ≡ later ++ before
      → IsUpTo (given_of steps ch.slot number place) before ch o
      → HoldsPresent (given_of steps ch.slot number place) before ch o

  -- So it is of the last opening and of all that was given of it.
  abbrev pub GivenClientsAgree : Type 0
  GivenClientsAgree =
      s.inputs < 2 ^ 32
      → (steps : List Step) (later before : List Input) (ch : Channel) (o : Opening)
      → (run c s steps start).journal ≡ later ++ before
      → IsUpTo (last_items (given_after steps ch.slot)) before ch o
      → HoldsPresent (last_items (given_after steps ch.slot)) before ch o

-- The same by the bytes that a client reads, with a reader of its own: what the server says may be longer and nest
-- deeper than a frame that the server reads. It reads each text of the grammar whose lists and objects nest in at most
-- so many levels.
pub record IsReader (levels : ℕ) (read : List ℕ → Option Json) : Type 0 where
  pub reads : (bytes : List ℕ) (tree : Json) → IsWithin levels tree bytes → read bytes ≡ Some tree

abbrev pub message_in : (List ℕ → Option Json) → Version → Item → Option Message
message_in read version (Said bytes) = read bytes >>= message_of_tree version
message_in read version (End name) = None

abbrev pub messages_on : (List ℕ → Option Json) → Version → Channel → List Item → List Message
messages_on read version ch items = messages_to ch (filter_map (message_in read version) items)

module _ (c : Catalog) (s : Settings) where
  -- Any reader that goes as deep as the server's messages (a message is a level around its payload) finds in what the
  -- slot was given what is present, where the catalogue's names are UTF-8 and the changes are those of lines: else a
  -- text might be told that can't be read.
  abbrev pub OpeningReadersAgree : Type 0
  OpeningReadersAgree =
      HasReadableNames c → s.inputs < 2 ^ 32
      → (steps : List Step) (later before : List Input) (ch : Channel) (o : Opening) (number place : ℕ) (read : List ℕ
      → Option Json)
      → (run c s steps start).journal ≡ later ++ before → AllByRecursion (IsOfLines c) before
      → IsUpTo c s (given_of c s steps ch.slot number place) before ch o → IsReader (suc payload_levels) read
      → IsPermutation (client_view [] (messages_on read o.version ch (given_of c s steps ch.slot number place)))
      (map shown_meta (present_behind c s before ch.topic))

  -- So it is of the last opening and of all that was given of it.
  abbrev pub ReadersAgree : Type 0
  ReadersAgree =
      HasReadableNames c → s.inputs < 2 ^ 32
      → (steps : List Step) (later before : List Input) (ch : Channel) (o : Opening) (read : List ℕ → Option Json)
      → (run c s steps start).journal ≡ later ++ before → AllByRecursion (IsOfLines c) before
      → IsUpTo c s (last_items (given_after c s steps ch.slot)) before ch o → IsReader (suc payload_levels) read
      → IsPermutation (client_view [] (messages_on read o.version ch (last_items (given_after c s steps ch.slot))))
      (map shown_meta (present_behind c s before ch.topic))
