-- What a hub answers a socket that asks to join or to renew; and the sockets behind a frame and a tick.
use Rattle.std.specs.Prelude.{◌≡◌, ◌≢◌, ℕ, ◌<◌, true, List, [], ◌∷◌, ◌++◌, Option, Some, None, option_map, Ok, Err}
use Rattle.std.specs.Prelude.{Contains}
use Rattle.rt_value.specs.Choice.{◌>>=◌}
use Rattle.rt_value.specs.declared.claims.Claims.{Claims}
use Rattle.rt_value.specs.declared.row.Row.{Row}
use Rattle.rt_phx.specs.declared.message.Posting.{Posting}
use Rattle.rt_phx.specs.Checked.{Checked}
use Rattle.rt_catalog.specs.declared.catalog.Catalog.{Catalog}
use Rattle.rt_change.specs.declared.change.Change.{Change}
use Rattle.rt_channel.specs.declared.answer.Answer.{Answer}
use Rattle.rt_channel.specs.declared.answer.Answer.TheVariants.{Accepted, Renewed, Refused}
use Rattle.rt_channel.specs.declared.effect.Effect.{Effect}
use Rattle.rt_channel.specs.declared.effect.Effect.TheVariants.{Join, Renew}
use Rattle.rt_channel.specs.declared.held.Held.{Held}
use Rattle.rt_channel.specs.Effects.{effects_of}
use Rattle.rt_channel.specs.Taken.{taken, ticked, is_asked, unanswered, answered}
use Rattle.rt_entry.specs.declared.input.Input.{Input}
use Rattle.rt_entry.specs.declared.input.Input.TheVariants.{Frame, Gone, Post, Poll, Tick}
use Rattle.rt_entry.specs.declared.input.Settings.{Settings}
use Rattle.rt_entry.specs.declared.story.Standing.{Standing}
use Rattle.rt_entry.specs.declared.story.Channel.{Channel}
use Rattle.rt_entry.specs.declared.story.Member.{Member}
use Rattle.rt_entry.specs.Story.{Now}
use Rattle.rt_entry.specs.Doings.{channel_on, doings}
use Rattle.rt_entry.specs.After.{after, found_by}
use Rattle.rt_hub.specs.Sockets.{socket_of}
use Rattle.rt_hub.specs.Doing.{HasTopicsApart, asked, channel_of_wish, standing_by}

-- the channel that a join makes, as its socket is told of it
abbrev pub join_answer : Checked Channel → Answer
join_answer (Ok ch) = Accepted ch.presence ch.standing.send ch.standing.track
join_answer (Err why) = Refused

abbrev pub renewal_answer : Checked Standing → Answer
renewal_answer (Ok standing) = Renewed standing.send standing.track
renewal_answer (Err why) = Refused

-- of claims for the channel of a topic, where there is one
abbrev pub renewal_for : (Channel → Checked Standing) → Option Member → Answer
renewal_for judge None = Refused
renewal_for judge (Some h) = renewal_answer (judge h.channel)

module _ (c : Catalog) (now : Now) (tables : List (List Row)) (slot : ℕ) where
  -- what a socket is answered, by what stands before the input
  abbrev pub answer_to : Effect → Answer
  answer_to (Join w) = join_answer (channel_of_wish c now tables slot w)
  answer_to (Renew topic claims) = renewal_for (standing_by c now tables claims) (channel_on now slot topic)
  answer_to _ = Refused

  -- a socket once what it waits for is answered
  abbrev pub settled : Option Effect → Held → Held
  settled None held = held
  settled (Some e) held = answered e (answer_to e) held

-- A slot has one channel on a topic, a number is one channel's, and those are the numbers of inputs before.
pub record HasOwnChannels (now : Now) : Type 0 where
  pub topics : HasTopicsApart now.members
  pub numbers : (g h : Member) → Contains now.members g → Contains now.members h
      → g.channel.number ≡ h.channel.number → g ≡ h
  pub below : (h : Member) → Contains now.members h → h.channel.number < now.number

-- A frame asks to join or to renew once at most, and last.
abbrev pub FramesWaitLast : Type 0
FramesWaitLast =
    (secret : List ℕ) (number moment : ℕ) (held : Held) (bytes : List ℕ) (front back : List Effect) (e : Effect)
    → effects_of secret number moment held bytes ≡ front ++ e ∷ back → is_asked e ≡ true → back ≡ []

module _ (c : Catalog) (s : Settings) where
  -- so it is behind every journal
  abbrev pub JournalsHaveOwnChannels : Type 0
  JournalsHaveOwnChannels = (journal : List Input) → HasOwnChannels (found_by c s journal)

  -- what stands behind an input
  abbrev pub behind : Now → List (List Row) → Input → Now
  behind now tables i = after now i (doings c s now tables i)

  -- what a frame asks for, by the socket that it finds
  abbrev pub asked_by : Now → ℕ → List ℕ → List Effect
  asked_by now slot bytes =
      asked (λ held. effects_of s.secret now.number now.moment held bytes) (socket_of c now slot)

  -- The socket behind a frame is the one that took it, once what it waits for is answered.
  abbrev pub FramesAreTaken : Type 0
  FramesAreTaken =
      (now : Now) (tables : List (List Row)) (slot : ℕ) (bytes : List ℕ) → HasOwnChannels now
      → socket_of c (behind now tables (Frame slot bytes)) slot
      ≡ option_map (settled c now tables slot (unanswered (asked_by now slot bytes)))
      (socket_of c now slot >>= taken s.secret now.number now.moment bytes)

  -- and that of every other slot is what it was
  abbrev pub FramesLeaveOthers : Type 0
  FramesLeaveOthers =
      (now : Now) (tables : List (List Row)) (slot other : ℕ) (bytes : List ℕ) → HasOwnChannels now → other ≢ slot
      → socket_of c (behind now tables (Frame slot bytes)) other ≡ socket_of c now other

  -- The socket of each slot behind a tick is the one that took it.
  abbrev pub TicksAreTaken : Type 0
  TicksAreTaken =
      (now : Now) (tables : List (List Row)) (slot moment : ℕ) → HasOwnChannels now
      → socket_of c (behind now tables (Tick moment)) slot ≡ (socket_of c now slot >>= ticked moment)

  -- Posts and polls leave every socket as it is,
  abbrev pub PostsAndPollsLeave : Type 0
  PostsAndPollsLeave =
      (now : Now) (tables : List (List Row)) (slot : ℕ) → HasOwnChannels now
      → ((by : ℕ) (claims : Claims) (messages : List Posting)
      → socket_of c (behind now tables (Post by claims messages)) slot ≡ socket_of c now slot)
      × ((changes : List Change) → socket_of c (behind now tables (Poll changes)) slot ≡ socket_of c now slot)

  -- and a client that is gone leaves none on its slot, and every other slot's as it is.
  abbrev pub GoneIsShut : Type 0
  GoneIsShut =
      (now : Now) (tables : List (List Row)) (slot : ℕ) → HasOwnChannels now
      → socket_of c (behind now tables (Gone slot)) slot ≡ None

  abbrev pub GoneLeavesOthers : Type 0
  GoneLeavesOthers =
      (now : Now) (tables : List (List Row)) (slot other : ℕ) → HasOwnChannels now → other ≢ slot
      → socket_of c (behind now tables (Gone slot)) other ≡ socket_of c now other
