-- Private channels: who joined, renewed, sent and tracked had the right to it, by the policies of `realtime.messages`
-- when it was judged.
use Rattle.std.specs.Prelude.{◌≡◌, ◌⊎◌, ℕ, true, List, [], ◌∷◌, ◌++◌, codes, Some, None, Ok, Contains}
use Rattle.std.specs.Str.{bytes_eq}
use Rattle.rt_value.specs.declared.claims.Claims.{Claims}
use Rattle.rt_value.specs.declared.row.Row.{Row}
use Rattle.rt_token.specs.Asked.{seconds_of}
use Rattle.rt_token.specs.Claims.{is_expired}
use Rattle.rt_phx.specs.declared.message.Message.{Message}
use Rattle.rt_phx.specs.declared.message.Posting.{Posting}
use Rattle.rt_phx.specs.Asks.{name_in}
use Rattle.rt_phx.specs.Posts.{channel_topic}
use Rattle.rt_catalog.specs.declared.catalog.Catalog.{Catalog}
use Rattle.rt_registry.specs.Bindings.{role_for}
use Rattle.rt_private.specs.declared.right.Messages.{Messages}
use Rattle.rt_private.specs.Rights as private
use Rattle.rt_private.specs.Rights.{Use, messages_of, right, denial_text, denial}
use Rattle.rt_entry.specs.declared.input.Input.{Input}
use Rattle.rt_entry.specs.declared.input.Input.TheVariants.{Frame, Post}
use Rattle.rt_entry.specs.declared.input.Settings.{Settings}
use Rattle.rt_entry.specs.declared.story.Standing.{Standing}
use Rattle.rt_entry.specs.declared.story.Channel.{Channel}
use Rattle.rt_entry.specs.declared.story.Member.{Member}
use Rattle.rt_entry.specs.declared.story.Track.{Track}
use Rattle.rt_entry.specs.declared.story.Part.TheVariants.{Joins, Renews, Tracks}
use Rattle.rt_entry.specs.declared.answer.Answer.TheVariants.{Says}
use Rattle.rt_entry.specs.Joining.{denied}
use Rattle.rt_entry.specs.Story.{Now, tables_left}
use Rattle.rt_entry.specs.Doings.{story, may_post}
use Rattle.rt_entry.specs.Answers.{answers}
use Rattle.rt_entry.specs.After.{done_by, found_by}
use Rattle.rt_entry.specs.Members.{members_of_journal}

module _ (c : Catalog) where
  -- By the rows of the tables: the role is that of the claims, which may join the topic; and a broadcast and a track
  -- are denied exactly where their rights aren't given, with the same reason.
  pub record IsJudged (tables : List (List Row)) (topic : List ℕ) (x : Standing) : Type 0 where
    pub role : role_for c x.claims ≡ Ok x.role
    pub join : denied c tables x.role x.claims (name_in topic) private.join ≡ None
    pub send : x.send ≡ denied c tables x.role x.claims (name_in topic) private.send
    pub track : x.track ≡ denied c tables x.role x.claims (name_in topic) private.track

  -- a channel was judged so, and where it hears who is present, that right was given too
  pub record IsAdmitted (tables : List (List Row)) (ch : Channel) : Type 0 where
    pub judged : IsJudged tables ch.topic ch.standing
    pub presence : ch.presence ≡ true
        → denied c tables ch.standing.role ch.standing.claims (name_in ch.topic) private.presence ≡ None

  -- a reason is told exactly where there is a messages table by whose policies the right isn't given, and then it says
  -- why
  pub record IsReason (rows : ℕ → List Row) (role : ℕ) (claims : Claims) (name : List ℕ) (use_ : Use)
      (why : List ℕ) : Type 0 where
    pub messages : Messages
    pub known : messages_of c ≡ Some messages
    pub told : denial_text c messages (right c rows messages role claims name use_) ≡ Some why

  abbrev pub DenialsAreReasons : Type 0
  DenialsAreReasons =
      (rows : ℕ → List Row) (role : ℕ) (claims : Claims) (name : List ℕ) (use_ : Use) (why : List ℕ)
      → denial c rows role claims name use_ ≡ Some why → IsReason rows role claims name use_ why

  abbrev pub ReasonsAreDenials : Type 0
  ReasonsAreDenials =
      (rows : ℕ → List Row) (role : ℕ) (claims : Claims) (name : List ℕ) (use_ : Use) (why : List ℕ)
      → IsReason rows role claims name use_ why → denial c rows role claims name use_ ≡ Some why

  -- without a messages table nothing is denied
  abbrev pub NothingIsDenied : Type 0
  NothingIsDenied =
      messages_of c ≡ None
      → (rows : ℕ → List Row) (role : ℕ) (claims : Claims) (name : List ℕ) (use_ : Use)
      → denial c rows role claims name use_ ≡ None

module _ (c : Catalog) (s : Settings) where
  -- the tables that an input behind a journal is judged on
  abbrev pub tables_by : List Input → Input → List (List Row)
  tables_by journal i = tables_left c (story c s journal) i

  -- a post says nothing where its claims have run out
  abbrev pub PostsRunOut : Type 0
  PostsRunOut =
      (before : List Input) (slot : ℕ) (claims : Claims) (messages : List Posting)
      → is_expired (seconds_of (found_by c s before).moment) claims.exp ≡ true
      → answers c s before (Post slot claims messages) ≡ []

  -- without a messages table every message may be posted
  abbrev pub EachIsPosted : Type 0
  EachIsPosted =
      messages_of c ≡ None → (now : Now) (tables : List (List Row)) (claims : Claims) (p : Posting)
      → may_post c s now tables claims p ≡ true

  abbrev pub JoinsAreJudged : Type 0
  JoinsAreJudged =
      (before : List Input) (i : Input) (ch : Channel) → Contains (done_by c s before i) (Joins ch)
      → IsAdmitted c (tables_by before i) ch

  -- the member of that number was judged anew on its topic
  pub record IsRenewal (before : List Input) (i : Input) (number : ℕ) (x : Standing) : Type 0 where
    pub member : Member
    pub known : Contains (members_of_journal c s before) member
    pub numbered : member.channel.number ≡ number
    pub judged : IsJudged c (tables_by before i) member.channel.topic x

  abbrev pub RenewalsAreJudged : Type 0
  RenewalsAreJudged =
      (before : List Input) (i : Input) (number : ℕ) (x : Standing)
      → Contains (done_by c s before i) (Renews number x) → IsRenewal before i number x

  -- an input of the journal made the channel join with the standing that the member has, or renewed it to that, and it
  -- was judged then
  pub record WasJudged (journal : List Input) (h : Member) : Type 0 where
    pub later : List Input
    pub input : Input
    pub before : List Input
    pub whole : journal ≡ later ++ input ∷ before
    pub made : (Contains (done_by c s before input) (Joins h.channel) × (h.standing ≡ h.channel.standing))
        ⊎ Contains (done_by c s before input) (Renews h.channel.number h.standing)
    pub judged : IsJudged c (tables_by before input) h.channel.topic h.standing

  abbrev pub MembersAreJudged : Type 0
  MembersAreJudged = (journal : List Input) (h : Member) → Contains (members_of_journal c s journal) h
      → WasJudged journal h

  -- a member of the frame's slot may send to the topic, by its last judging
  pub record IsSent (before : List Input) (i : Input) (topic : List ℕ) : Type 0 where
    pub slot : ℕ
    pub bytes : List ℕ
    pub frame : i ≡ Frame slot bytes
    pub member : Member
    pub known : Contains (members_of_journal c s before) member
    pub own : member.channel.slot ≡ slot
    pub topical : member.channel.topic ≡ topic
    pub permitted : member.standing.send ≡ None

  -- the claims of the post may send one of its messages to the topic
  pub record IsPosted (before : List Input) (i : Input) (topic : List ℕ) : Type 0 where
    pub slot : ℕ
    pub claims : Claims
    pub messages : List Posting
    pub post : i ≡ Post slot claims messages
    pub message : Posting
    pub known : Contains messages message
    pub topical : channel_topic message ≡ topic
    pub permitted : may_post c s (found_by c s before) (tables_by before i) claims message ≡ true

  abbrev pub BroadcastsArePermitted : Type 0
  BroadcastsArePermitted =
      (before : List Input) (i : Input) (slot : ℕ) (m : Message)
      → Contains (answers c s before i) (slot, Says m) → bytes_eq m.event (codes "broadcast") ≡ true
      → IsSent before i m.topic ⊎ IsPosted before i m.topic

  -- the member that tracks may, by its last judging
  pub record MayTrack (before : List Input) (t : Track) : Type 0 where
    pub member : Member
    pub known : Contains (members_of_journal c s before) member
    pub numbered : member.channel.number ≡ t.channel
    pub topical : member.channel.topic ≡ t.topic
    pub permitted : member.standing.track ≡ None

  abbrev pub TracksArePermitted : Type 0
  TracksArePermitted =
      (before : List Input) (i : Input) (t : Track) → Contains (done_by c s before i) (Tracks t) → MayTrack before t
