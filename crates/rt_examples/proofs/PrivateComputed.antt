-- Computed but for what the policy is of the row that is asked, which goes by its fold.
use Rattle.std.proofs.Common.{◌≡◌, ℕ, Bool, false, ◌||◌, not, List, [], ◌∷◌, ◌++◌, length, Option, Some, None, Ok, refl}
use Rattle.std.proofs.Common.{ap, ◌∙◌}
use Rattle.std.specs.Prelude.{if◌then◌else◌, codes, unwrap_or, is_none}
use Rattle.std.specs.Fmt.{decimal}
use Rattle.std.specs.List.{filter, filter_map, flat_map}
use Rattle.rt_value.specs.declared.row.Row.{Row}
use Rattle.rt_value.specs.declared.value.Value.{Value}
use Rattle.rt_value.specs.Tables.{rows_of_table}
use Rattle.rt_json.specs.declared.tree.Json.{Text, Null}
use Rattle.rt_policy.specs.declared.caller.Seen.{Seen}
use Rattle.rt_policy.specs.declared.caller.Seen.TheVariants.{Yes, NonePermits}
use Rattle.rt_policy.specs.declared.judge.Judge.{Judge}
use Rattle.rt_policy.specs.declared.judge.Judge.TheOpen.{Judge-F}
use Rattle.rt_policy.specs.Ranks.{reach}
use Rattle.rt_policy.specs.Truth.{is_true, truth_in}
use Rattle.rt_policy.specs.Worth.{Who, View, Place, worth, worth_step}
use Rattle.rt_policy.specs.Visibility.{visibility, view_by, visibility_within}
use Rattle.rt_phx.specs.declared.message.Message.{Message as Said}
use Rattle.rt_phx.specs.declared.message.Posting.{Posting}
use Rattle.rt_phx.specs.declared.message.Version.TheVariants.{V1}
use Rattle.rt_phx.specs.Frame.{message_of, no_members}
use Rattle.rt_phx.specs.Checked.{◌>>◌, unless}
use Rattle.rt_catalog.specs.declared.catalog.Catalog.{Catalog}
use Rattle.rt_private.specs.declared.right.Messages.{Messages}
use Rattle.rt_private.specs.Rights as private
use Rattle.rt_private.specs.Rights.{Use, row_asked, right_of_seen, denial_text}
use Rattle.rt_entry.specs.declared.input.Input.{Input}
use Rattle.rt_entry.specs.declared.input.Input.TheVariants.{Frame}
use Rattle.rt_entry.specs.declared.answer.Item.{Item}
use Rattle.rt_entry.specs.declared.answer.Item.TheVariants.{Message}
use Rattle.rt_entry.specs.declared.story.Standing.{Standing}
use Rattle.rt_entry.specs.declared.story.Channel.{Channel}
use Rattle.rt_entry.specs.declared.story.Part.{Part}
use Rattle.rt_entry.specs.Joining.{denied}
use Rattle.rt_entry.specs.Story.{Story, edits_at, now_of, tables_left}
use Rattle.rt_entry.specs.Doings.{join_result_parts, posting_parts, doings, story}
use Rattle.rt_entry.specs.Answers.{Answers, answer_of, answers, answers_by, all_answers, items_for, due}
use Rattle.rt_examples.specs.Computes.{computes}
use Rattle.rt_examples.specs.Notes.{settings}
use Rattle.rt_examples.specs.Rooms.{user}
use Rattle.rt_examples.specs.Private.{is_member, member_reads, member_is, member_reads_is, member_fold, reading_fold}
use Rattle.rt_examples.specs.Private.{member_reach, member_reads_reach, rules, channels, rooms, read_rooms}
use Rattle.rt_examples.specs.Private.{join, send, posting, post, broadcast, opened, listed, told_why}
use Rattle.rt_examples.specs.Private.{StrangersAreRefused, MembersJoin, OpenJoinsAreRefused, ReadersDontSend}
use Rattle.rt_examples.specs.Private.{MembersPost, ReadersDontPost}
use Rattle.rt_examples.specs.Texts.{said, joined_with}

pub open_joins_are_refused_holds : OpenJoinsAreRefused
unfolding computes
open_joins_are_refused_holds = refl

abbrev who : Who
who = record { role = 0; bypass = false; claims = user 161 }

abbrev messages : Messages
messages = record { table = 0; topic = 1; extension = 2; action = 3 }

abbrev seen_if : Bool → Seen
seen_if b = if not (b || false) then NonePermits else Yes

view : Judge → (ℕ → List Row) → View
view j rows = view_by rows (visibility_within 1 (rules j) who rows)

module _ (j : Judge) (reaches : reach (rules j) j ≡ 1) where
  abbrev catalog : Catalog
  catalog = channels j reaches

  -- the place that a use is asked at
  abbrev place : Use → Place
  place use_ = record { outer = row_asked catalog messages (codes "r1") use_; inner = None }

  -- why a use is denied, by the value of the policy's expression
  abbrev reason : Use → (Place → Value) → Option (List ℕ)
  reason use_ value = denial_text catalog messages (right_of_seen (seen_if (is_true (truth_in (value (place use_))))))

  denied_by : (tables : List (List Row)) (use_ : Use)
      → denied catalog tables 0 (user 161) (codes "r1") use_ ≡ reason use_ (worth who (view j (rows_of_table tables)) j)
  unfolding computes visibility view
  denied_by tables use_ = refl

  -- the channel of a join behind so many inputs
  abbrev made : ℕ → Standing → Channel
  made number standing =
      record {
        number = number;
        slot = 0;
        topic = codes "realtime:r1";
        join_ref = Text (codes "1");
        standing = standing;
        bindings = [];
        first_id = 1;
        ack = false;
        own = false;
        presence = false;
        key = decimal number;
      }

  abbrev standing : Option (List ℕ) → Option (List ℕ) → Standing
  standing s t = record { role = 0; claims = user 161; send = s; track = t }

  abbrev bare : Said
  bare = record { join_ref = Null; reference = Null; topic = []; event = []; payload = no_members }

  abbrev asked : Said
  asked = unwrap_or (message_of V1 join) bare

  abbrev by_reasons : List Input → Option (List ℕ) → Option (List ℕ) → Option (List ℕ) → List Part
  by_reasons before r s t =
      join_result_parts (now_of (story catalog settings before)) 0 [] asked
      ((unless r >> λ _. Ok (standing s t)) >> λ x. Ok (made (length before) x))

  abbrev left : List Input → List (List Row)
  left before = tables_left catalog (story catalog settings before) (Frame 0 join)

  abbrev why : List Input → Use → Option (List ℕ)
  why before use_ = denied catalog (left before) 0 (user 161) (codes "r1") use_

  abbrev done : List Input → List Part
  done before = doings catalog settings (now_of (story catalog settings before)) (left before) (Frame 0 join)

  -- by the reasons against the three uses that a join asks for
  abbrev by_uses : List Input → List Part
  by_uses before = by_reasons before (why before private.join) (why before private.send) (why before private.track)

  joins_opened : done opened ≡ by_uses opened
  unfolding computes
  joins_opened = refl

  joins_listed : done listed ≡ by_uses listed
  unfolding computes
  joins_listed = refl

  -- what is due by what the join does
  abbrev due_by : List Input → List Part → List Item
  due_by before parts = items_for 0 (all_answers catalog settings before ++ filter_map answer_of parts)

  due_is : (before : List Input) → due catalog settings (Frame 0 join ∷ before) 0 ≡ due_by before (done before)
  unfolding all_answers answers_by
  due_is before = refl

  -- and by what a frame behind it is answered
  abbrev story_by : List Input → List Part → Story
  story_by before parts = record { input = Frame 0 join; parts = parts } ∷ story catalog settings before

  abbrev then_answers : Story → List ℕ → Answers
  then_answers st bytes =
      answers_by catalog settings (now_of st) (tables_left catalog st (Frame 0 bytes)) (Frame 0 bytes)

  abbrev due_then : List Input → List ℕ → List Part → List Item
  due_then before bytes parts =
      let first : Answers = all_answers catalog settings before ++ filter_map answer_of parts in
      items_for 0 (first ++ then_answers (story_by before parts) bytes)

  due_then_is : (before : List Input) (bytes : List ℕ)
      → due catalog settings (Frame 0 bytes ∷ Frame 0 join ∷ before) 0 ≡ due_then before bytes (done before)
  unfolding all_answers answers_by story
  due_then_is before bytes = refl

  -- what the channel gets of a post behind the join, by the reason against it
  abbrev given_on : Story → List Item
  given_on st = items_for 0 (answers_by catalog settings (now_of st) (tables_left catalog st post) post)

  abbrev posted_if : Story → Option (List ℕ) → List Item
  posted_if st why =
      let may : List Posting = filter (λ p. is_none why) (posting ∷ []) in
      items_for 0 (filter_map answer_of (flat_map (posting_parts (now_of st)) may))

  given_is : (before : List Input)
      → items_for 0 (answers catalog settings (Frame 0 join ∷ before) post) ≡ given_on (story_by before (done before))
  unfolding story
  given_is before = refl

  posted_is : (st : Story)
      → given_on st ≡ posted_if st (denied catalog (tables_left catalog st post) 0 (user 161) (codes "r1") private.send)
  unfolding computes
  posted_is st = refl

  -- the tables are those that the join found
  same_left : (before : List Input) (parts : List Part) → tables_left catalog (story_by before parts) post ≡ left before
  unfolding edits_at
  same_left before parts = refl

  -- a post is heard or not, by the reasons against the join and the post
  post_is : (before : List Input) (r s t why : Option (List ℕ)) → done before ≡ by_reasons before r s t
      → denied catalog (left before) 0 (user 161) (codes "r1") private.send ≡ why
      → items_for 0 (answers catalog settings (Frame 0 join ∷ before) post)
      ≡ posted_if (story_by before (by_reasons before r s t)) why
  post_is before r s t why e k =
      let parts : List Part = by_reasons before r s t in
      given_is before ∙ ap (λ ps. given_on (story_by before ps)) e
      ∙ posted_is (story_by before parts)
      ∙ ap (λ ts. posted_if (story_by before parts) (denied catalog ts 0 (user 161) (codes "r1") private.send))
      (same_left before parts)
      ∙ ap (posted_if (story_by before parts)) k

abbrev none : Option (List ℕ)
none = Some (codes "private: none permits")

-- the expressions' values, where the members are those that the tables have
abbrev step_by : Judge → List (List Row) → Judge-F (Place → Value) → Place → Value
step_by j tables = worth_step who (view j (rows_of_table tables))

abbrev member_by : List (List Row) → Place → Value
member_by tables = member_fold (Place → Value) (step_by is_member tables)

-- why a use is denied by a value of either expression
abbrev member_reason : Use → (Place → Value) → Option (List ℕ)
member_reason use_ value = reason is_member member_reach use_ value

abbrev reads_reason : Use → (Place → Value) → Option (List ℕ)
reads_reason use_ value = reason member_reads member_reads_reach use_ value

-- the tables that a join finds
abbrev members_left : List Input → List (List Row)
members_left before = left is_member member_reach before

abbrev reads_left : List (List Row)
reads_left = left member_reads member_reads_reach listed

abbrev reads_by : List (List Row) → Place → Value
reads_by tables =
    let step : Judge-F (Place → Value) → Place → Value = step_by member_reads tables in
    step (Judge-F.And (member_fold (Place → Value) step ∷ reading_fold (Place → Value) step ∷ []))

member_denied : (tables : List (List Row)) (use_ : Use)
    → denied rooms tables 0 (user 161) (codes "r1") use_ ≡ member_reason use_ (member_by tables)
member_denied tables use_ =
    denied_by is_member member_reach tables use_
    ∙ ap (member_reason use_) (member_is (Place → Value) (step_by is_member tables))

reads_denied : (tables : List (List Row)) (use_ : Use)
    → denied read_rooms tables 0 (user 161) (codes "r1") use_ ≡ reads_reason use_ (reads_by tables)
reads_denied tables use_ =
    denied_by member_reads member_reads_reach tables use_
    ∙ ap (reads_reason use_) (member_reads_is (Place → Value) (step_by member_reads tables))

-- without the member's row nothing is permitted
stranger : member_reason private.join (member_by (members_left opened)) ≡ none
unfolding computes view
stranger = refl

-- with it all is, whatever is asked
member : (use_ : Use) → member_reason use_ (member_by (members_left listed)) ≡ None
unfolding computes view
member use_ = refl

reader_joins : reads_reason private.join (reads_by reads_left) ≡ None
unfolding computes view
reader_joins = refl

reader_sends : reads_reason private.send (reads_by reads_left) ≡ none
unfolding computes view
reader_sends = refl

reader_tracks : reads_reason private.track (reads_by reads_left) ≡ none
unfolding computes view
reader_tracks = refl

-- what is due by the reasons against the three uses, with the policy of members alone
abbrev members_due : List Input → Option (List ℕ) → Option (List ℕ) → Option (List ℕ) → List Item
members_due before r s t = due_by is_member member_reach before (by_reasons is_member member_reach before r s t)

abbrev members_why : List Input → Use → Option (List ℕ)
members_why before use_ = why is_member member_reach before use_

refused : members_due opened none (members_why opened private.send) (members_why opened private.track)
    ≡ told_why (codes "private: none permits") (codes "\"1\"") ∷ []
unfolding computes
refused = refl

pub strangers_are_refused_holds : StrangersAreRefused
strangers_are_refused_holds =
    due_is is_member member_reach opened
    ∙ ap (due_by is_member member_reach opened) (joins_opened is_member member_reach)
    ∙ ap (λ r. members_due opened r (members_why opened private.send) (members_why opened private.track))
    (member_denied (members_left opened) private.join ∙ stranger)
    ∙ refused

admitted : members_due listed None None None ≡ joined_with (codes "realtime:r1") [] ∷ []
unfolding computes
admitted = refl

-- nothing is denied to a member
may : (use_ : Use) → members_why listed use_ ≡ None
may use_ = member_denied (members_left listed) use_ ∙ member use_

member_done : done is_member member_reach listed ≡ by_reasons is_member member_reach listed None None None
member_done =
    joins_listed is_member member_reach
    ∙ (λ i. by_reasons is_member member_reach listed (may private.join i) (may private.send i) (may private.track i))

pub members_join_holds : MembersJoin
members_join_holds =
    due_is is_member member_reach listed ∙ ap (due_by is_member member_reach listed) member_done ∙ admitted

-- and with the policy of members who read, where the frame that sends follows
abbrev reads_due : Option (List ℕ) → Option (List ℕ) → Option (List ℕ) → List Item
reads_due r s t =
    due_then member_reads member_reads_reach listed send (by_reasons member_reads member_reads_reach listed r s t)

unsent : reads_due None none none
    ≡ joined_with (codes "realtime:r1") [] ∷ told_why (codes "private: none permits") (codes "\"2\"") ∷ []
unfolding computes
unsent = refl

no_sending : denied read_rooms reads_left 0 (user 161) (codes "r1") private.send ≡ none
no_sending = reads_denied reads_left private.send ∙ reader_sends

reader_done :
    done member_reads member_reads_reach listed ≡ by_reasons member_reads member_reads_reach listed None none none
reader_done =
    let a = reads_denied reads_left private.join ∙ reader_joins in
    let d = reads_denied reads_left private.track ∙ reader_tracks in
    joins_listed member_reads member_reads_reach
    ∙ (λ i. by_reasons member_reads member_reads_reach listed (a i) (no_sending i) (d i))

pub readers_dont_send_holds : ReadersDontSend
readers_dont_send_holds =
    due_then_is member_reads member_reads_reach listed send
    ∙ ap (due_then member_reads member_reads_reach listed send) reader_done
    ∙ unsent

-- the stories in which they have joined
abbrev member_story : Story
member_story = story_by is_member member_reach listed (by_reasons is_member member_reach listed None None None)

abbrev reader_story : Story
reader_story =
    story_by member_reads member_reads_reach listed (by_reasons member_reads member_reads_reach listed None none none)

posted : posted_if is_member member_reach member_story None
    ≡ Message (said (codes "realtime:r1") (codes "broadcast") broadcast (codes "null")) ∷ []
unfolding computes
posted = refl

unposted : posted_if member_reads member_reads_reach reader_story none ≡ []
unfolding computes
unposted = refl

pub members_post_holds : MembersPost
members_post_holds = post_is is_member member_reach listed None None None None member_done (may private.send) ∙ posted

pub readers_dont_post_holds : ReadersDontPost
readers_dont_post_holds =
    post_is member_reads member_reads_reach listed None none none none reader_done no_sending ∙ unposted
