-- Private channels: who may join is what a policy of `realtime.messages` says, here that the caller is a member of the
-- topic's room; and a policy that permits to read alone lets nobody send.
use Rattle.std.specs.Prelude.{◌≡◌, ℕ, List, [], ◌∷◌, ◌++◌, ◌&&◌, true, false, nat_le, codes, Some, None}
use Rattle.std.proofs.Common.{lit<, ap, ◌∙◌}
use Rattle.rt_value.specs.declared.value.Value.TheVariants as value
use Rattle.rt_value.specs.declared.value.Kind.TheVariants as kind
use Rattle.rt_value.specs.declared.row.Key.{Key}
use Rattle.rt_value.specs.declared.edit.Edit.TheVariants.{Put}
use Rattle.rt_json.specs.declared.tree.Json.TheVariants.{Object}
use Rattle.rt_phx.specs.declared.message.Posting.{Posting}
use Rattle.rt_phx.specs.declared.message.Version.TheVariants.{V1}
use Rattle.rt_policy.specs.declared.judge.Comparison.TheVariants.{Equal}
use Rattle.rt_policy.specs.declared.judge.Judge.{Judge}
use Rattle.rt_policy.specs.declared.judge.Judge.TheVariants as judge
use Rattle.rt_policy.specs.declared.judge.Judge.TheOpen.{Judge-F}
use Rattle.rt_policy.specs.declared.judge.Judge.TheFolds.{fold-Judge}
use Rattle.rt_policy.specs.declared.tables.TableRules.{TableRules}
use Rattle.rt_policy.specs.declared.tables.Policy.{Policy}
use Rattle.rt_policy.specs.Ranks.{has_no_ring, reach, reach_step}
use Rattle.rt_catalog.specs.declared.catalog.Catalog.{Catalog}
use Rattle.rt_catalog.specs.declared.catalog.Table.{Table}
use Rattle.rt_change.specs.declared.change.Change.{Change}
use Rattle.rt_change.specs.declared.change.Verb.TheVariants.{Insert}
use Rattle.rt_entry.specs.declared.input.Input.{Input}
use Rattle.rt_entry.specs.declared.input.Input.TheVariants.{Opened, Frame, Post, Poll}
use Rattle.rt_entry.specs.declared.answer.Item.{Item}
use Rattle.rt_entry.specs.declared.answer.Item.TheVariants.{Message}
use Rattle.rt_entry.specs.Answers.{answers, items_for, due}
use Rattle.rt_examples.specs.Folds.{fold_literal, fold_outer, fold_inner, fold_uid, fold_exists, equal_is, both_are}
use Rattle.rt_examples.specs.Notes.{settings}
use Rattle.rt_examples.specs.Rooms.{user}
use Rattle.rt_examples.specs.Texts.{said, join_of, joined_with, refused}

-- x.room = topic and x.user_id = auth.uid()
abbrev pub is_own : Judge
is_own =
    judge.And (judge.Compare Equal (judge.Inner 0) (judge.Outer 1) ∷ judge.Compare Equal (judge.Inner 1) judge.Uid ∷ [])

-- exists (select 1 from members x where x.room = topic and x.user_id = auth.uid())
abbrev pub is_member : Judge
is_member = judge.Exists 1 is_own

-- action = 'read'
abbrev pub is_reading : Judge
is_reading = judge.Compare Equal (judge.Outer 3) (judge.Literal (value.Text (codes "read")))

-- both
abbrev pub member_reads : Judge
member_reads = judge.And (is_member ∷ is_reading ∷ [])

-- what folds over these are
module _ (A : Type 0) (step : Judge-F A → A) where
  abbrev pub own_fold : A
  own_fold =
      step (Judge-F.And (step (Judge-F.Compare Equal (step (Judge-F.Inner 0)) (step (Judge-F.Outer 1)))
      ∷ step (Judge-F.Compare Equal (step (Judge-F.Inner 1)) (step Judge-F.Uid)) ∷ []))

  abbrev pub member_fold : A
  member_fold = step (Judge-F.Exists 1 own_fold)

  abbrev pub reading_fold : A
  reading_fold =
      step (Judge-F.Compare Equal (step (Judge-F.Outer 3)) (step (Judge-F.Literal (value.Text (codes "read")))))

  own_is : fold-Judge A step is_own ≡ own_fold
  own_is =
      both_are A step (judge.Compare Equal (judge.Inner 0) (judge.Outer 1))
      (judge.Compare Equal (judge.Inner 1) judge.Uid) _ _
      (equal_is A step (judge.Inner 0) (judge.Outer 1) _ _ (fold_inner A step 0) (fold_outer A step 1))
      (equal_is A step (judge.Inner 1) judge.Uid _ _ (fold_inner A step 1) (fold_uid A step))

  pub member_is : fold-Judge A step is_member ≡ member_fold
  member_is = fold_exists A step 1 is_own ∙ ap (λ x. step (Judge-F.Exists 1 x)) own_is

  pub member_reads_is : fold-Judge A step member_reads ≡ step (Judge-F.And (member_fold ∷ reading_fold ∷ []))
  member_reads_is =
      both_are A step is_member is_reading _ _ member_is
      (equal_is A step (judge.Outer 3) (judge.Literal (value.Text (codes "read"))) _ _ (fold_outer A step 3)
      (fold_literal A step (value.Text (codes "read"))))

-- create policy m on realtime.messages using ( .. );
abbrev pub policy : Judge → Policy
policy j = record { name = codes "m"; restrictive = false; selects = true; roles = None; judge = Some j }

abbrev pub rules : Judge → List TableRules
rules j =
    record { secured = true; rank = 1; policies = policy j ∷ []; few = lit< tt }
    ∷ record { secured = false; rank = 0; policies = []; few = lit< tt } ∷ []

pub descends_to_members : (j : Judge) → reach (rules j) j ≡ 1 → has_no_ring (rules j) ≡ true
descends_to_members j e = ap (λ n. (nat_le n 1 && true) && (true && true)) e

pub member_reach : reach (rules is_member) is_member ≡ 1
member_reach = member_is ℕ (reach_step (rules is_member))

pub member_reads_reach : reach (rules member_reads) member_reads ≡ 1
member_reads_reach = member_reads_is ℕ (reach_step (rules member_reads))

-- create table realtime.messages (id int8 primary key, topic text, extension text, action text);
abbrev pub messages_table : Table
messages_table =
    record {
      schema = codes "realtime";
      name = codes "messages";
      columns =
          record { name = codes "id"; kind = kind.Int8; shown = codes "int8" }
          ∷ record { name = codes "topic"; kind = kind.Text; shown = codes "text" }
          ∷ record { name = codes "extension"; kind = kind.Text; shown = codes "text" }
          ∷ record { name = codes "action"; kind = kind.Text; shown = codes "text" } ∷ [];
      key = 0 ∷ [];
    }

-- create table members (room text, user_id uuid, primary key (room, user_id));
abbrev pub members_table : Table
members_table =
    record {
      schema = codes "public";
      name = codes "members";
      columns =
          record { name = codes "room"; kind = kind.Text; shown = codes "text" }
          ∷ record { name = codes "user_id"; kind = kind.Uuid; shown = codes "uuid" } ∷ [];
      key = 0 ∷ 1 ∷ [];
    }

-- create role authenticated; grant select on realtime.messages, members to authenticated;
-- alter table realtime.messages enable row level security; and the policy
abbrev pub channels : (j : Judge) → reach (rules j) j ≡ 1 → Catalog
channels j reaches =
    record {
      tables = messages_table ∷ members_table ∷ [];
      roles = record { name = codes "authenticated"; bypass = false } ∷ [];
      grants =
          record { table = 0; column = None; role = Some 0 } ∷ record { table = 1; column = None; role = Some 0 } ∷ [];
      rules = record { tables = rules j; no_ring = descends_to_members j reaches };
    }

abbrev pub rooms : Catalog
rooms = channels is_member member_reach

-- members may read alone
abbrev pub read_rooms : Catalog
read_rooms = channels member_reads member_reads_reach

abbrev pub member_key : Key
member_key = record { values = value.Text (codes "r1") ∷ value.Uuid 161 ∷ [] }

-- the user 161 becomes a member of the room r1
abbrev pub put_member : Change
put_member =
    record {
      table = 1;
      verb = Insert;
      has_key = true;
      size = 300;
      moment = None;
      new = Some (value.Text (codes "r1")) ∷ Some (value.Uuid 161) ∷ [];
      old = None ∷ None ∷ [];
      new_trees = [];
      old_trees = [];
      edit = Put None member_key (Some (value.Text (codes "r1")) ∷ Some (value.Uuid 161) ∷ []);
    }

-- a join that is private or not
abbrev pub join_as : List ℕ → List ℕ
join_as private =
    join_of (codes "realtime:r1") (codes "{\"private\":" ++ private ++ codes ",\"presence\":{\"enabled\":false}}")
    (codes "\"1\"")

abbrev pub join : List ℕ
join = join_as (codes "true")

abbrev pub open_join : List ℕ
open_join = join_as (codes "false")

abbrev pub broadcast : List ℕ
broadcast = codes "{\"type\":\"broadcast\",\"event\":\"e\",\"payload\":{}}"

abbrev pub send : List ℕ
send =
    said (codes "realtime:r1") (codes "broadcast") broadcast (codes "\"2\"")

-- a post of the same user, on a slot that isn't open
abbrev pub posting : Posting
posting = record { topic = codes "r1"; event = codes "e"; payload = Object [] }

abbrev pub post : Input
post = Post 1 (user 161) (posting ∷ [])

-- the user 161 on slot 0; and then in the room; the newest first
abbrev pub opened : List Input
opened = Opened 0 V1 (user 161) ∷ []

abbrev pub listed : List Input
listed = Poll (put_member ∷ []) ∷ opened

abbrev pub told_why : List ℕ → List ℕ → Item
told_why reason ref = refused (codes "realtime:r1") reason ref

-- who isn't a member may not join
abbrev pub StrangersAreRefused : Type 0
StrangersAreRefused =
    due rooms settings (Frame 0 join ∷ opened) 0 ≡ told_why (codes "private: none permits") (codes "\"1\"") ∷ []

-- a member may
abbrev pub MembersJoin : Type 0
MembersJoin = due rooms settings (Frame 0 join ∷ listed) 0 ≡ joined_with (codes "realtime:r1") [] ∷ []

-- where there is a messages table every channel is private
abbrev pub OpenJoinsAreRefused : Type 0
OpenJoinsAreRefused =
    due rooms settings (Frame 0 open_join ∷ listed) 0 ≡ told_why (codes "private channel") (codes "\"1\"") ∷ []

-- who may read alone joins, and may not send
abbrev pub ReadersDontSend : Type 0
ReadersDontSend =
    due read_rooms settings (Frame 0 send ∷ Frame 0 join ∷ listed) 0 ≡
    joined_with (codes "realtime:r1") [] ∷ told_why (codes "private: none permits") (codes "\"2\"") ∷ []

-- what the channel gets of the post
abbrev pub given_of_post : Catalog → List Item
given_of_post c = items_for 0 (answers c settings (Frame 0 join ∷ listed) post)

-- a member's post is heard, and not that of one who may read alone
abbrev pub MembersPost : Type 0
MembersPost =
    given_of_post rooms ≡ Message (said (codes "realtime:r1") (codes "broadcast") broadcast (codes "null")) ∷ []

abbrev pub ReadersDontPost : Type 0
ReadersDontPost = given_of_post read_rooms ≡ []
