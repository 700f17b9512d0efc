-- Computed but for what the policies are of the rows, which goes by their folds.
use Rattle.std.proofs.Common.{◌≡◌, ℕ, List, [], ◌∷◌, ◌++◌, ◌||◌, ◌&&◌, not, true, false, refl, ap, ◌∙◌, Bool}
use Rattle.std.specs.Prelude.{if◌then◌else◌, codes, pos}
use Rattle.std.specs.List.{flat_map}
use Rattle.rt_value.specs.declared.value.Value.TheVariants as value
use Rattle.rt_value.specs.declared.row.Row.{Row}
use Rattle.rt_value.specs.Tables.{rows_of_table}
use Rattle.rt_policy.specs.declared.caller.Seen.{Seen}
use Rattle.rt_policy.specs.declared.caller.Seen.TheVariants.{Yes, NoPolicy, NonePermits}
use Rattle.rt_policy.specs.Worth.{Who, View, truth}
use Rattle.rt_policy.specs.Truth.{is_true, truth_in}
use Rattle.rt_policy.specs.Visibility.{visibility, view_by, visibility_within, is_yes}
use Rattle.rt_change.specs.Verdicts.{verdict_of_seen}
use Rattle.rt_entry.specs.Audit.{Judged, audit, audit_line, audit_lines, judged_poll, judged_input}
use Rattle.rt_entry.specs.declared.input.Input.{Input}
use Rattle.rt_entry.specs.declared.input.Input.TheVariants.{Poll}
use Rattle.rt_entry.specs.declared.story.Member.{Member}
use Rattle.rt_entry.specs.Doings.{story, subscriptions}
use Rattle.rt_entry.specs.Story.{now_of, tables_left}
use Rattle.rt_examples.proofs.Polls.{members_after_poll}
use Rattle.rt_examples.specs.Computes.{computes}
use Rattle.rt_examples.specs.Notes.{settings}
use Rattle.rt_examples.specs.Policies.{is_shared, own_is, is_shared_is, owns}
use Rattle.rt_examples.specs.Faces.{lobby_id, room_key}
use Rattle.rt_examples.specs.Rooms.{MembersSeeRooms, RoomIsShown, rooms, room_rules, member_key, user, of_role}
use Rattle.rt_examples.specs.Rooms.{joined, made, left, gone}

abbrev who : ℕ → Who
who n = record { role = 1; bypass = false; claims = user n }

abbrev room : List ℕ → Row
room title =
    record {
      key = room_key;
      values =
          value.Uuid lobby_id ∷ value.Text title ∷ value.Opaque ∷ value.Moment (pos 1704067200000000) ∷ [];
    }

abbrev member : Row
member = record { key = member_key; values = value.Uuid lobby_id ∷ value.Uuid 161 ∷ [] }

-- the tables with the room, and the members' rows
abbrev rows : List ℕ → List Row → ℕ → List Row
rows title members = rows_of_table ((room title ∷ []) ∷ members ∷ [])

abbrev seen_if : Bool → Seen
seen_if b = if not (b || false) then NonePermits else Yes

view : ℕ → ℕ → (ℕ → List Row) → View
view fuel n tables = view_by tables (visibility_within fuel room_rules (who n) tables)

-- a caller sees its own memberships
seen_member : (n : ℕ) (tables : ℕ → List Row)
    → visibility_within 1 room_rules (who n) tables 1 member ≡ seen_if (owns (who n) member)
unfolding view
seen_member n tables = ap seen_if (own_is (who n) (view 0 n tables) member)

abbrev lobby : List ℕ
lobby = codes "Lobby"

abbrev hall : List ℕ
hall = codes "Hall"

-- how the room is seen
abbrev seen_by : Who → List ℕ → List Row → Seen
seen_by caller title members = visibility room_rules caller (rows title members) 0 (room title)

seen_room : (n : ℕ) (title : List ℕ) (members : List Row)
    → seen_by (who n) title members
    ≡ seen_if (is_true (truth (who n) (view 1 n (rows title members)) is_shared (room title)))
unfolding visibility view
seen_room n title members = refl

-- with its member's row, the room is seen where that row is
with_member : (n : ℕ) → seen_by (who n) lobby (member ∷ []) ≡ seen_if (is_yes (seen_if (owns (who n) member)))
unfolding view
with_member n =
    let tables = rows lobby (member ∷ []) in
    seen_room n lobby (member ∷ [])
    ∙ ap seen_if (is_shared_is (who n) (view 1 n tables) (room lobby))
    ∙ ap (λ s. seen_if (is_true (truth_in (value.Bool ((is_yes s && true) || false))))) (seen_member n tables)
    ∙ settled (owns (who n) member)
  where
    settled : (b : Bool)
        → seen_if (is_true (truth_in (value.Bool ((is_yes (seen_if b) && true) || false))))
        ≡ seen_if (is_yes (seen_if b))
    settled true = refl
    settled false = refl

-- without it nobody sees it by the policy
without_member : (n : ℕ) → seen_by (who n) hall [] ≡ NonePermits
unfolding view
without_member n =
    seen_room n hall [] ∙ ap seen_if (is_shared_is (who n) (view 1 n (rows hall [])) (room hall))

abbrev judged : ℕ → ℕ → ℕ → Seen → Judged
judged poll place sub s =
    record { poll = poll; place = place; table = 0; subscription = sub; verdict = verdict_of_seen s }

abbrev service : Who
service = record { role = 2; bypass = true; claims = of_role (codes "service_role") }

abbrev anon : Who
anon = record { role = 0; bypass = false; claims = of_role (codes "anon") }

abbrev seen_of : List ℕ → List Row → Seen × Seen × Seen × Seen
seen_of title members = (
  seen_by (who 161) title members,
  seen_by (who 162) title members,
  seen_by service title members,
  seen_by anon title members,
)

-- the service role and anon need no policy's truth
service_sees : (tables : ℕ → List Row) (row : Row) → visibility room_rules service tables 0 row ≡ Yes
unfolding visibility
service_sees tables row = refl

anon_has_no_policy : (tables : ℕ → List Row) (row : Row) → visibility room_rules anon tables 0 row ≡ NoPolicy
unfolding visibility
anon_has_no_policy tables row = refl

seen_in_lobby : seen_of lobby (member ∷ []) ≡ (Yes, NonePermits, Yes, NoPolicy)
seen_in_lobby =
    let tables = rows lobby (member ∷ []) in
    λ i. (
      with_member 161 i,
      with_member 162 i,
      service_sees tables (room lobby) i,
      anon_has_no_policy tables (room lobby) i,
    )

seen_in_hall : seen_of hall [] ≡ (NonePermits, NonePermits, Yes, NoPolicy)
seen_in_hall =
    let tables = rows hall [] in
    λ i. (
      without_member 161 i,
      without_member 162 i,
      service_sees tables (room hall) i,
      anon_has_no_policy tables (room hall) i,
    )

abbrev first_poll : Seen × Seen × Seen × Seen → List Judged
first_poll p = judged 8 1 1 p.0 ∷ judged 8 1 2 p.1 ∷ judged 8 1 3 p.2 ∷ judged 8 1 4 p.3 ∷ []

abbrev second_poll : Seen × Seen × Seen × Seen → List Judged
second_poll q = judged 9 1 1 q.0 ∷ judged 9 1 2 q.1 ∷ judged 9 1 3 q.2 ∷ judged 9 1 4 q.3 ∷ []

abbrev third_poll : List Judged
third_poll = judged 10 0 1 Yes ∷ judged 10 0 2 Yes ∷ judged 10 0 3 Yes ∷ judged 10 0 4 Yes ∷ []

first_judged : judged_input rooms settings joined (Poll made) ≡ first_poll (seen_of lobby (member ∷ []))
unfolding computes judged_poll
first_judged = refl

-- a later poll by the members that it finds
abbrev second_by : List Member → List Judged
second_by ms =
    judged_poll rooms 9 (tables_left rooms (story rooms settings (Poll made ∷ joined)) (Poll left)) (subscriptions ms)
    left

abbrev third_by : List Member → List Judged
third_by ms =
    let before : List Input = Poll left ∷ Poll made ∷ joined in
    judged_poll rooms 10 (tables_left rooms (story rooms settings before) (Poll gone)) (subscriptions ms) gone

abbrev members : List Input → List Member
members journal = (now_of (story rooms settings journal)).members

second_computed : second_by (members joined) ≡ second_poll (seen_of hall [])
unfolding computes judged_poll
second_computed = refl

third_computed : third_by (members joined) ≡ third_poll
unfolding computes judged_poll
third_computed = refl

abbrev in_first : List Judged
in_first = judged_input rooms settings joined (Poll made)

abbrev in_second : List Judged
in_second = judged_input rooms settings (Poll made ∷ joined) (Poll left)

abbrev in_third : List Judged
in_third = judged_input rooms settings (Poll left ∷ Poll made ∷ joined) (Poll gone)

second_judged : in_second ≡ second_poll (seen_of hall [])
second_judged = ap second_by (members_after_poll rooms settings joined made) ∙ second_computed

third_judged : in_third ≡ third_poll
third_judged =
    ap third_by (members_after_poll rooms settings (Poll made ∷ joined) left)
    ∙ ap third_by (members_after_poll rooms settings joined made) ∙ third_computed

abbrev lines : List Judged → List Judged → List Judged → List ℕ
lines a b c = flat_map (audit_line rooms) (((audit rooms settings joined ++ a) ++ b) ++ c)

in_three : audit_lines rooms settings (Poll gone ∷ Poll left ∷ Poll made ∷ joined) ≡ lines in_first in_second in_third
unfolding audit
in_three = refl

pub members_see_rooms_holds : MembersSeeRooms
unfolding computes audit
members_see_rooms_holds =
    let first : List Judged = first_poll (Yes, NonePermits, Yes, NoPolicy) in
    let second : List Judged = second_poll (NonePermits, NonePermits, Yes, NoPolicy) in
    in_three
    ∙ ap (λ a. lines a in_second in_third) (first_judged ∙ ap first_poll seen_in_lobby)
    ∙ ap (λ b. lines first b in_third) (second_judged ∙ ap second_poll seen_in_hall)
    ∙ ap (λ c. lines first second c) third_judged

pub room_is_shown_holds : RoomIsShown
unfolding computes
room_is_shown_holds = refl
