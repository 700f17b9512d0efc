-- What a client of a topic holds (the Realtime protocol, "Presence"), call by call.
use Rattle.std.specs.Prelude.{ℕ, ◌<◌, ◌^◌, ⊤, List, [], ◌∷◌, ◌++◌, map, option_map, option_to_list, IsPermutation}
use Rattle.std.specs.Prelude.{if◌then◌else◌}
use Rattle.std.specs.List.{AllByRecursion}
use Rattle.std.specs.Str.{bytes_eq}
use Rattle.rt_presence.specs.declared.differences.Diff.{Diff}
use Rattle.rt_presence.specs.Tracks.{Tracked, track_of, joining, leaving}
use Rattle.rt_presence.specs.Trees.{Held, held_of, on_topic, state_tree, difference_tree}
use Rattle.rt_presence.specs.Reading.{metas_in, after_difference}
use Rattle.rt_presence.specs.Calls.{Call, tracks, ends, after_calls}

-- the differences that a call answers on the topic
abbrev pub answered : List ℕ → Call → List Tracked → List Diff
answered topic (tracks t tree) before =
    if bytes_eq t.topic topic then joining (t, tree) (track_of before t.topic t.channel) ∷ [] else []
answered topic (ends on by) before =
    if bytes_eq on topic then option_to_list (option_map leaving (track_of before on by)) else []

-- what a client holds that was told the state of a topic after `before`, and then the differences of later calls; the
-- last call stands first
abbrev pub view_by_calls : List ℕ → List Call → List Call → List Held
view_by_calls topic before [] = metas_in (state_tree (after_calls before) topic)
view_by_calls topic before (c ∷ later) =
    after_difference (view_by_calls topic before later)
    (difference_tree (answered topic c (after_calls (later ++ before))))

-- its number is above that of a call
abbrev pub IsAfter : ℕ → Call → Type 0
IsAfter n (tracks t tree) = t.reference < n
IsAfter n (ends on by) = ⊤

-- numbers rise from call to call, as those of inputs do
abbrev pub AreNumbered : List Call → Type 0
AreNumbered [] = ⊤
AreNumbered (tracks t tree ∷ before) = (t.reference < 2 ^ 64) × AllByRecursion (IsAfter t.reference) before
    × AreNumbered before
AreNumbered (ends on by ∷ before) = AreNumbered before

-- the client holds the metas of those present, up to order
abbrev pub CallClientsAgree : Type 0
CallClientsAgree =
    (topic : List ℕ) (before later : List Call) → AreNumbered (later ++ before)
    → IsPermutation (view_by_calls topic before later) (map held_of (on_topic topic (after_calls (later ++ before))))
