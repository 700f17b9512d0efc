-- The trees of presence messages (the Realtime protocol, "Presence").
use Rattle.std.specs.Prelude.{ℕ, not, List, [], ◌∷◌, ◌++◌, map, codes, Bool, cond, option_map, filter, unwrap_or}
use Rattle.std.specs.Fmt.{decimal}
use Rattle.std.specs.List.{filter_map}
use Rattle.std.specs.Str.{bytes_eq}
use Rattle.std.specs.Ordering.{nat_cmp}
use Rattle.std.specs.Cmp.Lexicographic.{slice_cmp}
use Rattle.std.specs.BTreeMap.{insert_entry, is_at}
use Rattle.std.specs.Map.{lookup, remove_entry}
use Rattle.rt_value.specs.Ordered.{in_order}
use Rattle.rt_json.specs.declared.tree.Json.{Json, Text}
use Rattle.rt_json.specs.declared.tree.Json.TheVariants as j
use Rattle.rt_json.specs.declared.tree.named.Member.{Member}
use Rattle.rt_json.specs.Lookup.{members_of}
use Rattle.rt_json.specs.Trees.{field}
use Rattle.rt_presence.specs.declared.differences.Meta.{Meta}
use Rattle.rt_presence.specs.declared.differences.Diff.{Diff}
use Rattle.rt_presence.specs.Tracks.{Tracked, meta_of}

-- a key, and a meta under it
abbrev pub Held : Type 0
Held = List ℕ × Json

-- any name but `phx_ref`
abbrev pub is_kept : Member → Bool
is_kept m = not (bytes_eq m.name (codes "phx_ref"))

-- the reference as `phx_ref`, then the tracked object's members but those of that name
abbrev pub meta_with : List ℕ → Json → Json
meta_with reference tree = j.Object (field (codes "phx_ref") (Text reference) ∷ filter is_kept (members_of tree))

-- with the track's number as reference
abbrev pub meta_object : ℕ → Json → Json
meta_object reference tree = meta_with (decimal reference) tree

abbrev pub meta_tree : Meta → Json
meta_tree m = meta_object m.reference m.tree

abbrev pub under_key : List Held → List ℕ → List Json
under_key held key = map (λ h. h.1) (filter (λ h. bytes_eq h.0 key) held)

abbrev pub metas_member : List ℕ → List Json → Member
metas_member key metas = field key (j.Object (field (codes "metas") (j.List metas) ∷ []))

abbrev pub metas_of : List Held → List ℕ → Member
metas_of held key = metas_member key (under_key held key)

-- the metas under each key, the keys in byte order, the metas of a key in the order of the list
abbrev pub metas_tree : List Held → Json
metas_tree held = j.Object (map (metas_of held) (in_order (slice_cmp nat_cmp) (map (λ h. h.0) held)))

-- who joined and who left, as one tree
abbrev pub joins_and_leaves : List Held → List Held → Json
joins_and_leaves joins leaves =
    j.Object (field (codes "joins") (metas_tree joins) ∷ field (codes "leaves") (metas_tree leaves) ∷ [])

abbrev pub held_of : Tracked → Held
held_of t = (t.0.key, meta_tree (meta_of t))

abbrev pub on_topic : List ℕ → List Tracked → List Tracked
on_topic topic tracks = filter (λ t. bytes_eq t.0.topic topic) tracks

-- what is present on a topic; as the tracks are in order, the metas of a key are in order of their numbers
abbrev pub state_tree : List Tracked → List ℕ → Json
state_tree tracks topic = metas_tree (map held_of (on_topic topic tracks))

abbrev pub under : List ℕ → Meta → Held
under key m = (key, meta_tree m)

abbrev pub joins_of : List Diff → List Held
joins_of ds = filter_map (λ d. option_map (under d.key) d.joined) ds

abbrev pub leaves_of : List Diff → List Held
leaves_of ds = filter_map (λ d. option_map (under d.key) d.left) ds

-- the differences as one tree
abbrev pub difference_tree : List Diff → Json
difference_tree ds = joins_and_leaves (joins_of ds) (leaves_of ds)

-- keys, each with metas under it
abbrev pub Groups : Type 0
Groups = List (List ℕ × List Json)

-- the keys in byte order, each with its metas
abbrev pub groups_of : List Held → Groups
groups_of held = map (λ key. (key, under_key held key)) (in_order (slice_cmp nat_cmp) (map (λ h. h.0) held))

abbrev pub groups_tree : Groups → Json
groups_tree groups = j.Object (map (λ g. metas_member g.0 g.1) groups)

-- one more behind the metas of the last key, where it is under that, and else under a key of its own
abbrev pub put_last : Held → Groups → Groups
put_last h [] = (h.0, h.1 ∷ []) ∷ []
put_last h (g ∷ []) = cond (bytes_eq g.0 h.0) ((g.0, g.1 ++ h.1 ∷ []) ∷ []) (g ∷ (h.0, h.1 ∷ []) ∷ [])
put_last h (g ∷ k ∷ gs) = g ∷ put_last h (k ∷ gs)

-- metas by their keys, the last first: one more in front
abbrev pub added : Held → Groups → Groups
added h groups =
    insert_entry (slice_cmp nat_cmp) (remove_entry (is_at (slice_cmp nat_cmp h.0)) groups) h.0
    (unwrap_or (lookup (is_at (slice_cmp nat_cmp h.0)) groups) [] ++ h.1 ∷ [])

abbrev pub all_added : List Held → Groups → Groups
all_added [] groups = groups
all_added (h ∷ hs) groups = added h (all_added hs groups)
