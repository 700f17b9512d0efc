-- How a client reads the trees of presence messages (the Realtime protocol, "Presence"): it holds the metas of a state,
-- then from each difference its joins are added and its leaves removed by `phx_ref`.
use Rattle.std.specs.Prelude.{ℕ, not, Bool, List, [], ◌++◌, map, filter, codes, unwrap_or}
use Rattle.std.specs.List.{flat_map, list_any}
use Rattle.std.specs.Str.{bytes_eq}
use Rattle.rt_value.specs.Choice.{◌>>=◌}
use Rattle.rt_json.specs.declared.tree.Json.{Json}
use Rattle.rt_json.specs.declared.tree.Json.TheVariants as j
use Rattle.rt_json.specs.declared.tree.named.Member.{Member}
use Rattle.rt_json.specs.Lookup.{member_of, members_of}
use Rattle.rt_json.specs.Trees.{text_of, list_of}
use Rattle.rt_presence.specs.Trees.{Held}

abbrev pub metas_under : Member → List Held
metas_under m = map (λ meta. (m.name, meta)) (unwrap_or (member_of m.value (codes "metas") >>= list_of) [])

abbrev pub metas_in : Json → List Held
metas_in tree = flat_map metas_under (members_of tree)

abbrev pub reference_of : Held → List ℕ
reference_of h = unwrap_or (member_of h.1 (codes "phx_ref") >>= text_of) []

abbrev pub part_of : List ℕ → Json → List Held
part_of name tree = metas_in (unwrap_or (member_of tree name) (j.Object []))

abbrev pub is_among : List Held → Held → Bool
is_among held h = list_any (λ g. bytes_eq (reference_of g) (reference_of h)) held

abbrev pub after_difference : List Held → Json → List Held
after_difference held tree = filter (λ h. not (is_among (part_of (codes "leaves") tree) h))
    (held ++ part_of (codes "joins") tree)
