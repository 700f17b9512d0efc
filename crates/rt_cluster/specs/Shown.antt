-- What is shown of marks on a topic (the Realtime protocol, "Presence").
use Rattle.std.specs.Prelude.{ℕ, ◌++◌, List, map, filter, codes}
use Rattle.std.specs.declared.cmp.Ordering.{Ordering}
use Rattle.std.specs.Ordering.{nat_cmp, ordering_then}
use Rattle.std.specs.Cmp.Lexicographic.{slice_cmp}
use Rattle.std.specs.Fmt.{decimal}
use Rattle.std.specs.Str.{bytes_eq}
use Rattle.rt_value.specs.Ordered.{in_order}
use Rattle.rt_json.specs.declared.tree.Json.{Json}
use Rattle.rt_presence.specs.Trees.{Held, meta_with, metas_tree}
use Rattle.rt_cluster.specs.declared.dots.Dot.{Dot}
use Rattle.rt_cluster.specs.declared.dots.Mark.{Mark}
use Rattle.rt_cluster.specs.Operations.{Operation, view}

-- marks are in order by topic and key in byte order, by node and by number
abbrev pub mark_cmp : Mark → Mark → Ordering
mark_cmp m n =
    ordering_then (slice_cmp nat_cmp m.topic n.topic) (ordering_then (slice_cmp nat_cmp m.key n.key)
    (ordering_then (nat_cmp m.dot.node n.dot.node) (nat_cmp m.dot.number n.dot.number)))

-- the node and the number, as in `2.17`
abbrev pub reference_of : Dot → List ℕ
reference_of d = decimal d.node ++ codes "." ++ decimal d.number

abbrev pub meta_of : Mark → Json
meta_of m = meta_with (reference_of m.dot) m.tree

abbrev pub held_of : Mark → Held
held_of m = (m.key, meta_of m)

abbrev pub on_topic : List ℕ → List Mark → List Mark
on_topic topic marks = filter (λ m. bytes_eq m.topic topic) marks

-- the state of a topic: as the marks are in order, the metas of a key are in order by node and number
abbrev pub state_tree : List Mark → List ℕ → Json
state_tree marks topic = metas_tree (map held_of (on_topic topic marks))

-- what a node that knows the operations shows
abbrev pub presence : List Operation → List ℕ → Json
presence operations topic = state_tree (in_order mark_cmp (view operations)) topic
