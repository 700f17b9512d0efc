use Rattle.std.proofs.Common.{◌≡◌, ℕ, List, map, ap, subst, ◌∙◌, IfOk}
use Rattle.std.specs.Ordering.{nat_cmp}
use Rattle.std.specs.Cmp.Lexicographic.{slice_cmp}
use Rattle.rt_value.specs.Ordered.{in_order}
use Rattle.rt_value.proofs.Plain.{map_map}
use Rattle.rt_json.specs.declared.tree.Json.{Json}
use Rattle.rt_json.specs.declared.tree.Json.TheVariants as j
use Rattle.rt_json.specs.declared.tree.named.Member.{Member}
use Rattle.rt_presence.specs.Trees.{Held, groups_tree, metas_member, metas_tree, under_key, held_of, on_topic}
use Rattle.rt_presence.proofs.present.Presence.state.Goals as goal

pub returns : goal.returns
returns c =
    let held : List Held = map held_of (on_topic c.args.topic.now c.args.self.now) in
    let same : groups_tree c.in_ok-groups_on.field-0.items ≡ metas_tree held =
    ap groups_tree c.in_ok-groups_on.ensures
    ∙ ap (λ (ms : List Member). j.Object ms)
    (map_map (λ (g : List ℕ × List Json). metas_member g.0 g.1) (λ (key : List ℕ). (key, under_key held key))
    (in_order (slice_cmp nat_cmp) (map (λ (h : Held). h.0) held))) in
    subst (λ (tree : Json). IfOk c.groups_tree.result (λ t. t ≡ tree)) same c.groups_tree.ensures
