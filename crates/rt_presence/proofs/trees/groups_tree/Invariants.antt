use Rattle.std.proofs.Common.{◌≡◌, ◌++◌, ℕ, List, map}
use Rattle.std.specs.Vec.Iter.{into_iter_items}
use Rattle.rt_json.specs.declared.tree.Json.{Json}
use Rattle.rt_presence.specs.Trees.{metas_member}
use Rattle.rt_presence.proofs.trees.groups_tree.Given as goal

-- the members so far, and those of the groups that are left
abbrev pub invariant-loop-key : goal.invariant-loop-key
invariant-loop-key l =
    l.members.items ++ map (λ (g : List ℕ × List Json). metas_member g.0 g.1) (into_iter_items l.key-iterator)
    ≡ map (λ (g : List ℕ × List Json). metas_member g.0 g.1) l.fn.groups.items
