use Rattle.std.proofs.Common.{◌≡◌, ◌++◌, ℕ, List, map, reverse, length}
use Rattle.rt_json.specs.declared.tree.Json.{Json}
use Rattle.rt_presence.specs.Trees.{metas_member}
use Rattle.rt_presence.proofs.trees.group_members.Given as goal

-- the members so far, and those of the groups that are left
abbrev pub invariant-loop-key : goal.invariant-loop-key
invariant-loop-key l =
    l.members.items ++ map (λ (g : List ℕ × List Json). metas_member g.0 (reverse g.1)) l.groups.entries
    ≡ map (λ (g : List ℕ × List Json). metas_member g.0 (reverse g.1)) l.fn.groups.entries

abbrev pub decreases-loop-key : goal.decreases-loop-key
decreases-loop-key l = length l.groups.entries
