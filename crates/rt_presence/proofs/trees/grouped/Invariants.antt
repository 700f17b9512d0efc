use Rattle.std.proofs.Common.{◌≡◌, [], length}
use Rattle.rt_presence.specs.Trees.{all_added}
use Rattle.rt_presence.proofs.trees.grouped.Given as goal

-- what is left, added to the groups, is all
abbrev pub invariant-loop-key : goal.invariant-loop-key
invariant-loop-key l = all_added l.held.items l.groups.entries ≡ all_added l.fn.held.items []

abbrev pub decreases-loop-key : goal.decreases-loop-key
decreases-loop-key l = length l.held.items
