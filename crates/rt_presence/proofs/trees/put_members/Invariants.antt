use Rattle.std.proofs.Common.{◌≡◌, ◌++◌, filter, take}
use Rattle.rt_presence.specs.Trees.{is_kept}
use Rattle.rt_presence.proofs.trees.put_members.Given as goal

abbrev pub invariant-loop-member : goal.invariant-loop-member
invariant-loop-member l = l.out.items ≡ l.initial.out.items ++ filter is_kept (take l.member-index l.members)
