use Rattle.std.proofs.Common.{◌≡◌, ◌++◌, map}
use Rattle.rt_cluster.specs.Index.{mark_of}
use Rattle.rt_cluster.proofs.walks.marks_in.Given as goal

-- the marks so far, and those that are left, are all
abbrev pub invariant-loop-place : goal.invariant-loop-place
invariant-loop-place l = l.out.items ++ map mark_of l.place-iterator ≡ map mark_of l.marks
