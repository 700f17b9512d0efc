use Rattle.std.proofs.Common.{◌≡◌, ◌≤◌, ℕ, ◌++◌}
use Rattle.std.specs.List.{flat_map}
use Rattle.rt_value.proofs.Plain.{AllOf}
use Rattle.rt_cluster.specs.declared.dots.Dot.{Dot}
use Rattle.rt_cluster.specs.Ranges.{range_dots}
use Rattle.rt_cluster.proofs.ranges.dots_in.Given as goal

abbrev pub invariant-loop-last : goal.invariant-loop-last
invariant-loop-last l = record {
  so_far : l.dots.items ++ flat_map range_dots l.last-iterator ≡ flat_map range_dots l.ranges;
  filled : AllOf (λ (e : Dot × ℕ). e.1 ≤ e.0.number) l.last-iterator;
}
