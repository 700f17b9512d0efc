use Rattle.std.proofs.Common.{◌≡◌, ◌++◌, List}
use Rattle.std.specs.Prelude.{option_map}
use Rattle.std.specs.Vec.Iter.{into_iter_items}
use Rattle.rt_policy.specs.declared.judge.Judge.{Judge}
use Rattle.rt_policy.specs.Resolution.{all_as}
use Rattle.rt_policy.proofs.parts.all_as.Given as goal

-- the judges so far, with those of the parts that are left
abbrev pub invariant-loop-part : goal.invariant-loop-part
invariant-loop-part l = record {
  can : (goal.iterator-loop-part).can_next l.part-iterator;
  finite : (goal.iterator-loop-part).is_finite l.part-iterator;
  rest :
      option_map (λ (js : List Judge). l.judges.items ++ js) (all_as l.wanted (into_iter_items l.part-iterator))
      ≡ all_as l.wanted l.fn.parts.items;
}
