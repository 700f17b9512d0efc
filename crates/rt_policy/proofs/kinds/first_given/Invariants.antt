use Rattle.std.proofs.Common.{◌≡◌, drop}
use Rattle.rt_policy.specs.Resolution.{first_given}
use Rattle.rt_policy.proofs.kinds.first_given.Given as goal

abbrev pub invariant-loop-part : goal.invariant-loop-part
invariant-loop-part l = first_given (drop l.part-index l.parts) ≡ first_given l.parts
