use Rattle.std.proofs.Common.{◌≡◌}
use Rattle.rt_phx.specs.Parts.{parts_among}
use Rattle.rt_phx.proofs.parts.Parts.among.Given as goal

-- the parts are those of the members so far
abbrev pub invariant-loop-member : goal.invariant-loop-member
invariant-loop-member l = l.parts ≡ parts_among l.yielded
