use Rattle.std.proofs.Common.{◌≡◌, [], take, drop}
use Rattle.rt_token.specs.Parts.{pieces_from}
use Rattle.rt_token.proofs.parts.first_dot.Given as goal

-- no dot so far
abbrev pub invariant-loop-at : goal.invariant-loop-at
invariant-loop-at l = pieces_from [] l.bytes ≡ pieces_from (take l.at l.bytes) (drop l.at l.bytes)
