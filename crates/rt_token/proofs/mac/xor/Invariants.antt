use Rattle.std.proofs.Common.{◌≡◌, ◌++◌, map, take, drop, bit_xor}
use Rattle.rt_token.proofs.mac.xor.Given as goal

-- the bytes so far are changed, and the others are left
abbrev pub invariant-loop-byte : goal.invariant-loop-byte
invariant-loop-byte l = l.byte-items ≡ map (λ b. bit_xor b l.pad) (take l.byte-index l.fn.block) ++ drop l.byte-index l.fn.block
