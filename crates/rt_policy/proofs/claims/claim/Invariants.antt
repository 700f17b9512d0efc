use Rattle.std.proofs.Common.{◌≡◌, drop}
use Rattle.rt_policy.specs.Worth.{claim_of}
use Rattle.rt_policy.proofs.claims.claim.Given as goal

abbrev pub invariant-loop-member : goal.invariant-loop-member
invariant-loop-member l = claim_of (drop l.member-index l.members) l.name ≡ claim_of l.members l.name
