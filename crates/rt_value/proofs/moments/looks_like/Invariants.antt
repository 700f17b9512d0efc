use Rattle.rt_value.proofs.Pictures.{IsLikeUpTo}
use Rattle.rt_value.proofs.moments.looks_like.Given as goal

abbrev pub invariant-loop-i : goal.invariant-loop-i
invariant-loop-i l = IsLikeUpTo l.picture l.text l.i
