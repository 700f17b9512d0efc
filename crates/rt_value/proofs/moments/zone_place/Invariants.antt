use Rattle.rt_value.proofs.Pictures.{HasNoSignUpTo}
use Rattle.rt_value.proofs.moments.zone_place.Given as goal

abbrev pub invariant-loop-i : goal.invariant-loop-i
invariant-loop-i l = HasNoSignUpTo l.text l.i
