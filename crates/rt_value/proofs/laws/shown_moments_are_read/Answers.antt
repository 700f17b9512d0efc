use Rattle.rt_value.proofs.ShownAgain.{moments_again}
use Rattle.rt_value.proofs.ShownAscii.{moments_utf8}
use Rattle.rt_value.proofs.laws.shown_moments_are_read.Goals as goal

pub returns-clause-same : goal.returns-clause-same
returns-clause-same c = moments_again

pub returns-clause-utf8 : goal.returns-clause-utf8
returns-clause-utf8 c = moments_utf8
