use Rattle.std.proofs.Common.{length}
use Rattle.rt_value.proofs.lent.+order_all.Given as goal

abbrev pub decreases-order_all : goal.decreases-order_all
decreases-order_all l = length l.lent.now
