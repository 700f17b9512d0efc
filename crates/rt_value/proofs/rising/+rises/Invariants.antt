use Rattle.std.proofs.Common.{length}
use Rattle.rt_value.proofs.rising.+rises.Given as goal

abbrev pub decreases-rises : goal.decreases-rises
decreases-rises l = length l.rows.now
