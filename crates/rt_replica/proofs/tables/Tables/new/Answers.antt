use Rattle.std.proofs.Common.{sym, subst}
use Rattle.rt_replica.specs.Changed.{IsCounted}
use Rattle.rt_replica.proofs.Changed.{counted_empty}
use Rattle.rt_replica.proofs.tables.Tables.new.Goals as goal

pub invariant_of-result : goal.invariant_of-result
invariant_of-result c = subst (λ l. IsCounted l 0) (sym c.in_ok-empty.ensures) (counted_empty c.args.tables)
