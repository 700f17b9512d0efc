use Rattle.std.proofs.Common.{◌-◌, length}
use Rattle.rt_sql.proofs.Extends.{IsCutTo}
use Rattle.rt_sql.proofs.scan.byte_tokens.Given as goal

abbrev pub invariant-loop-at : goal.invariant-loop-at
invariant-loop-at l = IsCutTo l.text l.tokens.items l.at

abbrev pub decreases-loop-at : goal.decreases-loop-at
decreases-loop-at l = length l.text - l.at
