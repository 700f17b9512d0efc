use Rattle.std.proofs.Common.{◌≤◌, ◌<◌, length}
use Rattle.rt_json.proofs.Scalars.{WordLeads}
use Rattle.rt_json.proofs.scalar.word.Given as goal

abbrev pub invariant-loop-letter : goal.invariant-loop-letter
invariant-loop-letter l = record { from : l.at < l.to; within : l.to ≤ length l.bytes; leads : WordLeads l.bytes l.at l.to l.word l.letter-index }
