use Rattle.std.proofs.Common.{◌≡◌}
use Rattle.rt_fifo_cases.proofs.threads.send.Given as goal

abbrev pub invariant-loop-turn : goal.invariant-loop-turn
invariant-loop-turn g l = l.tx.queue ≡ l.fn.tx.queue
