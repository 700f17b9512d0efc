use Rattle.std.proofs.Common.{◌≡◌}
use Rattle.rt_fifo_cases.proofs.threads.receive.Given as goal

abbrev pub invariant-loop-turn : goal.invariant-loop-turn
invariant-loop-turn g l = l.rx.queue ≡ l.fn.rx.queue
