use Rattle.rt_cluster_script.proofs.Reaching.{HasReached}
use Rattle.rt_cluster_script.proofs.running.run.Given as goal

abbrev pub invariant-loop-number : goal.invariant-loop-number
invariant-loop-number l = HasReached l.fn.text l.rest l.number l.nodes
