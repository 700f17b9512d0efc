use Rattle.std.proofs.Common.{◌≡◌, [], length}
use Rattle.rt_cluster_script.specs.Agreeing.{AllFit}
use Rattle.rt_cluster_script.proofs.Beginning.{Nobody}
use Rattle.rt_cluster_script.proofs.nodes.new_nodes.Given as goal

abbrev pub invariant-loop-node : goal.invariant-loop-node
invariant-loop-node l = AllFit [] 0 l.replicas.items (Nobody l.node) × (length l.replicas.items ≡ l.node)
