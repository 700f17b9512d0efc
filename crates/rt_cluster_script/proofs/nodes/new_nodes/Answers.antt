use Rattle.std.proofs.Common.{◌≡◌, [], ◌+◌, length, sym, ap, ◌∙◌, subst, arith}
use Rattle.std.proofs.lemmas.List.{length_push}
use Rattle.rt_cluster_script.specs.Agreeing.{AllFit}
use Rattle.rt_cluster_script.proofs.Beginning.{Nobody, one_more}
use Rattle.rt_cluster_script.proofs.nodes.new_nodes.Goals as goal

pub loop-node-init : goal.loop-node-init
loop-node-init c =
    let none = c.new-replicas.ensures.items in
    (subst (λ rs. AllFit [] 0 rs (Nobody 0)) (sym none) tt, ap length none)

pub loop-node-preserved : goal.loop-node-preserved
loop-node-preserved c =
    let more = c.in_ok-push.ensures.items in
    let before = c.loop-node.invariant in (
      subst (λ rs. AllFit [] 0 rs (Nobody (c.loop-node.node + 1))) (sym more)
          (one_more c.loop-node.node c.loop-node.replicas.items c.new.result before.0 before.1 c.new.ensures.node
          c.new.ensures.stands),
      ap length more ∙ length_push c.loop-node.replicas.items c.new.result ∙ ap (λ n. n + 1) before.1,
    )

pub returns : goal.returns
returns c =
    let past = c.loop-node-test.false in
    let within = c.loop-node.auto.node-end in
    let same : c.loop-node.node ≡ c.args.count = omega (arith, past, within) in
    subst (λ n. AllFit [] 0 c.loop-node.replicas.items (Nobody n)) same c.loop-node.invariant.0
