use Rattle.rt_ptree.proofs.Walk.{behind-moved, left-moved}
use Rattle.rt_ptree.proofs.tree.walk.ready.Goals as goal

pub returns-clause-same : goal.returns-clause-same
returns-clause-same g c =
    let behind = behind-moved c.args.leaves.now c.refilled-2.result.0.now c.args.branches.now c.refilled.result.0.now c.refilled-2.result.1.now c.args.limbs.now c.refilled.result.1.now c.refilled.ensures.same c.refilled-2.ensures.same in
    left-moved c.args.entries.now c.refilled-3.result.0.now c.args.leaves.now c.refilled-2.result.0.now c.refilled-3.result.1.now c.args.branches.now c.refilled-2.result.1.now c.args.limbs.now c.refilled.result.1.now behind c.refilled-3.ensures.same
