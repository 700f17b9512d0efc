use Rattle.std.proofs.Common.{◌≡◌, false, is_some, sym, ◌∙◌, arith}
use Rattle.std.proofs.lemmas.Grind.{common_steps}
use Rattle.rt_ptree.specs.Entries.{value_at}
use Rattle.rt_ptree.proofs.Middle.{without_key-absent}
use Rattle.rt_ptree.proofs.tree.Tree.remove.Goals as goal

pub returns-in-None-clause-ok : goal.returns-in-None-clause-ok
returns-in-None-clause-ok g c =
    let absent : is_some (value_at g.K.Ord.cmp c.args.self.now c.args.key.now) ≡ false = grind (arith, common_steps) in
    c.in-Err.ensures.err ∙ sym (without_key-absent g.K.Ord.cmp c.args.key.now c.args.self.now absent)
