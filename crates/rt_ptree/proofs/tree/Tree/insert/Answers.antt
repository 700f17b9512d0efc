use Rattle.std.proofs.Common.{sym, subst, Some}
use Rattle.std.specs.Arc.{arc_value}
use Rattle.rt_ptree.specs.Entries.{Updates}
use Rattle.rt_ptree.proofs.Updates.{Updates-insert}
use Rattle.rt_ptree.proofs.tree.Tree.insert.Goals as goal

pub returns-in-Ok-clause-updates : goal.returns-in-Ok-clause-updates
returns-in-Ok-clause-updates g c =
    let found = Updates-insert g.met.K.Ord.total (arc_value c.args.key) (arc_value c.args.value) c.args.self.now in
    subst (λ l. Updates g.K.Ord.cmp c.args.self.now l (arc_value c.args.key) (Some (arc_value c.args.value))) (sym c.in-Ok.ensures.ok) found
