use Rattle.rt_paths.proofs.Places.{written}
use Rattle.rt_paths.proofs.cells.set.Goals as goal

pub returns : goal.returns
returns c = λ t u h k.
    written c.args.cells.now c.args.count c.args.from c.args.to t u c.requires.whole c.requires.row
    c.requires.column h k
