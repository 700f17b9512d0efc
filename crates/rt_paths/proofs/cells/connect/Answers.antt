use Rattle.std.proofs.Common.{refl, ◌∙◌, ◌≤◌, arith}
use Rattle.rt_paths.specs.Square.{cell, is_step}
use Rattle.rt_paths.proofs.Middles.{through_alike}
use Rattle.rt_paths.proofs.cells.connect.Goals as goal

pub returns : goal.returns
returns c = λ t u h k.
    c.close.ensures t u h k
    ∙ through_alike (cell c.fill.new.cells c.args.count) (is_step c.args.steps.now) c.args.count c.fill.ensures c.args.count
    (omega arith) t u h k
