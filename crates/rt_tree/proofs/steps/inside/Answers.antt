use Rattle.std.proofs.Common.{◌∙◌, sym, ap}
use Rattle.rt_policy.specs.Machine.{inside}
use Rattle.rt_tree.proofs.Inside.{inside_reversed}
use Rattle.rt_tree.proofs.steps.inside.Goals as goal

pub returns : goal.returns
returns c = c.any_where.ensures ∙ inside_reversed c.items.result.now ∙ ap inside (sym c.items.ensures)
