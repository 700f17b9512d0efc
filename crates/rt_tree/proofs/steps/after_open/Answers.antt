use Rattle.std.proofs.Common.{sym, ◌∙◌}
use Rattle.rt_lexeme.specs.Look.{lexeme_in}
use Rattle.rt_tree.proofs.Opens.{opens_group}
use Rattle.rt_tree.proofs.steps.after_open.Goals as goal

pub returns-in_ok-stack : goal.returns-in_ok-stack
returns-in_ok-stack c =
    opens_group c.args.around.stack c.args.around.level c.args.slot c.args.look.class
    (lexeme_in c.args.text.now c.args.look) c.want.result c.in_ok-stack.stack c.fresh.result
    (sym c.is_select.ensures ∙ c.if-is_select.false) c.in_ok-stack.ensures c.fresh.ensures c.want.ensures
