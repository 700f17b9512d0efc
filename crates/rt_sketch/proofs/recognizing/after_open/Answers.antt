use Rattle.std.proofs.Common.{sym, ◌∙◌}
use Rattle.rt_lexeme.specs.Look.{lexeme_in}
use Rattle.rt_sketch.proofs.Opens.{draws_group}
use Rattle.rt_sketch.proofs.recognizing.after_open.Goals as goal

pub returns-in_ok-fences : goal.returns-in_ok-fences
returns-in_ok-fences c =
    draws_group c.args.around c.around_of.result c.args.place c.args.look.class
    (lexeme_in c.args.text.now c.args.look) c.want.result c.in_ok-fences.fences
    (sym c.is_select.ensures ∙ c.if-is_select.false) c.in_ok-fences.ensures c.around_of.ensures c.want.ensures
