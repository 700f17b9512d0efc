use Rattle.std.proofs.Common.{sym, ◌∙◌, subst, Option}
use Rattle.rt_policy.specs.declared.words.Class.{Class}
use Rattle.rt_policy.specs.Machine.{Gives}
use Rattle.rt_policy.specs.Machine as spec
use Rattle.rt_lexeme.specs.Look.{lexeme_in}
use Rattle.rt_tree.proofs.Plain.{want_plain}
use Rattle.rt_tree.proofs.steps.want.Goals as goal

pub returns-in-None : goal.returns-in-None
returns-in-None c =
    subst (λ (o : Option Class). Gives c.want_marked.result
    (spec.want c.args.around.stack c.args.around.level c.args.slot o (lexeme_in c.args.text.now c.args.look)))
    (sym c.in-None.is) (c.want_marked.ensures (lexeme_in c.args.text.now c.args.look))

pub returns-then-is_plain : goal.returns-then-is_plain
returns-then-is_plain c =
    want_plain c.args.around.stack c.args.around.level c.args.slot c.args.look.class c.in-Some.class
    (lexeme_in c.args.text.now c.args.look)
    c.want_plain.result c.in-Some.is (sym c.is_plain.ensures ∙ c.if-is_plain.true) c.want_plain.ensures
