use Rattle.rt_sql.specs.Lexeme.{lexemes}
use Rattle.rt_policy.proofs.One.{element_goes}
use Rattle.rt_lexeme.proofs.Tokens.{lexeme_there}
use Rattle.rt_tree.proofs.Halts.{ran_err}
use Rattle.rt_tree.proofs.building.run.Goals as goal

pub returns-in-Err : goal.returns-in-Err
returns-in-Err c =
    ran_err (lexemes c.args.text.now c.args.tokens.now) c.loop-n.n c.loop-n.state _ c.in-Err.halt
    (lexeme_there c.args.text.now c.args.tokens.now c.loop-n.n _ c.loop-n-test.true) c.loop-n.invariant c.in-Err.ensures

pub loop-n-preserved : goal.loop-n-preserved
loop-n-preserved c =
    element_goes (lexemes c.args.text.now c.args.tokens.now) c.loop-n.n c.loop-n.state c.in-Ok.after _
    (lexeme_there c.args.text.now c.args.tokens.now c.loop-n.n _ c.loop-n-test.true) c.loop-n.invariant c.in-Ok.ensures
