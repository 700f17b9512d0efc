use Rattle.std.proofs.Common.{[], subst, sym}
use Rattle.rt_sketch.specs.Recognized.{Follows}
use Rattle.rt_sql.specs.Lexeme.{lexemes}
use Rattle.rt_lexeme.proofs.Tokens.{lexeme_there}
use Rattle.rt_sketch.proofs.Steps.{starts, halted_at, goes_on}
use Rattle.rt_sketch.proofs.measuring.recognized.Goals as goal

pub returns-in-Err : goal.returns-in-Err
returns-in-Err c =
    halted_at (lexemes c.args.text.now c.args.tokens.now) c.loop-n.n c.loop-n.sketch _ c.in-Err.halted
    (lexeme_there c.args.text.now c.args.tokens.now c.loop-n.n _ c.loop-n-test.true) c.loop-n.invariant c.in-Err.ensures

pub loop-n-preserved : goal.loop-n-preserved
loop-n-preserved c =
    goes_on (lexemes c.args.text.now c.args.tokens.now) c.loop-n.n c.loop-n.sketch c.in-Ok.after _
    (lexeme_there c.args.text.now c.args.tokens.now c.loop-n.n _ c.loop-n-test.true) c.loop-n.invariant c.in-Ok.ensures

pub loop-n-init : goal.loop-n-init
loop-n-init c = subst (Follows []) (sym c.sketch_start-sketch.ensures) starts
