use Rattle.std.proofs.Common.{sym, ◌∙◌}
use Rattle.rt_lexeme.proofs.Tokens.{any_here, any_later, any_none}
use Rattle.rt_lexeme.proofs.long.any_long.Goals as goal

pub returns-then-branch : goal.returns-then-branch
returns-then-branch c =
    any_here c.args.text.now c.args.tokens.now c.loop-token.token-index _ c.loop-token-test.true c.loop-token.invariant
    (sym c.in_ok-is_long.ensures ∙ c.if-branch.true)

pub loop-token-preserved : goal.loop-token-preserved
loop-token-preserved c =
    any_later c.args.text.now c.args.tokens.now c.loop-token.token-index _ c.loop-token-test.true c.loop-token.invariant
    (sym c.in_ok-is_long.ensures ∙ c.if-branch.false)

pub returns : goal.returns
returns c =
    any_none c.args.text.now c.args.tokens.now c.loop-token.token-index c.loop-token-test.false c.loop-token.invariant
