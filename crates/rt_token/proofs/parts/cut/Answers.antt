use Rattle.std.proofs.Common.{◌+◌}
use Rattle.rt_token.proofs.Pieces.{rest_is, too_many, are_parts, are_signed}
use Rattle.rt_token.proofs.parts.cut.Goals as goal

pub returns-in-Some : goal.returns-in-Some
returns-in-Some c =
    too_many c.args.token.now _ _ _ _ c.in_ok-first.ensures (rest_is c.args.token.now (c.in_ok-first.first + 1)) c.in_ok-second.ensures (rest_is _ (c.in_ok-second.second + 1)) c.in-Some.field-0 c.in-Some.ensures

pub returns-in-None : goal.returns-in-None
returns-in-None c = (
  are_parts c.args.token.now _ _ _ _ c.in_ok-first.ensures (rest_is c.args.token.now (c.in_ok-first.first + 1)) c.in_ok-second.ensures (rest_is _ (c.in_ok-second.second + 1)) c.in-None.ensures,
  are_signed c.args.token.now _ _ _ _ c.in_ok-first.ensures (rest_is c.args.token.now (c.in_ok-first.first + 1)) c.in_ok-second.ensures (rest_is _ (c.in_ok-second.second + 1)),
)
