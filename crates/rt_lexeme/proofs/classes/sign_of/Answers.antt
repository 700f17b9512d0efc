use Rattle.std.proofs.Common.{refl, ◌∙◌}
use Rattle.rt_policy.specs.Words.{signs}
use Rattle.rt_lexeme.proofs.Among.{sign_found}
use Rattle.rt_lexeme.proofs.classes.sign_of.Goals as goal

pub returns : goal.returns
returns c = c.sign_among.ensures ∙ sign_found c.args.bytes.now signs

pub slice_bounds-sign_among-end : goal.slice_bounds-sign_among-end
slice_bounds-sign_among-end c = refl
