use Rattle.rt_laws.proofs.Untouched.{others_untouched}
use Rattle.rt_laws.proofs.steps.others_are_untouched.Goals as goal

pub returns : goal.returns
returns c = others_untouched
