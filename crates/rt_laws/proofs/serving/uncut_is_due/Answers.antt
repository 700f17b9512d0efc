use Rattle.rt_laws.proofs.Given.{shown_uncut}
use Rattle.rt_laws.proofs.serving.uncut_is_due.Goals as goal

pub returns : goal.returns
returns c = shown_uncut
