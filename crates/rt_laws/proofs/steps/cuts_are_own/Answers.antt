use Rattle.rt_laws.proofs.Untouched.{cuts_are_own}
use Rattle.rt_laws.proofs.Within.{outboxes_within}
use Rattle.rt_laws.proofs.steps.cuts_are_own.Goals as goal

pub returns : goal.returns
returns c = record { own = cuts_are_own; within = outboxes_within }
