use Rattle.rt_laws.proofs.PrivateDenied.{denials_are_reasons, reasons_are_denials}
use Rattle.rt_laws.proofs.private.denials_are_answers.Goals as goal

pub returns : goal.returns
returns c = record { reasons = denials_are_reasons; denials = reasons_are_denials }
