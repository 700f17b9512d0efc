use Rattle.rt_laws.proofs.Audited.{audit_decides, polls_are_changes}
use Rattle.rt_laws.proofs.access.audit_decides.Goals as goal

pub returns : goal.returns
returns c = record { decides = audit_decides; whole = polls_are_changes }
