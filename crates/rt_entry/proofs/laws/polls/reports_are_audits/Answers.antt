use Rattle.rt_entry.proofs.Reports.{reports_audits}
use Rattle.rt_entry.proofs.laws.polls.reports_are_audits.Goals as goal

pub returns : goal.returns
returns c = reports_audits
