use Rattle.rt_examples.proofs.AuditsComputed.{first_run_is_audited_holds, renewal_is_audited_holds}
use Rattle.rt_examples.proofs.AuditsComputed.{filters_are_audited_holds, deletes_are_audited_holds}
use Rattle.rt_examples.proofs.AuditsComputed.{errors_are_audited_holds, hidden_key_is_audited_holds}
use Rattle.rt_examples.proofs.AuditsComputed.{identity_is_audited_holds, kept_row_is_audited_holds}
use Rattle.rt_examples.proofs.audits.Goals as goal

pub returns : goal.returns
returns c =
    record {
      first_run = first_run_is_audited_holds;
      renewal = renewal_is_audited_holds;
      filters = filters_are_audited_holds;
      deletes = deletes_are_audited_holds;
      errors = errors_are_audited_holds;
      hidden_key = hidden_key_is_audited_holds;
      identity = identity_is_audited_holds;
      kept = kept_row_is_audited_holds;
    }
