use Rattle.rt_examples.proofs.ErrorsComputed.{errors_are_sent_holds, hidden_key_is_an_error_holds}
use Rattle.rt_examples.proofs.errors.Goals as goal

pub returns : goal.returns
returns c = record { sent = errors_are_sent_holds; hidden_key = hidden_key_is_an_error_holds }
