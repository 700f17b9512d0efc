use Rattle.rt_policy.proofs.Exclusive.{one_end, one_fault, not_both, has_answer}
use Rattle.rt_policy.proofs.laws.one_answer.Goals as goal

pub returns : goal.returns
returns c = record { one = one_end; fault = one_fault; either = not_both; some = has_answer }
