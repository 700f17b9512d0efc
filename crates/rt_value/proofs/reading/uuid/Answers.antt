use Rattle.rt_value.proofs.Tests.{none_mapped}
use Rattle.rt_value.proofs.reading.uuid.Goals as goal

pub returns-in-Err : goal.returns-in-Err
returns-in-Err c = none_mapped _ _ (λ p. c.in-Err.ensures.ok.1 p)
