use Rattle.rt_phx.proofs.Reading.{object_result}
use Rattle.rt_phx.proofs.decoding.message_of_object.Goals as goal

pub returns-in-Object : goal.returns-in-Object
returns-in-Object c = object_result _ _ _ _ _ c.in-Object.is c.into_inner.ensures c.among.ensures c.message.ensures
