use Rattle.rt_value.proofs.OneMoreEdit.{elsewhere}
use Rattle.rt_value.proofs.laws.edit_of_another_table.Goals as goal

pub returns : goal.returns
returns c before table other edit key differ = elsewhere table other edit before key differ
