use Rattle.rt_value.specs.declared.edit.Edit.TheVariants.{Clear, Nothing}
use Rattle.rt_value.proofs.OneMoreEdit.{here}
use Rattle.rt_value.proofs.laws.one_more_clear.Goals as goal

pub returns : goal.returns
returns c = record { cleared = λ before table key. here table Clear before key; nothing = λ before table key. here table Nothing before key }
