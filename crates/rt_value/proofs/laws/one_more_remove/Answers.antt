use Rattle.rt_value.proofs.OneMoreEdit.{removed, remove_others}
use Rattle.rt_value.proofs.laws.one_more_remove.Goals as goal

pub returns : goal.returns
returns c = record { gone = removed; others = remove_others }
