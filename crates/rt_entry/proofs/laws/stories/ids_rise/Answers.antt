use Rattle.rt_entry.proofs.Ids.{ids_rise, told_ids_rise}
use Rattle.rt_entry.proofs.laws.stories.ids_rise.Goals as goal

pub returns : goal.returns
returns c = record { standing = ids_rise; told = told_ids_rise }
