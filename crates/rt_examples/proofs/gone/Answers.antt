use Rattle.rt_examples.proofs.GoneComputed.{row_is_gone_holds, both_are_delivered_holds}
use Rattle.rt_examples.proofs.gone.Goals as goal

pub returns : goal.returns
returns c = record { secured = row_is_gone_holds; open_table = both_are_delivered_holds }
