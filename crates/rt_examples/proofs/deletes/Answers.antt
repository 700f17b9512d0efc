use Rattle.rt_examples.proofs.DeletesComputed.{deletes_show_the_key_holds}
use Rattle.rt_examples.proofs.deletes.Goals as goal

pub returns : goal.returns
returns c = deletes_show_the_key_holds
