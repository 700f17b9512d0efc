use Rattle.rt_examples.proofs.CutsComputed.{cut_is_given_holds, cut_is_shown_holds}
use Rattle.rt_examples.proofs.cut.Goals as goal

pub returns : goal.returns
returns c = record { given = cut_is_given_holds; shown = cut_is_shown_holds }
