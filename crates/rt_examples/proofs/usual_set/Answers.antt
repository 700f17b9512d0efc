use Rattle.rt_examples.proofs.UsualSetComputed.{usual_set_is_read_holds, ring_is_refused_holds}
use Rattle.rt_examples.proofs.UsualSetComputed.{hidden_column_is_refused_holds, one_hides_nothing_holds}
use Rattle.rt_examples.proofs.usual_set.Goals as goal

pub returns : goal.returns
returns c =
    record {
      read = usual_set_is_read_holds;
      ring = ring_is_refused_holds;
      hidden = hidden_column_is_refused_holds;
      one = one_hides_nothing_holds;
    }
