use Rattle.rt_examples.proofs.StatementsComputed.{statements_mean_lists_holds, opaque_key_is_refused_holds}
use Rattle.rt_examples.proofs.StatementsComputed.{second_role_is_refused_holds, public_is_no_role_holds}
use Rattle.rt_examples.proofs.StatementsComputed.{unknown_column_is_refused_holds}
use Rattle.rt_examples.proofs.statements.Goals as goal

pub returns : goal.returns
returns c =
    record {
      lists = statements_mean_lists_holds;
      opaque_key = opaque_key_is_refused_holds;
      second_role = second_role_is_refused_holds;
      public_role = public_is_no_role_holds;
      unknown_column = unknown_column_is_refused_holds;
    }
