use Rattle.rt_examples.proofs.UpshotsComputed.{misspelled_is_told_holds, second_line_is_told_holds, texts_end_is_told_holds}
use Rattle.rt_examples.proofs.UpshotsComputed.{limit_is_told_holds, scripts_line_is_told_holds, streams_line_is_told_holds}
use Rattle.rt_examples.proofs.UpshotsComputed.{rows_are_told_holds, inputs_are_told_holds, usage_is_told_holds}
use Rattle.rt_examples.proofs.UpshotsComputed.{digest_is_shown_holds}
use Rattle.rt_examples.proofs.upshots.Goals as goal

pub returns : goal.returns
returns c =
    record {
      misspelled = misspelled_is_told_holds;
      second_line = second_line_is_told_holds;
      end = texts_end_is_told_holds;
      limit = limit_is_told_holds;
      script = scripts_line_is_told_holds;
      stream = streams_line_is_told_holds;
      rows = rows_are_told_holds;
      inputs = inputs_are_told_holds;
      usage = usage_is_told_holds;
      digest = digest_is_shown_holds;
    }
