-- The lines of refusals, computed.
use Rattle.std.proofs.Common.{refl}
use Rattle.std.specs.Fmt.{digits}
use Rattle.rt_examples.specs.Computes.{token_computes}
use Rattle.rt_examples.specs.Upshots.{MisspelledIsTold, SecondLineIsTold, TextsEndIsTold, LimitIsTold}
use Rattle.rt_examples.specs.Upshots.{ScriptsLineIsTold, StreamsLineIsTold, RowsAreTold, InputsAreTold}
use Rattle.rt_examples.specs.Upshots.{UsageIsTold, DigestIsShown}

pub misspelled_is_told_holds : MisspelledIsTold
unfolding digits
misspelled_is_told_holds = refl

pub second_line_is_told_holds : SecondLineIsTold
unfolding digits
second_line_is_told_holds = refl

pub texts_end_is_told_holds : TextsEndIsTold
unfolding digits
texts_end_is_told_holds = refl

pub limit_is_told_holds : LimitIsTold
unfolding digits
limit_is_told_holds = refl

pub scripts_line_is_told_holds : ScriptsLineIsTold
unfolding digits
scripts_line_is_told_holds = refl

pub streams_line_is_told_holds : StreamsLineIsTold
unfolding digits
streams_line_is_told_holds = refl

pub rows_are_told_holds : RowsAreTold
unfolding digits
rows_are_told_holds = refl

pub inputs_are_told_holds : InputsAreTold
unfolding digits
inputs_are_told_holds = (refl, refl, refl)

pub usage_is_told_holds : UsageIsTold
usage_is_told_holds = refl

pub digest_is_shown_holds : DigestIsShown
unfolding digits token_computes
digest_is_shown_holds = refl
