-- Computed.
use Rattle.std.proofs.Common.{refl}
use Rattle.rt_examples.specs.Computes.{computes}
use Rattle.rt_examples.specs.Errors.{ErrorsAreSent, HiddenKeyIsAnError}

pub errors_are_sent_holds : ErrorsAreSent
unfolding computes
errors_are_sent_holds = refl

pub hidden_key_is_an_error_holds : HiddenKeyIsAnError
unfolding computes
hidden_key_is_an_error_holds = refl
