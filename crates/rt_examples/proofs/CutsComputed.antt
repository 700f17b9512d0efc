-- Computed.
use Rattle.std.proofs.Common.{refl}
use Rattle.rt_examples.specs.Computes.{computes}
use Rattle.rt_examples.specs.Cuts.{CutIsGiven, CutIsShown}

pub cut_is_given_holds : CutIsGiven
unfolding computes
cut_is_given_holds = refl

pub cut_is_shown_holds : CutIsShown
unfolding computes
cut_is_shown_holds = refl
