-- Computed.
use Rattle.std.proofs.Common.{refl}
use Rattle.rt_examples.specs.Computes.{computes}
use Rattle.rt_examples.specs.Filters.{BothFiltersPass, NineAreTooMany, EmptyIsBad}

pub both_filters_pass_holds : BothFiltersPass
unfolding computes
both_filters_pass_holds = refl

pub nine_are_too_many_holds : NineAreTooMany
unfolding computes
nine_are_too_many_holds = refl

pub empty_is_bad_holds : EmptyIsBad
unfolding computes
empty_is_bad_holds = refl
