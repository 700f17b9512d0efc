-- Computed, down to the hash of the token.
use Rattle.std.proofs.Common.{refl}
use Rattle.rt_examples.specs.Computes.{computes, token_computes}
use Rattle.rt_examples.specs.Renewal.{TokenIsSigned, RenewalIsFollowed}

pub token_is_signed_holds : TokenIsSigned
unfolding token_computes
token_is_signed_holds = refl

pub renewal_is_followed_holds : RenewalIsFollowed
unfolding computes token_computes
renewal_is_followed_holds = refl
