use Rattle.rt_examples.proofs.RenewalComputed.{token_is_signed_holds, renewal_is_followed_holds}
use Rattle.rt_examples.proofs.renewal.Goals as goal

pub returns : goal.returns
returns c = record { signed = token_is_signed_holds; followed = renewal_is_followed_holds }
