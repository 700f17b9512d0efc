use Rattle.std.proofs.Common.{◌≡◌, true, false, Option, Some, None, option_map, refl}
use Rattle.rt_value.proofs.Tests.{none_mapped}
use Rattle.rt_token.proofs.claims.uuid_in.Goals as goal

pub returns-in-Err : goal.returns-in-Err
returns-in-Err c = none_mapped _ _ (λ p. c.in-Err.ensures.ok.1 p)
