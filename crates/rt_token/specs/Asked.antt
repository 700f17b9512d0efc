-- The claims that a payload's `access_token` asks for.
use Rattle.std.specs.Prelude.{ℕ, ◌/◌, not, List, Option, Some, None, unwrap_or, Result, Ok, Err}
use Rattle.rt_value.specs.declared.claims.Claims.{Claims}
use Rattle.rt_json.specs.declared.tree.Json.{Json, Null, Bool as Truth, Num, Text, List', Object'}
use Rattle.rt_token.specs.declared.fault.TokenFault.{TokenFault}
use Rattle.rt_token.specs.declared.fault.TokenFault.TheVariants.{Shape, Expired}
use Rattle.rt_token.specs.Claims.{◌>>◌, ensure, is_expired}
use Rattle.rt_token.specs.Reasons.{HasReason, or_text, then_has_reason, true_has_reason, token_has_reason}
use Rattle.rt_token.specs.Tokens.{claims_in_token}

-- a moment in whole seconds
abbrev pub seconds_of : ℕ → ℕ
seconds_of moment = moment / 1000

-- claims that are there already are tested for expiry alone
abbrev pub unless_expired : ℕ → Claims → Result Claims TokenFault
unless_expired seconds claims = ensure (not (is_expired seconds claims.exp)) (Expired (unwrap_or claims.exp 0)) >> λ _. Ok claims

-- Absent or null these are the given claims, and a text is a token. Anything else has no token's shape.
abbrev pub claims_asked : List ℕ → ℕ → Claims → Option Json → Result Claims TokenFault
claims_asked secret seconds given None = unless_expired seconds given
claims_asked secret seconds given (Some Null) = unless_expired seconds given
claims_asked secret seconds given (Some (Text token)) = claims_in_token secret token seconds
claims_asked secret seconds given (Some tree) = Err Shape

-- claims that are asked for never end for want of memory
pub asked_has_reason : (secret : List ℕ) (seconds : ℕ) (given : Claims) (asked : Option Json)
    → HasReason (claims_asked secret seconds given asked)
asked_has_reason secret seconds given asked = by asked
  where
    in_time : HasReason (unless_expired seconds given)
    in_time =
        let late = Expired (unwrap_or given.exp 0) in
        then_has_reason (ensure (not (is_expired seconds given.exp)) late) (λ _. Ok given)
        (true_has_reason (not (is_expired seconds given.exp)) late tt) (λ _. tt)

    by : (o : Option Json) → HasReason (claims_asked secret seconds given o)
    by None = in_time
    by (Some Null) = in_time
    by (Some (Text token)) = token_has_reason secret token seconds
    by (Some (Truth b)) = tt
    by (Some (Num digits)) = tt
    by (Some (List' shape row)) = tt
    by (Some (Object' shape row)) = tt

-- the claims that are asked for, or the text of the reason why there are none
abbrev pub claims_or_text : List ℕ → ℕ → Claims → Option Json → Result Claims (List ℕ)
claims_or_text secret seconds given asked =
    or_text (claims_asked secret seconds given asked) (asked_has_reason secret seconds given asked)
