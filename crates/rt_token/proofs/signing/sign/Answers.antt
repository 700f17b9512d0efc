use Rattle.std.proofs.Common.{◌≡◌, ap, sym, ◌∙◌, subst, Vec, ℕ, List, Global, arith}
use Rattle.rt_token.specs.Tokens.{claims_in_token, claims_in_payload, signed_token}
use Rattle.rt_token.proofs.Accepted.{accepted}
use Rattle.rt_token.proofs.Digests.{tag_bytes}
use Rattle.rt_token.proofs.SignedTokens.{is_signed_token}
use Rattle.rt_token.proofs.signing.sign.Goals as goal

token_is : (c : goal.After-new) → c.new.result ≡ signed_token c.args.secret.now c.args.claims.now
unfolding lib.Utf8.encode
token_is c =
    c.new.ensures ∙ ap (λ (v : Vec ℕ Global). v.items) c.into_bytes.ensures.value
    ∙ is_signed_token c.args.secret.now c.args.claims.now _ _ _ _ _ c.as_bytes.result.now c.hmac-tag.result c.in_ok-token.ensures.ok c.in_ok-push.ensures.bytes c.in_ok-encode_string.ensures.ok
    c.as_bytes.ensures.value c.hmac-tag.ensures c.in_ok-push-2.ensures.bytes c.in_ok-encode_string-2.ensures.ok

pub returns-clause-text : goal.returns-clause-text
returns-clause-text c = token_is c

pub returns-clause-accepted : goal.returns-clause-accepted
returns-clause-accepted c = λ seconds.
    subst (λ (t : List ℕ). claims_in_token c.args.secret.now t seconds ≡ claims_in_payload c.args.claims.now seconds) (sym (token_is c))
    (accepted c.args.secret.now c.args.claims.now (λ i. omega (arith, c.type_inv.claims i)) (tag_bytes c.args.secret.now) seconds)
