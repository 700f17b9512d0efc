-- The reasons that are told of claims which are refused. Want of memory is none: no definition answers it.
use Rattle.std.specs.Prelude.{⊤, ℕ, Bool, true, false, not, List, codes, Option, Some, None, unwrap_or, Result, Ok, Err}
use Rattle.rt_value.specs.Choice.{◌>>=◌}
use Rattle.rt_json.specs.declared.tree.Json.{Json}
use Rattle.rt_json.specs.Lookup.{member_of}
use Rattle.rt_json.specs.Trees.{text_of}
use Rattle.rt_token.specs.declared.fault.TokenFault.{TokenFault}
use Rattle.rt_token.specs.declared.fault.TokenFault.TheVariants.{NoMemory, Shape, Algorithm, Signature, Expired, NoRole}
use Rattle.rt_token.specs.Trees.{NumberOf, absent, number, other, number_of}
use Rattle.rt_token.specs.Claims.{◌>>◌, or_fault, ensure, seconds_in, exp_in, exp_of, with_role, is_expired}
use Rattle.rt_token.specs.Parts.{parts_of, bytes_of}
use Rattle.rt_token.specs.Tokens.{object_in, opened, is_hs256, is_signed, claims_in_token}

-- the fault is one of the claims: want of memory is no reason
abbrev pub IsReason : TokenFault → Type 0
IsReason NoMemory = ⊥
IsReason _ = ⊤

-- the reason that is told
abbrev pub fault_text : (e : TokenFault) → IsReason e → List ℕ
fault_text NoMemory is = absurd is
fault_text Shape is = codes "token shape"
fault_text Algorithm is = codes "token algorithm"
fault_text Signature is = codes "token signature"
fault_text (Expired exp) is = codes "token expired"
fault_text NoRole is = codes "token without role"

abbrev pub HasReason : {A : Type 0} → Result A TokenFault → Type 0
HasReason (Ok x) = ⊤
HasReason (Err e) = IsReason e

abbrev pub or_text : {A : Type 0} (r : Result A TokenFault) → HasReason r → Result A (List ℕ)
or_text (Ok x) has = Ok x
or_text (Err e) has = Err (fault_text e has)

pub then_has_reason : {A B : Type 0} (r : Result A TokenFault) (f : A → Result B TokenFault) → HasReason r → ((x : A) → HasReason (f x))
    → HasReason (r >> f)
then_has_reason (Ok x) f h k = k x
then_has_reason (Err e) f h k = h

some_has_reason : {A : Type 0} (e : TokenFault) (o : Option A) → IsReason e → HasReason (or_fault e o)
some_has_reason e None is = is
some_has_reason e (Some x) is = tt

pub true_has_reason : (b : Bool) (e : TokenFault) → IsReason e → HasReason (ensure b e)
true_has_reason true e is = tt
true_has_reason false e is = is

exp_has_reason : (n : NumberOf) → HasReason (exp_in n)
exp_has_reason absent = tt
exp_has_reason (number digits) = then_has_reason (or_fault Shape (seconds_in digits)) _ (some_has_reason Shape (seconds_in digits) tt) (λ n. tt)
exp_has_reason other = tt

role_has_reason : (tree : Json) (exp : Option ℕ) → HasReason (with_role tree exp)
role_has_reason tree exp =
    let role = member_of tree (codes "role") >>= text_of in
    then_has_reason (or_fault NoRole role) _ (some_has_reason NoRole role tt) (λ _. tt)

opened_has_reason : (token : List ℕ) → HasReason (opened token)
opened_has_reason token =
    then_has_reason (or_fault Shape (parts_of token)) _ (some_has_reason Shape (parts_of token) tt) (λ parts.
    then_has_reason (or_fault Shape (object_in parts.head)) _ (some_has_reason Shape (object_in parts.head) tt) (λ head.
    then_has_reason (or_fault Shape (object_in parts.body)) _ (some_has_reason Shape (object_in parts.body) tt) (λ body.
    then_has_reason (or_fault Shape (bytes_of parts.tag)) _ (some_has_reason Shape (bytes_of parts.tag) tt) (λ tag.
    then_has_reason (exp_of body) _ (exp_has_reason (number_of (member_of body (codes "exp")))) (λ exp. tt)))))

-- no reading of a token ends for want of memory
pub token_has_reason : (secret token : List ℕ) (seconds : ℕ) → HasReason (claims_in_token secret token seconds)
unfolding claims_in_token
token_has_reason secret token seconds =
    then_has_reason (opened token) _ (opened_has_reason token) (λ t.
    then_has_reason (ensure (is_hs256 t.head) Algorithm) _ (true_has_reason (is_hs256 t.head) Algorithm tt) (λ _.
    then_has_reason (ensure (is_signed secret t) Signature) _ (true_has_reason (is_signed secret t) Signature tt) (λ _.
    then_has_reason (ensure (not (is_expired seconds t.exp)) (Expired (unwrap_or t.exp 0))) _
    (true_has_reason (not (is_expired seconds t.exp)) (Expired (unwrap_or t.exp 0)) tt) (λ _.
    role_has_reason t.body t.exp))))
