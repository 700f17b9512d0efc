-- The claims of a JSON object (RFC 7519, "JWT Claims").
use Rattle.std.specs.Prelude.{ℕ, nat_le, Bool, true, false, ◌&&◌, List, [], ◌∷◌, map, codes, Option, Some, None, Result, Ok, Err}
use Rattle.std.specs.List.{list_any}
use Rattle.std.specs.Str.{bytes_eq}
use Rattle.std.specs.Str.Parse.{digits_value}
use Rattle.rt_value.specs.declared.claims.Claim.{Claim}
use Rattle.rt_value.specs.declared.claims.Claims.{Claims}
use Rattle.rt_value.specs.Choice.{◌>>=◌, some_if, is_at}
use Rattle.rt_value.specs.Reading.{is_numeral, uuid_in_text}
use Rattle.rt_json.specs.declared.tree.Json.{Json}
use Rattle.rt_json.specs.declared.tree.named.Member.{Member}
use Rattle.rt_json.specs.Lookup.{member_of, members_of}
use Rattle.rt_json.specs.Trees.{text_of, is_object}
use Rattle.rt_token.specs.Trees.{NumberOf, absent, number, other, number_of, claim_value}
use Rattle.rt_token.specs.declared.fault.TokenFault.{TokenFault}
use Rattle.rt_token.specs.declared.fault.TokenFault.TheVariants.{Shape, NoRole}

infixl 10 ◌>>◌
abbrev pub ◌>>◌ : {A B : Type 0} → Result A TokenFault → (A → Result B TokenFault) → Result B TokenFault
(Ok x) >> f = f x
(Err e) >> f = Err e

abbrev pub or_fault : {A : Type 0} → TokenFault → Option A → Result A TokenFault
or_fault e None = Err e
or_fault e (Some x) = Ok x

abbrev pub ensure : Bool → TokenFault → Result Bool TokenFault
ensure true e = Ok true
ensure false e = Err e

-- of a name that comes again the last counts
abbrev pub last_of_each : List Member → List Member
last_of_each [] = []
last_of_each (m ∷ ms) = elim (list_any (λ n. bytes_eq n.name m.name) ms) [ true ↦ last_of_each ms | false ↦ m ∷ last_of_each ms ]

-- a number of seconds that a double holds exactly
abbrev pub exp_limit : ℕ
exp_limit = 9007199254740991

abbrev pub seconds_in : List ℕ → Option ℕ
seconds_in digits = some_if (is_numeral digits && nat_le (digits_value 10 digits) exp_limit) (digits_value 10 digits)

-- `exp` may be absent or null, and is digits alone
abbrev pub exp_in : NumberOf → Result (Option ℕ) TokenFault
exp_in absent = Ok None
exp_in (number digits) = or_fault Shape (seconds_in digits) >> λ n. Ok (Some n)
exp_in other = Err Shape

abbrev pub exp_of : Json → Result (Option ℕ) TokenFault
exp_of tree = exp_in (number_of (member_of tree (codes "exp")))

abbrev pub claim_of_member : Member → Claim
claim_of_member m = record { name = m.name; value = claim_value m.value }

-- `sub` is the caller's uuid where it is a text that reads as one
abbrev pub claims_with : Json → Option ℕ → List ℕ → Claims
claims_with tree exp role =
    record {
      role = role;
      sub = member_of tree (codes "sub") >>= text_of >>= uuid_in_text;
      exp = exp;
      members = map claim_of_member (last_of_each (members_of tree));
    }

abbrev pub with_role : Json → Option ℕ → Result Claims TokenFault
with_role tree exp = or_fault NoRole (member_of tree (codes "role") >>= text_of) >> λ role. Ok (claims_with tree exp role)

-- the claims of a tree, or the first of `Shape` and `NoRole` that applies
unfoldable pub claims_in_tree : Json → Result Claims TokenFault
claims_in_tree tree = ensure (is_object tree) Shape >> λ _. exp_of tree >> with_role tree

-- the claims have run out at a second: it is `exp` or later
abbrev pub is_expired : ℕ → Option ℕ → Bool
is_expired seconds exp = is_at (λ e. nat_le e seconds) exp
