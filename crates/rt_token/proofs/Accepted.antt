-- A signed token passes under its secret exactly where its claims pass the other tests.
use Rattle.std.proofs.Common.{◌≡◌, ℕ, zero, suc, ◌+◌, ◌*◌, ◌/◌, ◌%◌, List, [], ◌∷◌, ◌++◌, Option, Some, None, Result, Ok, Err, refl, ap, sym, ◌∙◌, append_assoc, append-nil}
use Rattle.std.proofs.lemmas.Bool.{and_parts, and_from}
use Rattle.std.specs.Prelude.{Bool, true, false, not, ◌&&◌, ◌==◌, codes, slice_index, unwrap_or, option_and_then}
use Rattle.std.specs.List.{list_all}
use Rattle.std.specs.Str.{bytes_eq}
use Rattle.std.proofs.lemmas.Slice.Eq.{bytes_eq-Decides}
use Rattle.base64.specs.Engines.{url_safe_no_pad}
use Rattle.base64.specs.Rfc4648.{encode_symbols}
use Rattle.base64.specs.GeneralPurpose.{IsBytes}
use Rattle.base64.proofs.EngineFacts.{decode_of-encode_of}
use Rattle.base64.proofs.OnLiterals.{base64_on_literals}
use Rattle.rt_json.specs.Computes.{json_computes}
use Rattle.rt_json.specs.Grammar.{member}
use Rattle.rt_json.specs.declared.tree.Json.{Json}
use Rattle.rt_json.specs.declared.tree.Json.TheVariants as j
use Rattle.rt_value.specs.declared.claims.Claims.{Claims}
use Rattle.rt_token.specs.Hmac.{hmac_sha256}
use Rattle.rt_token.specs.Parts.{Parts, pieces_from, three, parts_of, bytes_of, part_of, signed_bytes}
use Rattle.rt_token.specs.Claims.{◌>>◌, or_fault, ensure, exp_of, with_role, is_expired}
use Rattle.rt_token.specs.Tokens.{Opened, object_in, object_of, is_hs256, is_signed, claims_in_token, token_head, signed_token, claims_in_payload}
use Rattle.rt_token.specs.declared.fault.TokenFault.{TokenFault}
use Rattle.rt_token.specs.declared.fault.TokenFault.TheVariants.{Shape, Algorithm, Signature, Expired}
use Rattle.rt_token.proofs.Decoded.{decoded}

-- a byte that is no dot, and bytes without one
abbrev is_other : ℕ → Bool
is_other b = not (b == 46)

abbrev HasNoDot : List ℕ → Type 0
HasNoDot xs = list_all is_other xs ≡ true

not_dot : (b : Bool) → not b ≡ true → b ≡ false
not_dot true h = let e : false ≡ true = h in cc
not_dot false h = refl

-- up to the first dot bytes are one piece
to_dot : (piece xs ys : List ℕ) → HasNoDot xs → pieces_from piece (xs ++ 46 ∷ ys) ≡ (piece ++ xs) ∷ pieces_from [] ys
to_dot piece [] ys h = ap (λ (p : List ℕ). p ∷ pieces_from [] ys) (sym (append-nil piece))
to_dot piece (b ∷ xs) ys h =
    let k = and_parts (is_other b) (list_all is_other xs) h in
    ap (λ (t : Bool). elim t [ true ↦ piece ∷ pieces_from [] (xs ++ 46 ∷ ys) | false ↦ pieces_from (piece ++ b ∷ []) (xs ++ 46 ∷ ys) ]) (not_dot (b == 46) k.0)
    ∙ to_dot (piece ++ b ∷ []) xs ys k.1 ∙ ap (λ (p : List ℕ). p ∷ pieces_from [] ys) (append_assoc piece (b ∷ []) xs)

to_end : (piece xs : List ℕ) → HasNoDot xs → pieces_from piece xs ≡ (piece ++ xs) ∷ []
to_end piece [] h = ap (λ (p : List ℕ). p ∷ []) (sym (append-nil piece))
to_end piece (b ∷ xs) h =
    let k = and_parts (is_other b) (list_all is_other xs) h in
    ap (λ (t : Bool). elim t [ true ↦ piece ∷ pieces_from [] xs | false ↦ pieces_from (piece ++ b ∷ []) xs ]) (not_dot (b == 46) k.0)
    ∙ to_end (piece ++ b ∷ []) xs k.1 ∙ ap (λ (p : List ℕ). p ∷ []) (append_assoc piece (b ∷ []) xs)

cut_again : (head body tag : List ℕ) → HasNoDot head → HasNoDot body → HasNoDot tag → parts_of ((head ++ 46 ∷ body) ++ 46 ∷ tag) ≡ Some (record { head = head; body = body; tag = tag })
cut_again head body tag h b t =
    ap parts_of (append_assoc head (46 ∷ body) (46 ∷ tag))
    ∙ ap three (to_dot [] head (body ++ 46 ∷ tag) h ∙ ap (λ (ps : List (List ℕ)). head ∷ ps) (to_dot [] body tag b ∙ ap (λ (ps : List (List ℕ)). body ∷ ps) (to_end [] tag t)))

-- no symbol of the alphabet is a dot
symbol : (t : List ℕ) → HasNoDot t → (k : ℕ) → is_other (slice_index t k) ≡ true
symbol [] h k = refl
symbol (b ∷ bs) h zero = (and_parts (is_other b) (list_all is_other bs) h).0
symbol (b ∷ bs) h (suc k) = symbol bs (and_parts (is_other b) (list_all is_other bs) h).1 k

append_none : (xs ys : List ℕ) → HasNoDot xs → HasNoDot ys → HasNoDot (xs ++ ys)
append_none [] ys h k = k
append_none (x ∷ xs) ys h k = let e = and_parts (is_other x) (list_all is_other xs) h in and_from (is_other x) (list_all is_other (xs ++ ys)) e.0 (append_none xs ys e.1 k)

symbols_none : (t m : List ℕ) → HasNoDot t → HasNoDot (encode_symbols t m)
unfolding encode_symbols
symbols_none t [] h = refl
symbols_none t (a ∷ []) h = and_from _ _ (symbol t h _) (and_from _ _ (symbol t h _) refl)
symbols_none t (a ∷ b ∷ []) h = and_from _ _ (symbol t h _) (and_from _ _ (symbol t h _) (and_from _ _ (symbol t h _) refl))
symbols_none t (a ∷ b ∷ c ∷ rest) h =
    and_from _ _ (symbol t h (a / 4)) (and_from _ _ (symbol t h (a % 4 * 16 + b / 16)) (and_from _ _ (symbol t h (b % 16 * 4 + c / 64)) (and_from _ _ (symbol t h (c % 64)) (symbols_none t rest h))))

part_none : (bytes : List ℕ) → HasNoDot (part_of bytes)
part_none bytes = append_none (encode_symbols url_safe_no_pad.encode_table bytes) [] (symbols_none url_safe_no_pad.encode_table bytes refl) refl

-- the header
unfoldable header : Json
header = j.Object (member (codes "alg") (j.Text (codes "HS256")) ∷ member (codes "typ") (j.Text (codes "JWT")) ∷ [])

header_is : object_in token_head ≡ Some header
unfolding json_computes base64_on_literals header
header_is = refl

header_algorithm : is_hs256 header ≡ true
unfolding json_computes header
header_algorithm = refl

part_is : (bytes : List ℕ) → IsBytes bytes → bytes_of (part_of bytes) ≡ Some bytes
part_is bytes h = decoded url_safe_no_pad (part_of bytes) bytes (decode_of-encode_of url_safe_no_pad bytes refl h)

-- the definition, from each of its steps on
abbrev judged : List ℕ → ℕ → Result Opened TokenFault → Result Claims TokenFault
judged secret seconds o =
    o >> λ t.
    ensure (is_hs256 t.head) Algorithm >> λ _.
    ensure (is_signed secret t) Signature >> λ _.
    ensure (not (is_expired seconds t.exp)) (Expired (unwrap_or t.exp 0)) >> λ _.
    with_role t.body t.exp

abbrev with_exp : Parts → Json → Json → List ℕ → Result (Option ℕ) TokenFault → Result Opened TokenFault
with_exp parts head body tag o = o >> λ exp. Ok (record { parts = parts; head = head; body = body; tag = tag; exp = exp })

abbrev with_tag : Parts → Json → Json → Option (List ℕ) → Result Opened TokenFault
with_tag parts head body o = or_fault Shape o >> λ tag. with_exp parts head body tag (exp_of body)

abbrev with_body : Parts → Json → Option Json → Result Opened TokenFault
with_body parts head o = or_fault Shape o >> λ body. with_tag parts head body (bytes_of parts.tag)

abbrev with_head : Parts → Option Json → Result Opened TokenFault
with_head parts o = or_fault Shape o >> λ head. with_body parts head (object_in parts.body)

abbrev with_parts : Option Parts → Result Opened TokenFault
with_parts o = or_fault Shape o >> λ parts. with_head parts (object_in parts.head)

abbrev unexpired : ℕ → Json → Option ℕ → Result Claims TokenFault
unexpired seconds body exp = ensure (not (is_expired seconds exp)) (Expired (unwrap_or exp 0)) >> λ _. with_role body exp

module _ (secret : List ℕ) (seconds : ℕ) (parts : Parts) (head : Json) (tag : List ℕ) (algorithm : is_hs256 head ≡ true) (signed : bytes_eq tag (hmac_sha256 secret (signed_bytes parts)) ≡ true) where
  from_exp : (body : Json) (o : Result (Option ℕ) TokenFault) → judged secret seconds (with_exp parts head body tag o) ≡ (o >> unexpired seconds body)
  from_exp body (Err e) = refl
  from_exp body (Ok exp) =
      ap (λ (b : Bool). ensure b Algorithm >> λ _. ensure (bytes_eq tag (hmac_sha256 secret (signed_bytes parts))) Signature >> λ _. unexpired seconds body exp) algorithm
      ∙ ap (λ (b : Bool). ensure b Signature >> λ _. unexpired seconds body exp) signed

  from_body : bytes_of parts.tag ≡ Some tag → (o : Option Json) → judged secret seconds (with_body parts head o) ≡ (or_fault Shape o >> λ body. exp_of body >> unexpired seconds body)
  from_body is None = refl
  from_body is (Some body) = ap (λ (t : Option (List ℕ)). judged secret seconds (with_tag parts head body t)) is ∙ from_exp body (exp_of body)

same_bytes : (xs : List ℕ) → bytes_eq xs xs ≡ true
same_bytes xs = (bytes_eq-Decides xs xs).1 refl

pub accepted : (secret claims : List ℕ) → IsBytes claims → ((m : List ℕ) → IsBytes (hmac_sha256 secret m)) → (seconds : ℕ)
    → claims_in_token secret (signed_token secret claims) seconds ≡ claims_in_payload claims seconds
unfolding claims_in_token signed_token
accepted secret claims bytes tags seconds =
    let body : List ℕ = part_of claims in
    let tag : List ℕ = hmac_sha256 secret (token_head ++ 46 ∷ body) in
    let parts : Parts = record { head = token_head; body = body; tag = part_of tag } in
    ap (λ (o : Option Parts). judged secret seconds (with_parts o)) (cut_again token_head body (part_of tag) refl (part_none claims) (part_none tag))
    ∙ ap (λ (o : Option Json). judged secret seconds (with_head parts o)) header_is
    ∙ ap (λ (o : Option Json). judged secret seconds (with_body parts header o)) (ap (λ (b : Option (List ℕ)). option_and_then object_of b) (part_is claims bytes))
    ∙ from_body secret seconds parts header tag header_algorithm (same_bytes tag) (part_is tag (tags (token_head ++ 46 ∷ body))) (object_of claims)
