-- The pieces of a token by its dots.
use Rattle.std.proofs.Common.{◌≡◌, ℕ, ◌+◌, ◌-◌, ◌<◌, List, [], ◌∷◌, ◌++◌, length, take, drop, Some, None, refl, ap, sym, ◌∙◌, arith, append_assoc, length-append, length-take, length-drop}
use Rattle.std.proofs.lemmas.List.{take-append-drop, take_at, take_all}
use Rattle.std.specs.Prelude.{◌==◌, Bool, true, false}
use Rattle.rt_token.specs.Parts.{pieces_from, three, parts_of}
use Rattle.rt_token.specs.Lent.{IsFirstDot}

-- there is a piece
pub record HasPiece (pieces : List (List ℕ)) : Type 0 where
  pub first : List ℕ
  pub more : List (List ℕ)
  pub is : pieces ≡ first ∷ more

pub some_piece : (piece bytes : List ℕ) → HasPiece (pieces_from piece bytes)
some_piece piece [] = record { first = piece; more = []; is = refl }
some_piece piece (b ∷ bytes) = by (b == 46) (some_piece (piece ++ b ∷ []) bytes)
  where
    by : (is : Bool) → HasPiece (pieces_from (piece ++ b ∷ []) bytes) → HasPiece (elim is [ true ↦ piece ∷ pieces_from [] bytes | false ↦ pieces_from (piece ++ b ∷ []) bytes ])
    by true other = record { first = piece; more = pieces_from [] bytes; is = refl }
    by false other = other

pub rest_is : (bytes : List ℕ) (n : ℕ) → take (length bytes - n) (drop n bytes) ≡ drop n bytes
rest_is bytes n = take_all _ (drop n bytes) (omega (arith, length-drop n bytes))

module _ (token rest tag : List ℕ) (i j : ℕ) (first : IsFirstDot token (Some i)) (behind : rest ≡ drop (i + 1) token) (second : IsFirstDot rest (Some j)) (last : tag ≡ drop (j + 1) rest) where
  pieces : pieces_from [] token ≡ take i token ∷ take j rest ∷ pieces_from [] tag
  pieces =
      first.2 ∙ ap (λ (xs : List ℕ). take i token ∷ pieces_from [] xs) (sym behind) ∙ ap (λ (ps : List (List ℕ)). take i token ∷ ps) second.2
      ∙ ap (λ (xs : List ℕ). take i token ∷ take j rest ∷ pieces_from [] xs) (sym last)

  pub too_many : (k : ℕ) → IsFirstDot tag (Some k) → parts_of token ≡ None
  too_many k h =
      let more = some_piece [] (drop (k + 1) tag) in
      ap three (pieces ∙ ap (λ (ps : List (List ℕ)). take i token ∷ take j rest ∷ ps) (h.2 ∙ ap (λ (ps : List (List ℕ)). take k tag ∷ ps) more.is))

  pub are_parts : IsFirstDot tag None → parts_of token ≡ Some (record { head = take i token; body = take j rest; tag = tag })
  are_parts h = ap three (pieces ∙ ap (λ (ps : List (List ℕ)). take i token ∷ take j rest ∷ ps) h)

  pub are_signed : take (i + 1 + j) token ≡ take i token ++ 46 ∷ take j rest
  are_signed =
      let here : List ℕ = take i token ++ 46 ∷ take j rest in
      let all : token ≡ here ++ drop j rest =
      first.1 ∙ ap (λ (xs : List ℕ). take i token ++ 46 ∷ xs) (sym behind ∙ sym (take-append-drop j rest)) ∙ sym (append_assoc (take i token) (46 ∷ take j rest) (drop j rest)) in
      let in_token : i < length token = first.0 in
      let in_rest : j < length rest = second.0 in
      let long : length here ≡ i + 1 + j = grind (arith, length-append, length-take) in
      ap (take (i + 1 + j)) all ∙ take_at here (drop j rest) (i + 1 + j) long
