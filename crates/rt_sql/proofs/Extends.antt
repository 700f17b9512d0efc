-- A text that is cut up to a place is cut one piece further.
use Rattle.std.proofs.Common.{◌≡◌, ℕ, ◌+◌, ◌-◌, ◌<◌, ◌≤◌, List, [], ◌∷◌, ◌++◌, length, take, drop, None, sym, subst, refl, inl, inr, arith, append-nil, length-take, length-drop}
use Rattle.std.proofs.lemmas.Bool.{cases_lt}
use Rattle.std.proofs.lemmas.List.{take_rest}
use Rattle.rt_sql.specs.declared.piece.Piece.{Piece}
use Rattle.rt_sql.specs.declared.piece.Piece.TheVariants.{Blanks, Comment, Token}
use Rattle.rt_sql.specs.declared.lexeme.TokenKind.{TokenKind}
use Rattle.rt_sql.specs.declared.lexeme.Token as token
use Rattle.rt_sql.specs.Piece.{IsPiece}
use Rattle.rt_sql.specs.Front.{IsLongestPiece, LongestPiece}
use Rattle.rt_sql.specs.Cut as c
use Rattle.rt_sql.specs.Cut.{IsLongest, NoneBegins, Leads, IsCut, IsUncut}
use Rattle.rt_sql.proofs.Steps.{no_piece_back, joins}

-- the text is cut up to a place
pub record IsCutTo (text : List ℕ) (tokens : List token.Token) (at : ℕ) : Type 0 where
  pub way : Leads text 0 tokens at
  pub within : at ≤ length text

pub cut_to_start : (text : List ℕ) (tokens : List token.Token) → tokens ≡ [] → IsCutTo text tokens 0
cut_to_start text tokens e = record { way = subst (λ (ts : List token.Token). Leads text 0 ts 0) (sym e) c.arrived; within = omega arith }

abbrev rest : List ℕ → ℕ → List ℕ
rest text at = take (length text - at) (drop at text)

-- the longest piece of what follows a place is the longest at the place
found_long : (text : List ℕ) (at : ℕ) (found : Piece × ℕ) → at ≤ length text → IsLongestPiece (rest text at) found → IsLongest text found.0 at (at + found.1)
found_long text at found le long = record {
  within = omega (arith, long.within, len);
  written = subst (λ (n : ℕ). IsPiece found.0 (take n (drop at text))) past (subst (λ (xs : List ℕ). IsPiece found.0 (take found.1 xs)) (take_rest text at) long.written);
  longest = λ other later lt short written.
      long.longest other (later - at) (omega arith) (omega (arith, len)) (subst (λ (xs : List ℕ). IsPiece other (take (later - at) xs)) (sym (take_rest text at)) written);
} where
  len : length (rest text at) ≡ length text - at
  len = omega (arith, length-take (length text - at) (drop at text), length-drop at text)

  past : found.1 ≡ at + found.1 - at
  past = omega arith

pub token_further : (text : List ℕ) (tokens : List token.Token) (at : ℕ) (kind : TokenKind) (n : ℕ) → IsCutTo text tokens at → IsLongestPiece (rest text at) (Token kind, n)
    → IsCutTo text (tokens ++ record { kind = kind; from = at; to = at + n } ∷ []) (at + n)
token_further text tokens at kind n cut found =
    let long : IsLongest text (Token kind) at (at + n) = found_long text at (Token kind, n) cut.within found in
    record { way = joins cut.way (c.one long c.arrived); within = long.within }

pub gap_further : (text : List ℕ) (tokens : List token.Token) (at : ℕ) (piece : Piece) (n : ℕ) → IsCutTo text tokens at → ((kind : TokenKind) → piece ≡ Token kind → ⊥)
    → IsLongestPiece (rest text at) (piece, n) → IsCutTo text tokens (at + n)
gap_further text tokens at Blanks n cut none found =
    let long : IsLongest text Blanks at (at + n) = found_long text at (Blanks, n) cut.within found in
    record { way = subst (λ (ts : List token.Token). Leads text 0 ts (at + n)) (append-nil tokens) (joins cut.way (c.blanks long c.arrived)); within = long.within }
gap_further text tokens at Comment n cut none found =
    let long : IsLongest text Comment at (at + n) = found_long text at (Comment, n) cut.within found in
    record { way = subst (λ (ts : List token.Token). Leads text 0 ts (at + n)) (append-nil tokens) (joins cut.way (c.comment long c.arrived)); within = long.within }
gap_further text tokens at (Token kind) n cut none found = absurd (none kind refl)

pub uncut_here : (text : List ℕ) (tokens : List token.Token) (at : ℕ) → IsCutTo text tokens at → at < length text → LongestPiece (rest text at) None → IsUncut text at
uncut_here text tokens at cut lt none = record {
  before = (tokens, cut.way);
  within = lt;
  none = λ piece to le written. elim (cases_lt to at) [
    | inl back ↦ no_piece_back text piece at to (omega arith) written
    | inr on ↦ none piece (to - at) (omega (arith, length-take (length text - at) (drop at text), length-drop at text))
        (subst (λ (xs : List ℕ). IsPiece piece (take (to - at) xs)) (sym (take_rest text at)) written)
  ];
}

pub cut_at_end : (text : List ℕ) (tokens : List token.Token) (at : ℕ) → IsCutTo text tokens at → length text ≤ at → IsCut text tokens
cut_at_end text tokens at cut le =
    let ends : at ≡ length text = omega (arith, cut.within) in
    subst (λ (to : ℕ). Leads text 0 tokens to) ends cut.way
