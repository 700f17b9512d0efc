-- The longest of the pieces of some kinds.
use Rattle.std.proofs.Common.{◌≡◌, ℕ, zero, suc, ◌+◌, ◌<◌, ◌≤◌, List, [], ◌∷◌, length, take, get_or, Option, None, Some, MatchOption, refl, sym, subst, inl, inr, arith}
use Rattle.std.proofs.lemmas.Bool.{cases_lt}
use Rattle.std.proofs.lemmas.List.{get_or_default}
use Rattle.rt_sql.specs.declared.piece.Piece.{Piece}
use Rattle.rt_sql.specs.declared.piece.Piece.TheVariants.{Blanks, Comment, Token}
use Rattle.rt_sql.specs.declared.lexeme.TokenKind.TheVariants.{Word, Quoted, Text, Number, Sign}
use Rattle.rt_sql.specs.Piece.{IsPiece}
use Rattle.rt_sql.specs.Front.{IsLongestFront, LongestPiece}

-- no front of more than n bytes is a piece of a kind
abbrev pub NoneLonger : List ℕ → Piece → ℕ → Type 0
NoneLonger text kind n = (later : ℕ) → n < later → later ≤ length text → IsPiece kind (take later text) → ⊥

-- a piece of as many bytes as the longest has
pub record IsFound (text : List ℕ) (most : ℕ) (found : Piece × ℕ) : Type 0 where
  pub as_long : found.1 ≡ most
  pub some : 0 < most
  pub within : most ≤ length text
  pub written : IsPiece found.0 (take most text)

-- the longest piece of the first kinds of a list
pub record IsBest (text : List ℕ) (kinds : List Piece) (index : ℕ) (longest : Option (Piece × ℕ)) (most : ℕ) : Type 0 where
  pub found : MatchOption longest (most ≡ 0) (IsFound text most)
  pub none : (k : ℕ) (d : Piece) → k < index → NoneLonger text (get_or kinds k d) most

-- what exceeds the most of one more kind exceeds none
more_none : (text : List ℕ) (kinds : List Piece) (index most n : ℕ) (e : Piece) → index < length kinds → n ≤ most → NoneLonger text (get_or kinds index e) n
    → ((k : ℕ) (d : Piece) → k < index → NoneLonger text (get_or kinds k d) most) → (k : ℕ) (d : Piece) → k < index + 1 → NoneLonger text (get_or kinds k d) most
more_none text kinds index most n e in_kinds le here below k d lt later more within piece =
    elim (cases_lt k index) [
      | inl before ↦ below k d before later more within piece
      | inr last ↦
          let is : k ≡ index = omega arith in
          let same : get_or kinds k d ≡ get_or kinds index e = subst (λ (j : ℕ). get_or kinds j d ≡ get_or kinds index e) (sym is) (get_or_default kinds index d e in_kinds) in
          here later (omega arith) within (subst (λ (p : Piece). IsPiece p (take later text)) same piece)
    ]

pub keeps_best : (text : List ℕ) (kinds : List Piece) (index : ℕ) (longest : Option (Piece × ℕ)) (most n : ℕ) (e : Piece) → IsBest text kinds index longest most
    → index < length kinds → n ≤ most → IsLongestFront (IsPiece (get_or kinds index e)) text n → IsBest text kinds (index + 1) longest most
keeps_best text kinds index longest most n e best in_kinds le front = record {
  found = best.found;
  none = more_none text kinds index most n e in_kinds le front.longest best.none;
}

pub new_best : (text : List ℕ) (kinds : List Piece) (index : ℕ) (longest : Option (Piece × ℕ)) (most n : ℕ) (e : Piece) → IsBest text kinds index longest most
    → index < length kinds → most < n → IsLongestFront (IsPiece (get_or kinds index e)) text n → IsBest text kinds (index + 1) (Some (get_or kinds index e, n)) n
new_best text kinds index longest most n e best in_kinds lt front = record {
  found = record { as_long = refl; some = omega arith; within = front.within; written = front.holds (omega arith) };
  none = more_none text kinds index n n e in_kinds (omega arith) front.longest (λ k d less later more within. best.none k d less later (omega arith) within);
}

abbrev pub kinds : List Piece
kinds = Blanks ∷ Comment ∷ Token Word ∷ Token Quoted ∷ Token Text ∷ Token Number ∷ Token Sign ∷ []

-- each kind is in the list
no_other : (text : List ℕ) (index most : ℕ) → 7 ≤ index → ((k : ℕ) (d : Piece) → k < index → NoneLonger text (get_or kinds k d) most) → (kind : Piece) → NoneLonger text kind most
no_other text index most le none Blanks = none 0 Blanks (omega arith)
no_other text index most le none Comment = none 1 Blanks (omega arith)
no_other text index most le none (Token Word) = none 2 Blanks (omega arith)
no_other text index most le none (Token Quoted) = none 3 Blanks (omega arith)
no_other text index most le none (Token Text) = none 4 Blanks (omega arith)
no_other text index most le none (Token Number) = none 5 Blanks (omega arith)
no_other text index most le none (Token Sign) = none 6 Blanks (omega arith)

-- no piece is empty
pub no_empty_piece : (kind : Piece) → IsPiece kind [] → ⊥
no_empty_piece Blanks piece = absurd (omega (arith, piece.0))
no_empty_piece Comment (inner, e, all) = cc (e)
no_empty_piece (Token Word) piece = cc (piece)
no_empty_piece (Token Quoted) (name, some, e) = cc (e)
no_empty_piece (Token Text) (content, e) = cc (e)
no_empty_piece (Token Number) piece = absurd (omega (arith, piece.0))
no_empty_piece (Token Sign) piece = cc (piece)

none_begins : (text : List ℕ) (index most : ℕ) → 7 ≤ index → most ≡ 0 → ((k : ℕ) (d : Piece) → k < index → NoneLonger text (get_or kinds k d) most)
    → (kind : Piece) (n : ℕ) → n ≤ length text → IsPiece kind (take n text) → ⊥
none_begins text index most le e none kind zero within piece = no_empty_piece kind piece
none_begins text index most le e none kind (suc n) within piece = no_other text index most le none kind (suc n) (omega (arith, e)) within piece

pub best_is_longest : (text : List ℕ) (index : ℕ) (longest : Option (Piece × ℕ)) (most : ℕ) → 7 ≤ index → IsBest text kinds index longest most → LongestPiece text longest
best_is_longest text index None most le best = none_begins text index most le best.found best.none
best_is_longest text index (Some (piece, n)) most le best = record {
  within = omega (arith, best.found.as_long, best.found.within);
  written = subst (λ (m : ℕ). IsPiece piece (take m text)) (sym best.found.as_long) best.found.written;
  longest = λ other later lt within written. no_other text index most le best.none other later (omega (arith, best.found.as_long)) within written;
}
