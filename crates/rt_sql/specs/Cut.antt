-- The one cut of a text: at each place the longest piece that begins there.
use Rattle.std.specs.Prelude.{ℕ, ◌<◌, ◌≤◌, List, [], ◌∷◌, length, slice_range}
use Rattle.rt_sql.specs.declared.piece.Piece.{Piece}
use Rattle.rt_sql.specs.declared.piece.Piece.TheVariants.{Blanks, Comment, Token}
use Rattle.rt_sql.specs.declared.lexeme.TokenKind.{TokenKind}
use Rattle.rt_sql.specs.declared.lexeme.Token as token
use Rattle.rt_sql.specs.Piece.{IsPiece}

-- a piece from one place to another, and no piece of any kind from the one goes further
pub record IsLongest (text : List ℕ) (piece : Piece) (from to : ℕ) : Type 0 where
  pub within : to ≤ length text
  pub written : IsPiece piece (slice_range text from to)
  pub longest : (other : Piece) (later : ℕ) → to < later → later ≤ length text → IsPiece other (slice_range text from later) → ⊥

abbrev pub NoneBegins : List ℕ → ℕ → Type 0
NoneBegins text at = (piece : Piece) (to : ℕ) → to ≤ length text → IsPiece piece (slice_range text at to) → ⊥

-- From one place on, the longest piece at each place leads to another place, past these tokens. Blanks and comments give no token.
pub data Leads (text : List ℕ) : ℕ → List token.Token → ℕ → Type 0 where
  arrived : {at : ℕ} → Leads text at [] at
  blanks : {from next to : ℕ} {tokens : List token.Token} → IsLongest text Blanks from next → Leads text next tokens to → Leads text from tokens to
  comment : {from next to : ℕ} {tokens : List token.Token} → IsLongest text Comment from next → Leads text next tokens to → Leads text from tokens to
  one : {from next to : ℕ} {kind : TokenKind} {tokens : List token.Token}
      → IsLongest text (Token kind) from next → Leads text next tokens to
      → Leads text from (record { kind = kind; from = from; to = next } ∷ tokens) to

-- the tokens of a text: they lead from its start to its end
abbrev pub IsCut : List ℕ → List token.Token → Type 0
IsCut text tokens = Leads text 0 tokens (length text)

-- the text before a place is cut, and no piece begins there
pub record IsUncut (text : List ℕ) (at : ℕ) : Type 0 where
  pub before : (tokens : List token.Token) × Leads text 0 tokens at
  pub within : at < length text
  pub none : NoneBegins text at
