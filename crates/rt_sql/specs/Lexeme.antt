-- What a token means: its bytes in the text, the name that it keeps, the content of a text, and which keyword or sign it is.
use Rattle.std.specs.Prelude.{◌≡◌, ℕ, ◌==◌, ◌<◌, ◌≤◌, ◌⊎◌, true, false, List, [], ◌∷◌, map, length, slice_range, IsCharBoundary}
use Rattle.std.specs.Str.{str_to_ascii_lowercase}
use Rattle.rt_sql.specs.declared.piece.Piece.TheVariants as piece
use Rattle.rt_sql.specs.declared.lexeme.TokenKind.{TokenKind}
use Rattle.rt_sql.specs.declared.lexeme.TokenKind.TheVariants.{Word, Quoted, Sign}
use Rattle.rt_sql.specs.declared.lexeme.Token.{Token}
use Rattle.rt_sql.specs.Piece.{IsPiece, name_quote, text_quote}

-- a token's kind, and its bytes as they stand in the text
pub record Lexeme : Type 0 where
  pub kind : TokenKind
  pub bytes : List ℕ

abbrev pub bytes_of : List ℕ → Token → List ℕ
bytes_of text token = slice_range text token.from token.to

abbrev pub lexeme_of : List ℕ → Token → Lexeme
lexeme_of text token = record { kind = token.kind; bytes = bytes_of text token }

abbrev pub lexemes : List ℕ → List Token → List Lexeme
lexemes text tokens = map (lexeme_of text) tokens

-- a token of the text: not empty, between two borders of its characters, and a piece of its kind
pub record IsTokenOf (text : List ℕ) (token : Token) : Type 0 where
  pub forward : token.from < token.to
  pub within : token.to ≤ length text
  pub starts : IsCharBoundary text token.from
  pub ends : IsCharBoundary text token.to
  pub written : IsPiece (piece.Token token.kind) (bytes_of text token)

-- what stands behind an opening quote, up to the closing one: a quote is that one, or the first of two that stand for one
abbrev mutual
  pub within_quotes : ℕ → List ℕ → List ℕ
  within_quotes quote [] = []
  within_quotes quote (b ∷ bytes) = elim (b == quote) [ true ↦ behind_quote quote bytes | false ↦ b ∷ within_quotes quote bytes ]

  pub behind_quote : ℕ → List ℕ → List ℕ
  behind_quote quote [] = []
  behind_quote quote (b ∷ bytes) = b ∷ within_quotes quote bytes

-- quotes off, and doubled quotes once
abbrev pub unquoted : ℕ → List ℕ → List ℕ
unquoted quote [] = []
unquoted quote (b ∷ bytes) = within_quotes quote bytes

-- the name that a word or a quoted name keeps: a word in lower case, a quoted name as it stands between its quotes
abbrev pub kept_name : Lexeme → List ℕ
kept_name lexeme = elim lexeme.kind [ Quoted ↦ unquoted name_quote lexeme.bytes | _ ↦ str_to_ascii_lowercase lexeme.bytes ]

-- the content of a text
abbrev pub content : Lexeme → List ℕ
content lexeme = unquoted text_quote lexeme.bytes

abbrev pub MayName : TokenKind → Type 0
MayName kind = (kind ≡ Word) ⊎ (kind ≡ Quoted)

abbrev pub IsName : List ℕ → Lexeme → Type 0
IsName name lexeme = MayName lexeme.kind × (kept_name lexeme ≡ name)

-- keywords are in lower case, and a quoted name is none
abbrev pub IsKeyword : List ℕ → Lexeme → Type 0
IsKeyword keyword lexeme = (lexeme.kind ≡ Word) × (str_to_ascii_lowercase lexeme.bytes ≡ keyword)

abbrev pub IsSign : List ℕ → Lexeme → Type 0
IsSign sign lexeme = (lexeme.kind ≡ Sign) × (lexeme.bytes ≡ sign)
