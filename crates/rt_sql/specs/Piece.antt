-- What a text is cut into: blanks, comments and tokens, each by its bytes.
use Rattle.std.specs.Prelude.{◌≡◌, ℕ, ◌==◌, ◌<◌, Bool, false, not, ◌||◌, ◌&&◌, if◌then◌else◌, IsTrue, List, [], ◌∷◌, ◌++◌, length, flat_map, codes}
use Rattle.std.specs.List.{list_all, list_any}
use Rattle.std.specs.Char.{is_ascii_alphabetic, is_ascii_alphanumeric, is_ascii_digit}
use Rattle.std.specs.Str.{byte}
use Rattle.rt_sql.specs.declared.piece.Piece.{Piece}
use Rattle.rt_sql.specs.declared.piece.Piece.TheVariants.{Blanks, Comment, Token}
use Rattle.rt_sql.specs.declared.lexeme.TokenKind.TheVariants.{Word, Quoted, Text, Number, Sign}

-- a space, a tab, a CR or an LF
abbrev pub is_blank : ℕ → Bool
is_blank b = b == 32 || b == 9 || b == 13 || b == 10

abbrev pub is_line_feed : ℕ → Bool
is_line_feed b = b == 10

abbrev pub begins_word : ℕ → Bool
begins_word b = is_ascii_alphabetic b || b == byte "_"

abbrev pub continues_word : ℕ → Bool
continues_word b = is_ascii_alphanumeric b || b == byte "_"

-- a letter or `_`, then letters, digits and `_`, of ASCII
abbrev pub is_word : List ℕ → Bool
is_word [] = false
is_word (b ∷ bytes) = begins_word b && list_all continues_word bytes

-- the bytes, each quote among them twice
abbrev pub doubled : ℕ → List ℕ → List ℕ
doubled quote bytes = flat_map (λ b. if b == quote then b ∷ b ∷ [] else b ∷ []) bytes

abbrev pub in_quotes : ℕ → List ℕ → List ℕ
in_quotes quote bytes = quote ∷ doubled quote bytes ++ quote ∷ []

abbrev pub name_quote : ℕ
name_quote = byte "\""

abbrev pub text_quote : ℕ
text_quote = byte "'"

-- the signs of one byte
abbrev pub is_short_sign : ℕ → Bool
is_short_sign a = list_any (λ s. s == a) (codes "(),;.=<>*[]-")

-- the signs of two bytes: `<>`, `!=`, `<=`, `>=` and `::`
abbrev pub is_double_sign : ℕ → ℕ → Bool
is_double_sign a b =
    (a == byte "<" && b == byte ">")
    || ((a == byte "!" || a == byte "<" || a == byte ">") && b == byte "=")
    || (a == byte ":" && b == byte ":")

-- the sign of three bytes: `->>`
abbrev pub is_long_sign : ℕ → ℕ → ℕ → Bool
is_long_sign a b c = a == byte "-" && b == byte ">" && c == byte ">"

abbrev pub is_sign : List ℕ → Bool
is_sign (a ∷ []) = is_short_sign a
is_sign (a ∷ b ∷ []) = is_double_sign a b
is_sign (a ∷ b ∷ c ∷ []) = is_long_sign a b c
is_sign _ = false

-- The bytes are a piece of a kind. A comment runs to the line's end, which isn't its own. A quoted name isn't empty.
abbrev pub IsPiece : Piece → List ℕ → Type 0
IsPiece Blanks bytes = (0 < length bytes) × IsTrue (list_all is_blank bytes)
IsPiece Comment bytes = (inner : List ℕ) × (bytes ≡ codes "--" ++ inner) × IsTrue (list_all (λ b. not (is_line_feed b)) inner)
IsPiece (Token Word) bytes = IsTrue (is_word bytes)
IsPiece (Token Quoted) bytes = (name : List ℕ) × (0 < length name) × (bytes ≡ in_quotes name_quote name)
IsPiece (Token Text) bytes = (content : List ℕ) × (bytes ≡ in_quotes text_quote content)
IsPiece (Token Number) bytes = (0 < length bytes) × IsTrue (list_all is_ascii_digit bytes)
IsPiece (Token Sign) bytes = IsTrue (is_sign bytes)
