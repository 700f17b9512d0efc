-- The words and signs of a catalogue's text, and which of them are names.
use Rattle.std.specs.Prelude.{◌≡◌, ℕ, nat_le, Bool, true, false, ◌&&◌, not, IsUtf8, List, [], ◌∷◌, codes, length, map}
use Rattle.std.specs.List.{list_all, list_any}
use Rattle.std.specs.Str.{bytes_eq}
use Rattle.std.specs.Str.Iter.{HasSubslice}
use Rattle.rt_sql.specs.Cut.{IsCut}
use Rattle.rt_sql.specs.Piece.{begins_word}
use Rattle.rt_sql.specs.Lexeme.{bytes_of, lexeme_of, kept_name}
use Rattle.rt_sql.specs.declared.lexeme.Token.{Token}
use Rattle.rt_sql.specs.declared.lexeme.TokenKind.{TokenKind}
use Rattle.rt_sql.specs.declared.lexeme.TokenKind.TheVariants.{Word, Sign}

-- a word or a sign
abbrev pub is_plain : TokenKind → Bool
is_plain Word = true
is_plain Sign = true
is_plain _ = false

-- a word in lower case, a sign as it stands
abbrev pub word_of : List ℕ → Token → List ℕ
word_of text token = elim token.kind [ Sign ↦ bytes_of text token | _ ↦ kept_name (lexeme_of text token) ]

-- The words and signs of a text, which has no other token and no comment.
pub record AreWords (text : List ℕ) (words : List (List ℕ)) : Type 0 where
  pub utf8 : IsUtf8 text
  pub uncommented : HasSubslice text (codes "--") → ⊥
  pub tokens : List Token
  pub cut : IsCut text tokens
  pub plain : list_all (λ t. is_plain t.kind) tokens ≡ true
  pub are : words ≡ map (word_of text) tokens

-- words of expressions, which are no names
abbrev pub reserved : List (List ℕ)
reserved =
    codes "and" ∷ codes "or" ∷ codes "not" ∷ codes "in" ∷ codes "is" ∷ codes "null" ∷ codes "true" ∷ codes "false"
    ∷ codes "exists" ∷ codes "select"
    ∷ codes "from" ∷ codes "where" ∷ []

-- the most bytes of a name
abbrev pub name_limit : ℕ
name_limit = 63

-- a sign begins otherwise
abbrev pub begins_name : List ℕ → Bool
begins_name [] = false
begins_name (b ∷ word) = begins_word b

abbrev pub is_name : List ℕ → Bool
is_name word = nat_le (length word) name_limit && begins_name word && not (list_any (λ r. bytes_eq r word) reserved)
