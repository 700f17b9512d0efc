-- The token that is looked at, or the end.
use Rattle.std.specs.Prelude.{◌≡◌, ℕ, List, Option, Some, option_map}
use Rattle.rt_sql.specs.declared.lexeme.Token.{Token}
use Rattle.rt_sql.specs.Lexeme.{Lexeme, IsTokenOf, lexeme_of}
use Rattle.rt_policy.specs.Words.{class_at, lexeme_at}
use Rattle.rt_lexeme.specs.declared.look.Look.{Look}

abbrev pub seen_in : List ℕ → Look → Option Lexeme
seen_in text look = option_map (lexeme_of text) look.token

abbrev pub lexeme_in : List ℕ → Look → Lexeme
lexeme_in text look = lexeme_at (seen_in text look)

-- it is of the text, and its class is its own
pub record IsLook (text : List ℕ) (look : Look) : Type 0 where
  pub of_text : (token : Token) → look.token ≡ Some token → IsTokenOf text token
  pub class : look.class ≡ class_at (seen_in text look)
