-- Whether a token keeps a name that is longer than a name may be.
use Rattle.std.specs.Prelude.{ℕ, Bool, false, List}
use Rattle.std.specs.Str.{str_to_ascii_lowercase}
use Rattle.rt_sql.specs.declared.lexeme.TokenKind.{TokenKind}
use Rattle.rt_sql.specs.declared.lexeme.TokenKind.TheVariants as kind
use Rattle.rt_sql.specs.Lexeme.{Lexeme, unquoted}
use Rattle.rt_sql.specs.Piece.{name_quote}
use Rattle.rt_policy.specs.Sizes.{is_long}

abbrev pub long_by : TokenKind → List ℕ → Bool
long_by kind.Word bytes = is_long (str_to_ascii_lowercase bytes)
long_by kind.Quoted bytes = is_long (unquoted name_quote bytes)
long_by _ bytes = false

abbrev pub is_long_token : Lexeme → Bool
is_long_token x = long_by x.kind x.bytes
