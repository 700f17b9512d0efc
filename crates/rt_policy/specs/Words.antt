-- What a token is to an expression, without the name or the content that it keeps.
use Rattle.std.specs.Prelude.{ℕ, Bool, true, false, not, ◌||◌, List, [], ◌∷◌, codes, Option, option_map}
use Rattle.std.specs.Prelude.{unwrap_or, find}
use Rattle.std.specs.Str.{bytes_eq, str_to_ascii_lowercase}
use Rattle.rt_sql.specs.declared.lexeme.TokenKind.{TokenKind}
use Rattle.rt_sql.specs.declared.lexeme.TokenKind.TheVariants as kind
use Rattle.rt_sql.specs.Lexeme.{Lexeme}
use Rattle.rt_policy.specs.declared.judge.Comparison.TheVariants as comparison
use Rattle.rt_policy.specs.declared.words.Word.{Word}
use Rattle.rt_policy.specs.declared.words.Word.TheVariants as word
use Rattle.rt_policy.specs.declared.words.Sign.TheVariants as sign
use Rattle.rt_policy.specs.declared.words.Class.{Class}
use Rattle.rt_policy.specs.declared.words.Class.TheVariants as class

abbrev pub word_text : Word → List ℕ
word_text word.And = codes "and"
word_text word.Or = codes "or"
word_text word.Not = codes "not"
word_text word.In = codes "in"
word_text word.Is = codes "is"
word_text word.Null = codes "null"
word_text word.True = codes "true"
word_text word.False = codes "false"
word_text word.Exists = codes "exists"
word_text word.Select = codes "select"
word_text word.From = codes "from"
word_text word.Where = codes "where"
word_text word.As = codes "as"
word_text word.Auth = codes "auth"
word_text word.Uid = codes "uid"
word_text word.Role = codes "role"
word_text word.Jwt = codes "jwt"
word_text word.Unknown = codes "unknown"
word_text word.Timestamp = codes "timestamp"
word_text word.With = codes "with"
word_text word.Without = codes "without"
word_text word.Time = codes "time"
word_text word.Zone = codes "zone"
word_text word.Double = codes "double"
word_text word.Precision = codes "precision"
word_text word.Character = codes "character"
word_text word.Varying = codes "varying"
word_text word.Other = []

abbrev pub reserved_words : List Word
reserved_words =
    word.And ∷ word.Or ∷ word.Not ∷ word.In ∷ word.Is ∷ word.Null ∷ word.True ∷ word.False ∷ word.Exists ∷ word.Select
    ∷ word.From ∷ word.Where ∷ []

-- those of which a meaning hangs on their place come behind them
abbrev pub words : List Word
words =
    word.And ∷ word.Or ∷ word.Not ∷ word.In ∷ word.Is ∷ word.Null ∷ word.True ∷ word.False ∷ word.Exists ∷ word.Select
    ∷ word.From ∷ word.Where
    ∷ word.As ∷ word.Auth ∷ word.Uid ∷ word.Role ∷ word.Jwt ∷ word.Unknown ∷ word.Timestamp ∷ word.With ∷ word.Without
    ∷ word.Time ∷ word.Zone
    ∷ word.Double ∷ word.Precision ∷ word.Character ∷ word.Varying ∷ []

-- the word that bytes in lower case are
abbrev pub word_of : List ℕ → Word
word_of name = unwrap_or (find (λ w. bytes_eq name (word_text w)) words) word.Other

abbrev pub is_spelled : Class → List ℕ → Bool
is_spelled (class.Sign sign.Open) bytes = bytes_eq bytes (codes "(")
is_spelled (class.Sign sign.Close) bytes = bytes_eq bytes (codes ")")
is_spelled (class.Sign sign.Comma) bytes = bytes_eq bytes (codes ",")
is_spelled (class.Sign sign.Dot) bytes = bytes_eq bytes (codes ".")
is_spelled (class.Sign sign.Colons) bytes = bytes_eq bytes (codes "::")
is_spelled (class.Sign sign.Minus) bytes = bytes_eq bytes (codes "-")
is_spelled (class.Sign sign.Star) bytes = bytes_eq bytes (codes "*")
is_spelled (class.Sign sign.LeftBracket) bytes = bytes_eq bytes (codes "[")
is_spelled (class.Sign sign.RightBracket) bytes = bytes_eq bytes (codes "]")
is_spelled (class.Sign sign.Arrow) bytes = bytes_eq bytes (codes "->>")
is_spelled (class.Compared comparison.Equal) bytes = bytes_eq bytes (codes "=")
is_spelled (class.Compared comparison.NotEqual) bytes = bytes_eq bytes (codes "<>") || bytes_eq bytes (codes "!=")
is_spelled (class.Compared comparison.Less) bytes = bytes_eq bytes (codes "<")
is_spelled (class.Compared comparison.LessOrEqual) bytes = bytes_eq bytes (codes "<=")
is_spelled (class.Compared comparison.Greater) bytes = bytes_eq bytes (codes ">")
is_spelled (class.Compared comparison.GreaterOrEqual) bytes = bytes_eq bytes (codes ">=")
is_spelled _ bytes = false

abbrev pub signs : List Class
signs =
    class.Sign sign.Open ∷ class.Sign sign.Close ∷ class.Sign sign.Comma ∷ class.Sign sign.Dot ∷ class.Sign sign.Colons
    ∷ class.Sign sign.Minus
    ∷ class.Sign sign.Star ∷ class.Sign sign.LeftBracket ∷ class.Sign sign.RightBracket ∷ class.Sign sign.Arrow ∷
    class.Compared comparison.Equal
    ∷ class.Compared comparison.NotEqual ∷ class.Compared comparison.Less ∷ class.Compared comparison.LessOrEqual ∷
    class.Compared comparison.Greater
    ∷ class.Compared comparison.GreaterOrEqual ∷ []

abbrev pub sign_of : List ℕ → Class
sign_of bytes = unwrap_or (find (λ c. is_spelled c bytes) signs) (class.Sign sign.Other)

abbrev pub class_by : TokenKind → List ℕ → Class
class_by kind.Word bytes = class.Word (word_of (str_to_ascii_lowercase bytes))
class_by kind.Quoted bytes = class.Quoted
class_by kind.Text bytes = class.Text
class_by kind.Number bytes = class.Number
class_by kind.Sign bytes = sign_of bytes

abbrev pub class_of : Lexeme → Class
class_of x = class_by x.kind x.bytes

-- of the end there is none
abbrev pub class_at : Option Lexeme → Option Class
class_at look = option_map class_of look

abbrev pub blank : Lexeme
blank = record { kind = kind.Word; bytes = [] }

abbrev pub lexeme_at : Option Lexeme → Lexeme
lexeme_at look = unwrap_or look blank

abbrev pub is_reserved : Word → Bool
is_reserved word.And = true
is_reserved word.Or = true
is_reserved word.Not = true
is_reserved word.In = true
is_reserved word.Is = true
is_reserved word.Null = true
is_reserved word.True = true
is_reserved word.False = true
is_reserved word.Exists = true
is_reserved word.Select = true
is_reserved word.From = true
is_reserved word.Where = true
is_reserved _ = false

abbrev pub is_name : Class → Bool
is_name class.Quoted = true
is_name (class.Word w) = not (is_reserved w)
is_name _ = false
