-- How the reader goes on within an operand in which no other stands, a token at a time. No class is the end of the
-- tokens.
use Rattle.std.specs.Prelude.{ℕ, Bool, true, false, cond, List, codes, Option, Some, None}
use Rattle.std.specs.Str.{bytes_eq}
use Rattle.rt_sql.specs.Lexeme.{Lexeme, kept_name, content}
use Rattle.rt_policy.specs.Words.{is_name}
use Rattle.rt_policy.specs.declared.words.Word.{Word}
use Rattle.rt_policy.specs.declared.words.Word.TheVariants as word
use Rattle.rt_policy.specs.declared.words.Sign.TheVariants as sign
use Rattle.rt_policy.specs.declared.words.Class.{Class}
use Rattle.rt_policy.specs.declared.words.Class.TheVariants as class
use Rattle.rt_policy.specs.declared.expr.Literal.{Literal}
use Rattle.rt_policy.specs.declared.expr.Literal.TheVariants as literal
use Rattle.rt_policy.specs.declared.expr.TypeName.{TypeName}
use Rattle.rt_policy.specs.declared.expr.TypeName.TheVariants as type_name
use Rattle.rt_policy.specs.declared.expr.Selected.{Selected}
use Rattle.rt_policy.specs.declared.expr.Selected.TheVariants as selected
use Rattle.rt_policy.specs.declared.expr.Expr.{Expr}
use Rattle.rt_policy.specs.declared.expr.Expr.TheVariants as expr
use Rattle.rt_policy.specs.declared.part.Wanted.{Wanted}
use Rattle.rt_policy.specs.declared.part.Wanted.TheVariants as wanted
use Rattle.rt_policy.specs.declared.part.Function.{Function}
use Rattle.rt_policy.specs.declared.part.Function.TheVariants as function
use Rattle.rt_policy.specs.declared.part.Head.{Head}
use Rattle.rt_policy.specs.declared.part.Head.TheVariants as head
use Rattle.rt_policy.specs.declared.part.Source.{Source}
use Rattle.rt_policy.specs.declared.part.Goal.{Goal}
use Rattle.rt_policy.specs.declared.part.Goal.TheVariants as goal
use Rattle.rt_policy.specs.declared.part.Part.{Part}
use Rattle.rt_policy.specs.declared.part.Part.TheVariants as part
use Rattle.rt_policy.specs.declared.part.Moved.{Moved}
use Rattle.rt_policy.specs.declared.part.Moved.TheVariants as moved

abbrev pub at : Goal → Moved
at g = moved.More (part.At g)

abbrev pub word_in : Class → Word
word_in (class.Word w) = w
word_in _ = word.Other

abbrev pub word_next : Option Class → Word
word_next (Some c) = word_in c
word_next None = word.Other

abbrev pub is_auth : Class → Bool
is_auth (class.Word word.Auth) = true
is_auth _ = false

abbrev pub name_if : Bool → Lexeme → Option (List ℕ)
name_if b x = cond b (Some (kept_name x)) None

-- the name that the token is
abbrev pub name_next : Option Class → Lexeme → Option (List ℕ)
name_next (Some c) x = name_if (is_name c) x
name_next None x = None

-- where a name leads, and nothing else leads on
abbrev pub by_name : (List ℕ → Moved) → Option (List ℕ) → Moved
by_name on (Some name) = on name
by_name on None = moved.Bad

abbrev pub begun_name : Bool → Class → Lexeme → Option Part
begun_name b c x = cond b (Some (part.At (goal.Named (is_auth c) (kept_name x)))) None

-- the first token of an operand that is neither a group nor an EXISTS
abbrev pub begin : Class → Lexeme → Option Part
begin class.Text x = Some (part.At (goal.Constant (literal.Text (content x))))
begin class.Number x = Some (part.At (goal.Constant (literal.Number false x.bytes)))
begin (class.Word word.True) x = Some (part.At (goal.Constant (literal.Truth true)))
begin (class.Word word.False) x = Some (part.At (goal.Constant (literal.Truth false)))
begin (class.Word word.Null) x = Some (part.At (goal.Constant literal.Null))
begin (class.Sign sign.Minus) x = Some (part.At goal.Minus)
begin c x = begun_name (is_name c) c x

abbrev pub after_constant : Literal → Option Class → Moved
after_constant l (Some (class.Sign sign.Colons)) = at (goal.Cast l)
after_constant l c = moved.Over (expr.Literal l)

abbrev pub after_minus : Option Class → Lexeme → Moved
after_minus (Some class.Number) x = at (goal.Constant (literal.Number true x.bytes))
after_minus c x = moved.Bad

abbrev pub head_of : Word → Head
head_of word.Timestamp = head.Timestamp
head_of word.Double = head.Double
head_of word.Character = head.Character
head_of w = head.Other

abbrev pub after_cast : Literal → Option Class → Lexeme → Moved
after_cast l c x = by_name (λ name. at (goal.TypeWord l (head_of (word_next c)) name)) (name_next c x)

abbrev pub cast_to_name : Literal → List ℕ → Bool → Expr
cast_to_name l name array = expr.Cast l (type_name.Named name array)

abbrev pub after_numbers : Literal → List ℕ → Option Class → Moved
after_numbers l name (Some (class.Sign sign.LeftBracket)) =
    moved.More (part.One wanted.RightBracket (goal.Whole (cast_to_name l name true)))
after_numbers l name c = moved.Over (cast_to_name l name false)

abbrev pub after_name_of_type : Literal → List ℕ → Option Class → Moved
after_name_of_type l name (Some (class.Sign sign.Open)) = moved.More (part.One wanted.Number (goal.Length l name))
after_name_of_type l name c = after_numbers l name c

abbrev pub zoned : Literal → TypeName → Moved
zoned l t = moved.More (part.Two wanted.Time wanted.Zone (goal.Whole (expr.Cast l t)))

abbrev pub after_timestamp : Literal → List ℕ → Option Class → Moved
after_timestamp l name (Some (class.Word word.With)) = zoned l type_name.TimestampWithTimeZone
after_timestamp l name (Some (class.Word word.Without)) = zoned l type_name.TimestampWithoutTimeZone
after_timestamp l name c = after_name_of_type l name c

abbrev pub after_double : Literal → List ℕ → Option Class → Moved
after_double l name (Some (class.Word word.Precision)) = moved.Done (expr.Cast l type_name.DoublePrecision)
after_double l name c = after_name_of_type l name c

abbrev pub after_character : Literal → List ℕ → Option Class → Moved
after_character l name (Some (class.Word word.Varying)) = at (goal.Varying l)
after_character l name c = after_name_of_type l name c

abbrev pub after_type_word : Literal → Head → List ℕ → Option Class → Moved
after_type_word l head.Timestamp name c = after_timestamp l name c
after_type_word l head.Double name c = after_double l name c
after_type_word l head.Character name c = after_character l name c
after_type_word l head.Other name c = after_name_of_type l name c

abbrev pub after_varying : Literal → Option Class → Moved
after_varying l (Some (class.Sign sign.Open)) =
    moved.More (part.Two wanted.Number wanted.Close (goal.Whole (expr.Cast l type_name.CharacterVarying)))
after_varying l c = moved.Over (expr.Cast l type_name.CharacterVarying)

abbrev pub after_length : Literal → List ℕ → Option Class → Moved
after_length l name (Some (class.Sign sign.Comma)) =
    moved.More (part.Two wanted.Number wanted.Close (goal.Lengthened l name))
after_length l name (Some (class.Sign sign.Close)) = at (goal.Lengthened l name)
after_length l name c = moved.Bad

abbrev pub after_name : Bool → List ℕ → Option Class → Moved
after_name auth name (Some (class.Sign sign.Dot)) = at (goal.Dotted auth name)
after_name auth name c = moved.Over (expr.Column None name)

abbrev pub function_of : Word → Option Function
function_of word.Uid = Some function.Uid
function_of word.Role = Some function.Role
function_of word.Jwt = Some function.Jwt
function_of w = None

abbrev pub called : Bool → Word → Option Function
called true w = function_of w
called false w = None

abbrev pub function_text : Function → List ℕ
function_text function.Uid = codes "uid"
function_text function.Role = codes "role"
function_text function.Jwt = codes "jwt"

abbrev pub called_or : List ℕ → Option Function → Moved → Moved
called_or qualifier (Some f) other = at (goal.Called f qualifier)
called_or qualifier None other = other

abbrev pub after_dot : Bool → List ℕ → Option Class → Lexeme → Moved
after_dot auth qualifier c x =
    called_or qualifier (called auth (word_next c)) (by_name (λ name. moved.Done (expr.Column (Some qualifier) name))
    (name_next c x))

abbrev pub call_part : Function → Part
call_part function.Uid = part.One wanted.Close (goal.Whole expr.Uid)
call_part function.Role = part.One wanted.Close (goal.Whole expr.Role)
call_part function.Jwt = part.Two wanted.Close wanted.Arrow (goal.ClaimName false)

abbrev pub after_function : Function → List ℕ → Option Class → Moved
after_function f qualifier (Some (class.Sign sign.Open)) = moved.More (call_part f)
after_function f qualifier c = moved.Over (expr.Column (Some qualifier) (function_text f))

abbrev pub claimed : Bool → Expr → Moved
claimed true e = moved.More (part.One wanted.Close (goal.Whole e))
claimed false e = moved.Done e

abbrev pub after_arrow : Bool → Option Class → Lexeme → Moved
after_arrow selects (Some class.Text) x = claimed selects (expr.Claim (content x))
after_arrow selects c x = moved.Bad

abbrev pub selected_part : Function → Part
selected_part function.Uid = part.Three wanted.Open wanted.Close wanted.Close (goal.Whole expr.Uid)
selected_part function.Role = part.Three wanted.Open wanted.Close wanted.Close (goal.Whole expr.Role)
selected_part function.Jwt = part.Three wanted.Open wanted.Close wanted.Arrow (goal.ClaimName true)

abbrev pub selecting_function : Option Function → Moved
selecting_function (Some f) = moved.More (selected_part f)
selecting_function None = moved.Bad

abbrev pub after_select : Option Class → Moved
after_select c = selecting_function (function_of (word_next c))

abbrev pub from : Selected → Moved
from s = moved.More (part.One wanted.From (goal.Table s))

abbrev pub one_or : Bool → Moved → Moved
one_or true other = from selected.One
one_or false other = other

abbrev pub selects : Option Class → Lexeme → Moved
selects (Some class.Number) x = one_or (bytes_eq x.bytes (codes "1")) moved.Bad
selects (Some (class.Sign sign.Star)) x = from selected.All
selects c x = by_name (λ name. at (goal.SelectsName name)) (name_next c x)

abbrev pub after_selected_name : List ℕ → Option Class → Moved
after_selected_name name (Some (class.Sign sign.Dot)) = at (goal.SelectsDotted name)
after_selected_name name (Some (class.Word word.From)) = at (goal.Table (selected.Column None name))
after_selected_name name c = moved.Bad

abbrev pub after_selected_dot : List ℕ → Option Class → Lexeme → Moved
after_selected_dot qualifier c x = by_name (λ name. from (selected.Column (Some qualifier) name)) (name_next c x)

abbrev pub after_from : Selected → Option Class → Lexeme → Moved
after_from s c x = by_name (λ name. at (goal.TableNamed s name)) (name_next c x)

abbrev pub after_schema_dot : Selected → List ℕ → Option Class → Lexeme → Moved
after_schema_dot s schema c x = by_name (λ name. at (goal.Alias s schema name)) (name_next c x)

abbrev pub source : Selected → List ℕ → List ℕ → Option (List ℕ) → Source
source s schema table alias = record { selected = s; schema = schema; table = table; alias = alias }

-- an EXISTS on a source
abbrev pub exists_of : Source → Option Expr → Expr
exists_of r condition = expr.Exists r.selected r.schema r.table r.alias condition

abbrev pub after_source : Source → Option Class → Moved
after_source r (Some (class.Word word.Where)) = moved.Condition r
after_source r (Some (class.Sign sign.Close)) = moved.Done (exists_of r None)
after_source r c = moved.Bad

abbrev pub alias_or : Selected → List ℕ → List ℕ → Moved → Option (List ℕ) → Moved
alias_or s schema table other (Some name) = at (goal.Aliased (source s schema table (Some name)))
alias_or s schema table other None = other

abbrev pub after_table : Selected → List ℕ → List ℕ → Option Class → Lexeme → Moved
after_table s schema table (Some (class.Word word.As)) x = at (goal.As s schema table)
after_table s schema table c x = alias_or s schema table (after_source (source s schema table None) c) (name_next c x)

abbrev pub after_table_name : Selected → List ℕ → Option Class → Lexeme → Moved
after_table_name s name (Some (class.Sign sign.Dot)) x = at (goal.TableDotted s name)
after_table_name s name c x = after_table s (codes "public") name c x

-- behind `as` without a name `as` is the alias
abbrev pub after_as : Selected → List ℕ → List ℕ → Option Class → Lexeme → Moved
after_as s schema table c x =
    alias_or s schema table (after_source (source s schema table (Some (codes "as"))) c) (name_next c x)

abbrev pub goal_moved : Goal → Option Class → Lexeme → Moved
goal_moved (goal.Whole e) c x = moved.Over e
goal_moved (goal.Constant l) c x = after_constant l c
goal_moved goal.Minus c x = after_minus c x
goal_moved (goal.Cast l) c x = after_cast l c x
goal_moved (goal.TypeWord l h name) c x = after_type_word l h name c
goal_moved (goal.Varying l) c x = after_varying l c
goal_moved (goal.Length l name) c x = after_length l name c
goal_moved (goal.Lengthened l name) c x = after_numbers l name c
goal_moved (goal.Named auth name) c x = after_name auth name c
goal_moved (goal.Dotted auth name) c x = after_dot auth name c x
goal_moved (goal.Called f qualifier) c x = after_function f qualifier c
goal_moved (goal.ClaimName s) c x = after_arrow s c x
goal_moved goal.SelectedFunction c x = after_select c
goal_moved goal.Selects c x = selects c x
goal_moved (goal.SelectsName name) c x = after_selected_name name c
goal_moved (goal.SelectsDotted name) c x = after_selected_dot name c x
goal_moved (goal.Table s) c x = after_from s c x
goal_moved (goal.TableNamed s name) c x = after_table_name s name c x
goal_moved (goal.TableDotted s name) c x = after_schema_dot s name c x
goal_moved (goal.Alias s schema table) c x = after_table s schema table c x
goal_moved (goal.As s schema table) c x = after_as s schema table c x
goal_moved (goal.Aliased r) c x = after_source r c

-- a goal behind the last class that had to come before it
abbrev pub reached : Goal → Moved
reached (goal.Whole e) = moved.Done e
reached g = at g

-- the class that has to come
abbrev pub class_for : Wanted → Class
class_for wanted.Number = class.Number
class_for wanted.Open = class.Sign sign.Open
class_for wanted.Close = class.Sign sign.Close
class_for wanted.RightBracket = class.Sign sign.RightBracket
class_for wanted.Arrow = class.Sign sign.Arrow
class_for wanted.Dot = class.Sign sign.Dot
class_for wanted.Auth = class.Word word.Auth
class_for wanted.Select = class.Word word.Select
class_for wanted.From = class.Word word.From
class_for wanted.Time = class.Word word.Time
class_for wanted.Zone = class.Word word.Zone

abbrev pub meets : Wanted → Option Class → Bool
meets wanted.Number (Some class.Number) = true
meets wanted.Open (Some (class.Sign sign.Open)) = true
meets wanted.Close (Some (class.Sign sign.Close)) = true
meets wanted.RightBracket (Some (class.Sign sign.RightBracket)) = true
meets wanted.Arrow (Some (class.Sign sign.Arrow)) = true
meets wanted.Dot (Some (class.Sign sign.Dot)) = true
meets wanted.Auth (Some (class.Word word.Auth)) = true
meets wanted.Select (Some (class.Word word.Select)) = true
meets wanted.From (Some (class.Word word.From)) = true
meets wanted.Time (Some (class.Word word.Time)) = true
meets wanted.Zone (Some (class.Word word.Zone)) = true
meets _ _ = false

abbrev pub if_met : Bool → Moved → Moved
if_met true on = on
if_met false on = moved.Bad

-- where the next token leads in an operand
abbrev pub part_moved : Part → Option Class → Lexeme → Moved
part_moved (part.At g) c x = goal_moved g c x
part_moved (part.One a g) c x = if_met (meets a c) (reached g)
part_moved (part.Two a b g) c x = if_met (meets a c) (moved.More (part.One b g))
part_moved (part.Three a b d g) c x = if_met (meets a c) (moved.More (part.Two b d g))

-- behind `(`, where SELECT comes
abbrev pub selecting : Part
selecting = part.Two wanted.Auth wanted.Dot goal.SelectedFunction

-- behind EXISTS
abbrev pub existing : Part
existing = part.Two wanted.Open wanted.Select goal.Selects
