-- What is read within an operand encloses nothing.
use Rattle.std.proofs.Common.{◌≡◌, ℕ, Bool, true, false, List, codes, Option, Some, None}
use Rattle.std.specs.Str.{bytes_eq}
use Rattle.rt_sql.specs.Lexeme.{Lexeme}
use Rattle.rt_policy.specs.Sizes.{enclosing}
use Rattle.rt_policy.specs.Words.{is_name}
use Rattle.rt_policy.specs.Parts as p
use Rattle.rt_policy.specs.declared.words.Word.TheVariants as word
use Rattle.rt_policy.specs.declared.words.Sign.TheVariants as sign
use Rattle.rt_policy.specs.declared.words.Class.{Class}
use Rattle.rt_policy.specs.declared.words.Class.TheVariants as class
use Rattle.rt_policy.specs.declared.expr.Expr.{Expr}
use Rattle.rt_policy.specs.declared.expr.Expr.TheVariants as expr
use Rattle.rt_policy.specs.declared.part.Function.{Function}
use Rattle.rt_policy.specs.declared.part.Function.TheVariants as function
use Rattle.rt_policy.specs.declared.part.Head.TheVariants as head
use Rattle.rt_policy.specs.declared.part.Goal.{Goal}
use Rattle.rt_policy.specs.declared.part.Goal.TheVariants as goal
use Rattle.rt_policy.specs.declared.part.Part.{Part}
use Rattle.rt_policy.specs.declared.part.Part.TheVariants as part
use Rattle.rt_policy.specs.declared.part.Moved.{Moved}
use Rattle.rt_policy.specs.declared.part.Moved.TheVariants as moved
use Rattle.rt_sketch.specs.Sketched.{IsLeafGoal, IsLeafPart}
use Rattle.rt_sketch.proofs.HeightsOf.{of_literal, of_cast, of_uid, of_role, of_claim, of_column, of_exists}

abbrev pub IsLeafMoved : Moved → Type 0
IsLeafMoved (moved.More q) = IsLeafPart q
IsLeafMoved (moved.Done e) = enclosing e ≡ 0
IsLeafMoved (moved.Over e) = enclosing e ≡ 0
IsLeafMoved (moved.Condition r) = Unit {0}
IsLeafMoved moved.Bad = Unit {0}

constant_leaf : (l : _) (c : Option Class) → IsLeafMoved (p.after_constant l c)
constant_leaf l (Some (class.Sign sign.Colons)) = tt
constant_leaf l _ = of_literal l

minus_leaf : (c : Option Class) (x : Lexeme) → IsLeafMoved (p.after_minus c x)
minus_leaf (Some class.Number) x = tt
minus_leaf _ x = tt

name_leaf : (on : List ℕ → Moved) (name : Option (List ℕ)) → ((n : List ℕ) → IsLeafMoved (on n))
    → IsLeafMoved (p.by_name on name)
name_leaf on (Some n) goes = goes n
name_leaf on None goes = tt

numbers_leaf : (l : _) (name : List ℕ) (c : Option Class) → IsLeafMoved (p.after_numbers l name c)
numbers_leaf l name (Some (class.Sign sign.LeftBracket)) = of_cast l _
numbers_leaf l name _ = of_cast l _

type_leaf : (l : _) (name : List ℕ) (c : Option Class) → IsLeafMoved (p.after_name_of_type l name c)
type_leaf l name (Some (class.Sign sign.Open)) = tt
type_leaf l name c = numbers_leaf l name c

word_leaf : (l : _) (h : _) (name : List ℕ) (c : Option Class) → IsLeafMoved (p.after_type_word l h name c)
word_leaf l head.Timestamp name (Some (class.Word word.With)) = of_cast l _
word_leaf l head.Timestamp name (Some (class.Word word.Without)) = of_cast l _
word_leaf l head.Double name (Some (class.Word word.Precision)) = of_cast l _
word_leaf l head.Character name (Some (class.Word word.Varying)) = tt
word_leaf l head.Timestamp name c = type_leaf l name c
word_leaf l head.Double name c = type_leaf l name c
word_leaf l head.Character name c = type_leaf l name c
word_leaf l head.Other name c = type_leaf l name c

varying_leaf : (l : _) (c : Option Class) → IsLeafMoved (p.after_varying l c)
varying_leaf l (Some (class.Sign sign.Open)) = of_cast l _
varying_leaf l _ = of_cast l _

length_leaf : (l : _) (name : List ℕ) (c : Option Class) → IsLeafMoved (p.after_length l name c)
length_leaf l name (Some (class.Sign sign.Comma)) = tt
length_leaf l name (Some (class.Sign sign.Close)) = tt
length_leaf l name _ = tt

column_leaf : (auth : Bool) (name : List ℕ) (c : Option Class) → IsLeafMoved (p.after_name auth name c)
column_leaf auth name (Some (class.Sign sign.Dot)) = tt
column_leaf auth name _ = of_column None name

called_leaf : (q : List ℕ) (f : Option Function) (m : Moved) → IsLeafMoved m → IsLeafMoved (p.called_or q f m)
called_leaf q (Some f) m h = tt
called_leaf q None m h = h

dot_leaf : (auth : Bool) (q : List ℕ) (c : Option Class) (x : Lexeme) → IsLeafMoved (p.after_dot auth q c x)
dot_leaf auth q c x =
    called_leaf q (p.called auth (p.word_next c)) _
    (name_leaf (λ name. moved.Done (expr.Column (Some q) name)) (p.name_next c x) (λ n. of_column (Some q) n))

call_leaf : (f : Function) → IsLeafPart (p.call_part f)
call_leaf function.Uid = of_uid
call_leaf function.Role = of_role
call_leaf function.Jwt = tt

function_leaf : (f : Function) (q : List ℕ) (c : Option Class) → IsLeafMoved (p.after_function f q c)
function_leaf f q (Some (class.Sign sign.Open)) = call_leaf f
function_leaf f q _ = of_column (Some q) _

claimed_leaf : (s : Bool) (e : Expr) → enclosing e ≡ 0 → IsLeafMoved (p.claimed s e)
claimed_leaf true e h = h
claimed_leaf false e h = h

arrow_leaf : (s : Bool) (c : Option Class) (x : Lexeme) → IsLeafMoved (p.after_arrow s c x)
arrow_leaf s (Some class.Text) x = claimed_leaf s _ (of_claim _)
arrow_leaf s _ x = tt

selected_leaf : (f : Function) → IsLeafPart (p.selected_part f)
selected_leaf function.Uid = of_uid
selected_leaf function.Role = of_role
selected_leaf function.Jwt = tt

selecting_leaf : (f : Option Function) → IsLeafMoved (p.selecting_function f)
selecting_leaf (Some f) = selected_leaf f
selecting_leaf None = tt

one_leaf : (b : Bool) → IsLeafMoved (p.one_or b moved.Bad)
one_leaf true = tt
one_leaf false = tt

selects_leaf : (c : Option Class) (x : Lexeme) → IsLeafMoved (p.selects c x)
selects_leaf (Some class.Number) x = one_leaf (bytes_eq x.bytes (codes "1"))
selects_leaf (Some (class.Sign sign.Star)) x = tt
selects_leaf c x = name_leaf (λ name. p.at (goal.SelectsName name)) (p.name_next c x) (λ n. tt)

selected_name_leaf : (name : List ℕ) (c : Option Class) → IsLeafMoved (p.after_selected_name name c)
selected_name_leaf name (Some (class.Sign sign.Dot)) = tt
selected_name_leaf name (Some (class.Word word.From)) = tt
selected_name_leaf name _ = tt

source_leaf : (r : _) (c : Option Class) → IsLeafMoved (p.after_source r c)
source_leaf r (Some (class.Word word.Where)) = tt
source_leaf r (Some (class.Sign sign.Close)) = of_exists r.selected r.schema r.table r.alias
source_leaf r _ = tt

alias_leaf : (s : _) (schema table : List ℕ) (m : Moved) (name : Option (List ℕ)) → IsLeafMoved m
    → IsLeafMoved (p.alias_or s schema table m name)
alias_leaf s schema table m (Some name) h = tt
alias_leaf s schema table m None h = h

table_leaf : (s : _) (schema table : List ℕ) (c : Option Class) (x : Lexeme)
    → IsLeafMoved (p.after_table s schema table c x)
table_leaf s schema table (Some (class.Word word.As)) x = tt
table_leaf s schema table c x =
    alias_leaf s schema table (p.after_source (p.source s schema table None) c) (p.name_next c x)
    (source_leaf (p.source s schema table None) c)

table_name_leaf : (s : _) (name : List ℕ) (c : Option Class) (x : Lexeme)
    → IsLeafMoved (p.after_table_name s name c x)
table_name_leaf s name (Some (class.Sign sign.Dot)) x = tt
table_name_leaf s name c x = table_leaf s (codes "public") name c x

goal_leaf : (g : Goal) (c : Option Class) (x : Lexeme) → IsLeafGoal g → IsLeafMoved (p.goal_moved g c x)
goal_leaf (goal.Whole e) c x h = h
goal_leaf (goal.Constant l) c x h = constant_leaf l c
goal_leaf goal.Minus c x h = minus_leaf c x
goal_leaf (goal.Cast l) c x h =
    name_leaf (λ name. p.at (goal.TypeWord l (p.head_of (p.word_next c)) name)) (p.name_next c x) (λ n. tt)
goal_leaf (goal.TypeWord l k name) c x h = word_leaf l k name c
goal_leaf (goal.Varying l) c x h = varying_leaf l c
goal_leaf (goal.Length l name) c x h = length_leaf l name c
goal_leaf (goal.Lengthened l name) c x h = numbers_leaf l name c
goal_leaf (goal.Named auth name) c x h = column_leaf auth name c
goal_leaf (goal.Dotted auth name) c x h = dot_leaf auth name c x
goal_leaf (goal.Called f q) c x h = function_leaf f q c
goal_leaf (goal.ClaimName s) c x h = arrow_leaf s c x
goal_leaf goal.SelectedFunction c x h = selecting_leaf (p.function_of (p.word_next c))
goal_leaf goal.Selects c x h = selects_leaf c x
goal_leaf (goal.SelectsName name) c x h = selected_name_leaf name c
goal_leaf (goal.SelectsDotted q) c x h = name_leaf (λ name. p.from _) (p.name_next c x) (λ n. tt)
goal_leaf (goal.Table s) c x h = name_leaf (λ name. p.at (goal.TableNamed s name)) (p.name_next c x) (λ n. tt)
goal_leaf (goal.TableNamed s name) c x h = table_name_leaf s name c x
goal_leaf (goal.TableDotted s schema) c x h =
    name_leaf (λ name. p.at (goal.Alias s schema name)) (p.name_next c x) (λ n. tt)
goal_leaf (goal.Alias s schema table) c x h = table_leaf s schema table c x
goal_leaf (goal.As s schema table) c x h =
    alias_leaf s schema table _ (p.name_next c x) (source_leaf (p.source s schema table (Some (codes "as"))) c)
goal_leaf (goal.Aliased r) c x h = source_leaf r c

reached_leaf : (g : Goal) → IsLeafGoal g → IsLeafMoved (p.reached g)
reached_leaf (goal.Whole e) h = h
reached_leaf _ h = tt

met_leaf : (b : Bool) (m : Moved) → IsLeafMoved m → IsLeafMoved (p.if_met b m)
met_leaf true m h = h
met_leaf false m h = tt

pub part_leaf : (q : Part) (c : Option Class) (x : Lexeme) → IsLeafPart q → IsLeafMoved (p.part_moved q c x)
part_leaf (part.At g) c x h = goal_leaf g c x h
part_leaf (part.One a g) c x h = met_leaf (p.meets a c) (p.reached g) (reached_leaf g h)
part_leaf (part.Two a b g) c x h = met_leaf (p.meets a c) (moved.More (part.One b g)) h
part_leaf (part.Three a b d g) c x h = met_leaf (p.meets a c) (moved.More (part.Two b d g)) h

-- the first part
abbrev pub IsLeafBegun : Option Part → Type 0
IsLeafBegun (Some q) = IsLeafPart q
IsLeafBegun None = Unit {0}

named_leaf : (b : Bool) (c : Class) (x : Lexeme) → IsLeafBegun (p.begun_name b c x)
named_leaf true c x = tt
named_leaf false c x = tt

pub begin_leaf : (c : Class) (x : Lexeme) → IsLeafBegun (p.begin c x)
begin_leaf class.Text x = tt
begin_leaf class.Number x = tt
begin_leaf (class.Word word.True) x = tt
begin_leaf (class.Word word.False) x = tt
begin_leaf (class.Word word.Null) x = tt
begin_leaf (class.Sign sign.Minus) x = tt
begin_leaf c x = named_leaf (is_name c) c x
