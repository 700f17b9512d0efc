-- Within an operand: what was read stands so in the grammar, a step back over a token.
use Rattle.std.proofs.Common.{◌≡◌, ℕ, inl, inr, Bool, true, false, List, ◌∷◌, codes, Option}
use Rattle.std.proofs.Common.{Some, None, refl, ap, subst, sym, ◌∙◌}
use Rattle.std.specs.Str.{bytes_eq}
use Rattle.std.proofs.lemmas.Slice.Eq.{bytes_eq-Decides}
use Rattle.rt_sql.specs.Lexeme.{Lexeme, IsKeyword, IsSign, kept_name, content}
use Rattle.rt_policy.specs.Grammar as g
use Rattle.rt_policy.specs.Grammar.{IsNameWithin, Length}
use Rattle.rt_policy.specs.Grammar.{IsTableName, IsSelected, IsAlias, Where}
use Rattle.rt_policy.specs.Words.{class_of, is_name}
use Rattle.rt_policy.specs.Parts as p
use Rattle.rt_policy.proofs.Classes.{means, name_of, keyword_name}
use Rattle.rt_policy.proofs.Rest.{Is}
use Rattle.rt_policy.proofs.Rest.{EndTail, ClaimTail, CallTail, FunctionTail, DottedTail, SourceTail}
use Rattle.rt_policy.proofs.Rest.{AliasTail, AsTail, TableNamedTail, TableTail, FromTail}
use Rattle.rt_policy.proofs.Rest.{SelectsTail, GoalTail, Met, PartTail}
use Rattle.rt_policy.specs.declared.words.Word.TheVariants as word
use Rattle.rt_policy.specs.declared.words.Sign.TheVariants as sign
use Rattle.rt_policy.specs.declared.words.Class.{Class}
use Rattle.rt_policy.specs.declared.words.Class.TheVariants as class
use Rattle.rt_policy.specs.declared.expr.Selected.{Selected}
use Rattle.rt_policy.specs.declared.expr.Selected.TheVariants as selected
use Rattle.rt_policy.specs.declared.expr.Expr.{Expr}
use Rattle.rt_policy.specs.declared.expr.Expr.TheVariants as expr
use Rattle.rt_policy.specs.declared.part.Wanted.{Wanted}
use Rattle.rt_policy.specs.declared.part.Wanted.TheVariants as wanted
use Rattle.rt_policy.specs.declared.part.Function.{Function}
use Rattle.rt_policy.specs.declared.part.Function.TheVariants as function
use Rattle.rt_policy.specs.declared.part.Source.{Source}
use Rattle.rt_policy.specs.declared.part.Goal.{Goal}
use Rattle.rt_policy.specs.declared.part.Goal.TheVariants as goal
use Rattle.rt_policy.specs.declared.part.Part.{Part}
use Rattle.rt_policy.specs.declared.part.Part.TheVariants as part
use Rattle.rt_policy.specs.declared.part.Moved.{Moved}
use Rattle.rt_policy.specs.declared.part.Moved.TheVariants as moved
use Rattle.rt_policy.proofs.FoundTypes.{Leads, Step, constant_found, minus_found, by_name_found, numbers_found}
use Rattle.rt_policy.proofs.FoundTypes.{varying_found, type_word_found, cast_found, length_found}

-- Columns and calls

name_found : (auth : Bool) (name : List ℕ) (c : Class) (x : Lexeme) (e : Expr) (zs ys : List Lexeme) → class_of x ≡ c
    → Step (p.after_name auth name (Some c)) x e zs ys → GoalTail (goal.Named auth name) e (x ∷ zs) ys
name_found auth name (class.Sign sign.Dot) x e zs ys is h = inr (x, zs, refl, means (class.Sign sign.Dot) x is, h)
name_found auth name _ x e zs ys is h = inl h

pub function_keyword : (c : Class) (x : Lexeme) (f : Function) → class_of x ≡ c
    → p.function_of (p.word_in c) ≡ Some f → IsKeyword (p.function_text f) x
function_keyword (class.Word word.Uid) x function.Uid is at = means (class.Word word.Uid) x is
function_keyword (class.Word word.Role) x function.Role is at = means (class.Word word.Role) x is
function_keyword (class.Word word.Jwt) x function.Jwt is at = means (class.Word word.Jwt) x is
function_keyword _ x f is at = absurd cc

called_name : (f : Function) (x : Lexeme) → IsKeyword (p.function_text f) x → IsNameWithin (p.function_text f) x
called_name function.Uid x h = keyword_name (codes "uid") x refl h
called_name function.Role x h = keyword_name (codes "role") x refl h
called_name function.Jwt x h = keyword_name (codes "jwt") x refl h

dot_found : (auth : Bool) (qualifier : List ℕ) (c : Class) (x : Lexeme) (e : Expr) (zs ys : List Lexeme)
    → class_of x ≡ c
    → Step (p.after_dot auth qualifier (Some c) x) x e zs ys → DottedTail auth qualifier e (x ∷ zs) ys
dot_found auth qualifier c x e zs ys is h = go auth (p.called auth (p.word_in c)) refl h
  where
    go : (a : Bool) (f : Option Function) → p.called a (p.word_in c) ≡ f
        → Step (p.called_or qualifier f (p.by_name (λ name. moved.Done (expr.Column (Some qualifier) name))
        (p.name_next (Some c) x))) x e zs ys → DottedTail a qualifier e (x ∷ zs) ys
    go a None at h = inl (by_name_found (λ name us. Is (expr.Column (Some qualifier) name) e us ys)
        (λ name. moved.Done (expr.Column (Some qualifier) name)) c x e zs ys is (λ n k. k) h)
    go true (Some f) at (inl (made, same)) =
        inl (p.function_text f, (x, zs, refl, called_name f x (function_keyword c x f is at), (made, same)))
    go true (Some f) at (inr call) = inr (refl, (f, (x, zs, refl, function_keyword c x f is at, call)))
    go false (Some f) at h = absurd cc

call_found : (f : Function) (x : Lexeme) (e : Expr) (zs ys : List Lexeme) → IsSign (codes "(") x
    → PartTail (p.call_part f) e zs ys → CallTail false f e (x ∷ zs) ys
call_found function.Uid x e zs ys left (right, us, at, is_r, h) =
    (x, zs, refl, left, (right, us, at, means (class.Sign sign.Close) right is_r, h))
call_found function.Role x e zs ys left (right, us, at, is_r, h) =
    (x, zs, refl, left, (right, us, at, means (class.Sign sign.Close) right is_r, h))
call_found function.Jwt x e zs ys left (right, us, at, is_r, (arrow, vs, at_a, is_a, h)) = (
  x,
  zs,
  refl,
  left,
  (
    right,
    us,
    at,
    means (class.Sign sign.Close) right is_r,
    (
      arrow,
      vs,
      at_a,
      means
          (class.Sign sign.Arrow) arrow is_a,
      h,
    ),
  ),
)

function_found : (f : Function) (qualifier : List ℕ) (c : Class) (x : Lexeme) (e : Expr) (zs ys : List Lexeme)
    → class_of x ≡ c
    → Step (p.after_function f qualifier (Some c)) x e zs ys → GoalTail (goal.Called f qualifier) e (x ∷ zs) ys
function_found f qualifier (class.Sign sign.Open) x e zs ys is h =
    inr (call_found f x e zs ys (means (class.Sign sign.Open) x is) h)
function_found f qualifier _ x e zs ys is h = inl h

claimed_found : (s : Bool) (v e : Expr) (x : Lexeme) (zs ys : List Lexeme) → Step (p.claimed s v) x e zs ys
    → EndTail s v e zs ys
claimed_found true v e x zs ys (right, us, at, is_r, h) = (right, us, at, means (class.Sign sign.Close) right is_r, h)
claimed_found false v e x zs ys h = h

arrow_found : (s : Bool) (c : Class) (x : Lexeme) (e : Expr) (zs ys : List Lexeme) → class_of x ≡ c
    → Step (p.after_arrow s (Some c) x) x e zs ys → ClaimTail s e (x ∷ zs) ys
arrow_found s class.Text x e zs ys is h =
    (content x, (x, zs, refl, (means class.Text x is, refl), claimed_found s (expr.Claim (content x)) e x zs ys h))
arrow_found s _ x e zs ys is h = absurd h

selected_found : (f : Function) (e : Expr) (zs ys : List Lexeme) → PartTail (p.selected_part f) e zs ys
    → CallTail true f e zs ys
selected_found function.Uid e zs ys (a, us, at_a, is_a, (b, vs, at_b, is_b, (d, ws, at_d, is_d, h))) = (
  a,
  us,
  at_a,
  means (class.Sign sign.Open) a is_a,
  (
    b,
    vs,
    at_b,
    means (class.Sign sign.Close) b is_b,
    (d, ws, at_d, means (class.Sign sign.Close) d is_d, h),
  ),
)
selected_found function.Role e zs ys (a, us, at_a, is_a, (b, vs, at_b, is_b, (d, ws, at_d, is_d, h))) = (
  a,
  us,
  at_a,
  means (class.Sign sign.Open) a is_a,
  (
    b,
    vs,
    at_b,
    means (class.Sign sign.Close) b is_b,
    (d, ws, at_d, means (class.Sign sign.Close) d is_d, h),
  ),
)
selected_found function.Jwt e zs ys (a, us, at_a, is_a, (b, vs, at_b, is_b, (d, ws, at_d, is_d, h))) = (
  a,
  us,
  at_a,
  means (class.Sign sign.Open) a is_a,
  (
    b,
    vs,
    at_b,
    means (class.Sign sign.Close) b is_b,
    (d, ws, at_d, means (class.Sign sign.Arrow) d is_d, h),
  ),
)

select_found : (c : Class) (x : Lexeme) (e : Expr) (zs ys : List Lexeme) → class_of x ≡ c
    → Step (p.after_select (Some c)) x e zs ys → FunctionTail true e (x ∷ zs) ys
select_found c x e zs ys is h = go (p.function_of (p.word_in c)) refl h
  where
    go : (f : Option Function) → p.function_of (p.word_in c) ≡ f → Step (p.selecting_function f) x e zs ys
        → FunctionTail true e (x ∷ zs) ys
    go (Some f) at h = (f, (x, zs, refl, function_keyword c x f is at, selected_found f e zs ys h))
    go None at h = absurd h

-- EXISTS

from_found : (s : Selected) (e : Expr) (zs ys : List Lexeme) → PartTail (part.One wanted.From (goal.Table s)) e zs ys
    → FromTail s e zs ys
from_found s e zs ys (x, us, at, is_x, h) = (x, us, at, means (class.Word word.From) x is_x, h)

one_found : (x : Lexeme) (e : Expr) (zs ys : List Lexeme) → class_of x ≡ class.Number
    → Step (p.one_or (bytes_eq x.bytes (codes "1")) moved.Bad) x e zs ys → SelectsTail e (x ∷ zs) ys
one_found x e zs ys is h = go (bytes_eq x.bytes (codes "1")) refl h
  where
    go : (b : Bool) → bytes_eq x.bytes (codes "1") ≡ b → Step (p.one_or b moved.Bad) x e zs ys
        → SelectsTail e (x ∷ zs) ys
    go true equal h = (
      selected.One,
      zs,
      g.the_one (
        means class.Number x is,
        (bytes_eq-Decides x.bytes
            (codes "1")).0 equal,
      ),
      from_found selected.One e zs ys h,
    )
    go false other h = absurd h

-- a column that an EXISTS selects, by its first name
column_selected : (name : List ℕ) (x : Lexeme) (e : Expr) (zs ys : List Lexeme) → IsNameWithin name x
    → GoalTail (goal.SelectsName name) e zs ys → SelectsTail e (x ∷ zs) ys
column_selected name x e zs ys named (inl more) = (selected.Column None name, zs, g.the_column (g.bare named), more)
column_selected name x e zs ys named (inr (dot, us, at, is_dot, (second, (y, vs, at_y, is_y, more)))) = (
  selected.Column (Some name) second,
  vs,
  subst (λ (qs : List Lexeme). IsSelected (selected.Column (Some name) second) (x ∷ qs) vs) (sym (at
      ∙ ap (λ (qs : List Lexeme). dot ∷ qs) at_y)) (g.the_column (g.qualified named is_dot is_y)),
  more,
)

selects_named : (c : Class) (x : Lexeme) (e : Expr) (zs ys : List Lexeme) → class_of x ≡ c
    → Step (p.by_name (λ name. p.at (goal.SelectsName name)) (p.name_next (Some c) x)) x e zs ys
    → SelectsTail e (x ∷ zs) ys
selects_named c x e zs ys is h = go (is_name c) refl h
  where
    go : (b : Bool) → is_name c ≡ b → Step (p.by_name (λ name. p.at (goal.SelectsName name))
        (p.name_if b x)) x e zs ys → SelectsTail e (x ∷ zs) ys
    go true named h = column_selected (kept_name x) x e zs ys (name_of c x is named) h
    go false unnamed h = absurd h

selects_found : (c : Class) (x : Lexeme) (e : Expr) (zs ys : List Lexeme) → class_of x ≡ c
    → Step (p.selects (Some c) x) x e zs ys → SelectsTail e (x ∷ zs) ys
selects_found class.Number x e zs ys is h = one_found x e zs ys is h
selects_found (class.Sign sign.Star) x e zs ys is h =
    (selected.All, zs, g.all_columns (means (class.Sign sign.Star) x is), from_found selected.All e zs ys h)
selects_found c x e zs ys is h = selects_named c x e zs ys is h

selected_name_found : (name : List ℕ) (c : Class) (x : Lexeme) (e : Expr) (zs ys : List Lexeme) → class_of x ≡ c
    → Step (p.after_selected_name name (Some c)) x e zs ys → GoalTail (goal.SelectsName name) e (x ∷ zs) ys
selected_name_found name (class.Sign sign.Dot) x e zs ys is h = inr (x, zs, refl, means (class.Sign sign.Dot) x is, h)
selected_name_found name (class.Word word.From) x e zs ys is h = inl (x, zs, refl, means (class.Word word.From) x is, h)
selected_name_found name _ x e zs ys is h = absurd h

source_found : (r : Source) (c : Class) (x : Lexeme) (e : Expr) (zs ys : List Lexeme) → class_of x ≡ c
    → Step (p.after_source r (Some c)) x e zs ys → SourceTail r e (x ∷ zs) ys
source_found r (class.Word word.Where) x e zs ys is (d, right, inner, last, made) =
    (Some d, right, g.where_ (means (class.Word word.Where) x is) inner, last, made)
source_found r (class.Sign sign.Close) x e zs ys is (made, same) = (
  None,
  x,
  subst (λ (qs :
      List Lexeme). Where None (x ∷ zs) (x ∷ qs)) same g.no_where,
  means (class.Sign sign.Close) x is,
  made,
)
source_found r _ x e zs ys is h = absurd h

alias_named : (s : Selected) (schema table : List ℕ) (c : Class) (x : Lexeme) (e : Expr) (zs ys : List Lexeme)
    → class_of x ≡ c
    → Step (p.alias_or s schema table (p.after_source (p.source s schema table None) (Some c)) (p.name_next
    (Some c) x)) x e zs ys → AliasTail s schema table e (x ∷ zs) ys
alias_named s schema table c x e zs ys is h = go (is_name c) refl h
  where
    go : (b : Bool) → is_name c ≡ b → Step (p.alias_or s schema table (p.after_source (p.source s schema table None)
        (Some c)) (p.name_if b x)) x e zs ys
        → AliasTail s schema table e (x ∷ zs) ys
    go true named h = (Some (kept_name x), zs, g.alias (name_of c x is named), h)
    go false unnamed h = (None, x ∷ zs, g.no_alias, source_found (p.source s schema table None) c x e zs ys is h)

-- `as` is the alias, or stands before it
as_alias : (s : Selected) (schema table : List ℕ) (x : Lexeme) (e : Expr) (zs ys : List Lexeme)
    → IsKeyword (codes "as") x → IsNameWithin (codes "as") x
    → AsTail s schema table e zs ys → AliasTail s schema table e (x ∷ zs) ys
as_alias s schema table x e zs ys is named (inl (name, (y, us, at, is_y, more))) =
    (Some name, us, subst (λ (qs : List Lexeme). IsAlias (Some name) (x ∷ qs) us) (sym at) (g.as_alias is is_y), more)
as_alias s schema table x e zs ys is named (inr more) = (Some (codes "as"), zs, g.alias named, more)

table_found : (s : Selected) (schema table : List ℕ) (c : Class) (x : Lexeme) (e : Expr) (zs ys : List Lexeme)
    → class_of x ≡ c
    → Step (p.after_table s schema table (Some c) x) x e zs ys → AliasTail s schema table e (x ∷ zs) ys
table_found s schema table (class.Word word.As) x e zs ys is h =
    let k = means (class.Word word.As) x is in as_alias s schema table x e zs ys k (keyword_name
    (codes "as") x refl k) h
table_found s schema table c x e zs ys is h = alias_named s schema table c x e zs ys is h

table_name_found : (s : Selected) (name : List ℕ) (c : Class) (x : Lexeme) (e : Expr) (zs ys : List Lexeme)
    → class_of x ≡ c
    → Step (p.after_table_name s name (Some c) x) x e zs ys → TableNamedTail s name e (x ∷ zs) ys
table_name_found s name (class.Sign sign.Dot) x e zs ys is h = inr (x, zs, refl, means (class.Sign sign.Dot) x is, h)
table_name_found s name c x e zs ys is h = inl (table_found s (codes "public") name c x e zs ys is h)

as_found : (s : Selected) (schema table : List ℕ) (c : Class) (x : Lexeme) (e : Expr) (zs ys : List Lexeme)
    → class_of x ≡ c
    → Step (p.after_as s schema table (Some c) x) x e zs ys → AsTail s schema table e (x ∷ zs) ys
as_found s schema table c x e zs ys is h = go (is_name c) refl h
  where
    go : (b : Bool) → is_name c ≡ b → Step (p.alias_or s schema table (p.after_source (p.source s schema table (Some
        (codes "as"))) (Some c)) (p.name_if b x)) x e zs ys
        → AsTail s schema table e (x ∷ zs) ys
    go true named h = inl (kept_name x, (x, zs, refl, name_of c x is named, h))
    go false unnamed h = inr (source_found (p.source s schema table (Some (codes "as"))) c x e zs ys is h)

-- a table's name, by its first name
named_table : (s : Selected) (name : List ℕ) (x : Lexeme) (e : Expr) (zs ys : List Lexeme) → IsNameWithin name x
    → TableNamedTail s name e zs ys → TableTail s e (x ∷ zs) ys
named_table s name x e zs ys named (inl more) = (codes "public", name, zs, g.in_public named, more)
named_table s name x e zs ys named (inr (dot, us, at, is_dot, (second, (y, vs, at_y, is_y, more)))) = (
  name,
  second,
  vs,
  subst (λ (qs : List Lexeme). IsTableName IsNameWithin name second (x ∷ qs) vs) (sym (at
      ∙ ap (λ (qs : List Lexeme). dot ∷ qs) at_y)) (g.in_schema named is_dot is_y),
  more,
)

table_first_found : (s : Selected) (c : Class) (x : Lexeme) (e : Expr) (zs ys : List Lexeme) → class_of x ≡ c
    → Step (p.after_from s (Some c) x) x e zs ys → TableTail s e (x ∷ zs) ys
table_first_found s c x e zs ys is h = go (is_name c) refl h
  where
    go : (b : Bool) → is_name c ≡ b → Step (p.by_name (λ name. p.at (goal.TableNamed s name))
        (p.name_if b x)) x e zs ys → TableTail s e (x ∷ zs) ys
    go true named h = named_table s (kept_name x) x e zs ys (name_of c x is named) h
    go false unnamed h = absurd h

goal_found : (q : Goal) (c : Class) (x : Lexeme) (e : Expr) (zs ys : List Lexeme) → class_of x ≡ c
    → Step (p.goal_moved q (Some c) x) x e zs ys → GoalTail q e (x ∷ zs) ys
goal_found (goal.Whole v) c x e zs ys is h = h
goal_found (goal.Constant l) c x e zs ys is h = constant_found l c x e zs ys is h
goal_found goal.Minus c x e zs ys is h = minus_found c x e zs ys is h
goal_found (goal.Cast l) c x e zs ys is h = cast_found l c x e zs ys is h
goal_found (goal.TypeWord l k name) c x e zs ys is h = type_word_found l k name c x e zs ys is h
goal_found (goal.Varying l) c x e zs ys is h = varying_found l c x e zs ys is h
goal_found (goal.Length l name) c x e zs ys is h = length_found l name c x e zs ys is h
goal_found (goal.Lengthened l name) c x e zs ys is h = numbers_found l name c x e zs ys is h
goal_found (goal.Named auth name) c x e zs ys is h = name_found auth name c x e zs ys is h
goal_found (goal.Dotted auth name) c x e zs ys is h = dot_found auth name c x e zs ys is h
goal_found (goal.Called f name) c x e zs ys is h = function_found f name c x e zs ys is h
goal_found (goal.ClaimName s) c x e zs ys is h = arrow_found s c x e zs ys is h
goal_found goal.SelectedFunction c x e zs ys is h = select_found c x e zs ys is h
goal_found goal.Selects c x e zs ys is h = selects_found c x e zs ys is h
goal_found (goal.SelectsName name) c x e zs ys is h = selected_name_found name c x e zs ys is h
goal_found (goal.SelectsDotted name) c x e zs ys is h =
    by_name_found (λ n us. FromTail (selected.Column (Some name) n) e us ys) (λ n. p.from (selected.Column
    (Some name) n)) c x e zs ys is
    (λ n k. from_found (selected.Column (Some name) n) e zs ys k) h
goal_found (goal.Table s) c x e zs ys is h = table_first_found s c x e zs ys is h
goal_found (goal.TableNamed s name) c x e zs ys is h = table_name_found s name c x e zs ys is h
goal_found (goal.TableDotted s name) c x e zs ys is h =
    by_name_found (λ n us. AliasTail s name n e us ys) (λ n. p.at (goal.Alias s name n)) c x e zs ys is (λ n k. k) h
goal_found (goal.Alias s schema table) c x e zs ys is h = table_found s schema table c x e zs ys is h
goal_found (goal.As s schema table) c x e zs ys is h = as_found s schema table c x e zs ys is h
goal_found (goal.Aliased r) c x e zs ys is h = source_found r c x e zs ys is h

-- what has to come is there
met : (a : Wanted) (c : Class) → p.meets a (Some c) ≡ true → c ≡ p.class_for a
met wanted.Number class.Number h = refl
met wanted.Open (class.Sign sign.Open) h = refl
met wanted.Close (class.Sign sign.Close) h = refl
met wanted.RightBracket (class.Sign sign.RightBracket) h = refl
met wanted.Arrow (class.Sign sign.Arrow) h = refl
met wanted.Dot (class.Sign sign.Dot) h = refl
met wanted.Auth (class.Word word.Auth) h = refl
met wanted.Select (class.Word word.Select) h = refl
met wanted.From (class.Word word.From) h = refl
met wanted.Time (class.Word word.Time) h = refl
met wanted.Zone (class.Word word.Zone) h = refl
met _ _ h = absurd cc

reached_found : (q : Goal) (x : Lexeme) (e : Expr) (zs ys : List Lexeme) → Step (p.reached q) x e zs ys
    → GoalTail q e zs ys
reached_found (goal.Whole v) x e zs ys h = h
reached_found _ x e zs ys h = h

met_found : (a : Wanted) (m : Moved) (c : Class) (x : Lexeme) (e : Expr) (zs ys : List Lexeme) → class_of x ≡ c
    → Step (p.if_met (p.meets a (Some c)) m) x e zs ys → Met a x × Step m x e zs ys
met_found a m c x e zs ys is h = go (p.meets a (Some c)) refl h
  where
    go : (b : Bool) → p.meets a (Some c) ≡ b → Step (p.if_met b m) x e zs ys → Met a x × Step m x e zs ys
    go true at h = (is ∙ met a c at, h)
    go false at h = absurd h

pub part_found : (q : Part) (x : Lexeme) (e : Expr) (zs ys : List Lexeme)
    → Leads (p.part_moved q (Some (class_of x)) x) (Some x) e zs ys → PartTail q e (x ∷ zs) ys
part_found (part.At k) x e zs ys h = goal_found k (class_of x) x e zs ys refl h
part_found (part.One a k) x e zs ys h =
    let m = met_found a (p.reached k) (class_of x) x e zs ys refl h in (x, zs, refl, m.0, reached_found k x e zs ys m.1)
part_found (part.Two a b k) x e zs ys h = let m =
    met_found a (moved.More (part.One b k)) (class_of x) x e zs ys refl h in (x, zs, refl, m.0, m.1)
part_found (part.Three a b d k) x e zs ys h = let m =
    met_found a (moved.More (part.Two b d k)) (class_of x) x e zs ys refl h in (x, zs, refl, m.0, m.1)
