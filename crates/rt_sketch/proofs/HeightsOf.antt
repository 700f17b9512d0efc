-- The height of each form, from those of its parts.
use Rattle.std.proofs.Common.{◌≡◌, ℕ, ◌+◌, max, Bool, List, [], ◌∷◌, ◌++◌, map}
use Rattle.std.proofs.Common.{Option, Some, None, refl, ap, sym, ◌∙◌, arith}
use Rattle.rt_policy.specs.Grammar.{conjunction, disjunction}
use Rattle.rt_policy.specs.Ranks.{largest}
use Rattle.rt_policy.specs.Sizes.{enclosing, enclosing_step}
use Rattle.rt_policy.specs.declared.judge.Comparison.{Comparison}
use Rattle.rt_policy.specs.declared.judge.Tested.{Tested}
use Rattle.rt_policy.specs.declared.expr.Literal.{Literal}
use Rattle.rt_policy.specs.declared.expr.TypeName.{TypeName}
use Rattle.rt_policy.specs.declared.expr.Selected.{Selected}
use Rattle.rt_policy.specs.declared.expr.Expr.{Expr}
use Rattle.rt_policy.specs.declared.expr.Expr.TheVariants as expr
use Rattle.rt_policy.specs.declared.expr.Expr.TheOpen.{Expr-F}
use Rattle.rt_policy.specs.declared.expr.Expr.TheFolds.{fold-roll-Expr}
use Rattle.rt_sketch.specs.Heights.{limited, higher, height, heights}

pub of_literal : (l : Literal) → enclosing (expr.Literal l) ≡ 0
of_literal l = ap enclosing (sym (expr.rolls-Literal l)) ∙ fold-roll-Expr ℕ enclosing_step (Expr-F.Literal l)

pub of_cast : (l : Literal) (t : TypeName) → enclosing (expr.Cast l t) ≡ 0
of_cast l t = ap enclosing (sym (expr.rolls-Cast l t)) ∙ fold-roll-Expr ℕ enclosing_step (Expr-F.Cast l t)

pub of_uid : enclosing expr.Uid ≡ 0
of_uid = ap enclosing (sym expr.rolls-Uid) ∙ fold-roll-Expr ℕ enclosing_step Expr-F.Uid

pub of_role : enclosing expr.Role ≡ 0
of_role = ap enclosing (sym expr.rolls-Role) ∙ fold-roll-Expr ℕ enclosing_step Expr-F.Role

pub of_claim : (name : List ℕ) → enclosing (expr.Claim name) ≡ 0
of_claim name = ap enclosing (sym (expr.rolls-Claim name)) ∙ fold-roll-Expr ℕ enclosing_step (Expr-F.Claim name)

pub of_column : (qualifier : Option (List ℕ)) (name : List ℕ) → enclosing (expr.Column qualifier name) ≡ 0
of_column q name =
    ap enclosing (sym (expr.rolls-Column q name)) ∙ fold-roll-Expr ℕ enclosing_step (Expr-F.Column q name)

of_group : (a : Expr) → enclosing (expr.Group a) ≡ enclosing a + 1
of_group a = ap enclosing (sym (expr.rolls-Group a)) ∙ fold-roll-Expr ℕ enclosing_step (Expr-F.Group a)

of_compare : (op : Comparison) (a b : Expr) → enclosing (expr.Compare op a b) ≡ max (enclosing a) (enclosing b)
of_compare op a b =
    ap enclosing (sym (expr.rolls-Compare op a b)) ∙ fold-roll-Expr ℕ enclosing_step (Expr-F.Compare op a b)

of_one_of : (n : Bool) (a : Expr) (items : List Expr)
    → enclosing (expr.OneOf n a items) ≡ max (enclosing a) (largest (map enclosing items) + 1)
of_one_of n a items =
    ap enclosing (sym (expr.rolls-OneOf n a items)) ∙ fold-roll-Expr ℕ enclosing_step (Expr-F.OneOf n a items)

of_not : (a : Expr) → enclosing (expr.Not a) ≡ enclosing a + 1
of_not a = ap enclosing (sym (expr.rolls-Not a)) ∙ fold-roll-Expr ℕ enclosing_step (Expr-F.Not a)

of_and : (all : List Expr) → enclosing (expr.And all) ≡ largest (map enclosing all)
of_and all = ap enclosing (sym (expr.rolls-And all)) ∙ fold-roll-Expr ℕ enclosing_step (Expr-F.And all)

of_or : (all : List Expr) → enclosing (expr.Or all) ≡ largest (map enclosing all)
of_or all = ap enclosing (sym (expr.rolls-Or all)) ∙ fold-roll-Expr ℕ enclosing_step (Expr-F.Or all)

of_is : (n : Bool) (asked : Tested) (a : Expr) → enclosing (expr.Is n asked a) ≡ enclosing a
of_is n asked a = ap enclosing (sym (expr.rolls-Is n asked a)) ∙ fold-roll-Expr ℕ enclosing_step (Expr-F.Is n asked a)

pub of_exists : (s : Selected) (schema table : List ℕ) (alias : Option (List ℕ))
    → enclosing (expr.Exists s schema table alias None) ≡ 0
of_exists s schema table alias =
    ap enclosing (sym (expr.rolls-Exists s schema table alias None))
    ∙ fold-roll-Expr ℕ enclosing_step (Expr-F.Exists s schema table alias None)

of_where : (s : Selected) (schema table : List ℕ) (alias : Option (List ℕ)) (a : Expr)
    → enclosing (expr.Exists s schema table alias (Some a)) ≡ enclosing a + 1
of_where s schema table alias a =
    ap enclosing (sym (expr.rolls-Exists s schema table alias (Some a)))
    ∙ fold-roll-Expr ℕ enclosing_step (Expr-F.Exists s schema table alias (Some a))

higher_limited : (n : ℕ) → limited (n + 1) ≡ higher (limited n)
higher_limited n = omega arith

max_limited : (m n : ℕ) → limited (max m n) ≡ max (limited m) (limited n)
max_limited m n = omega arith

heights_of : (es : List Expr) → limited (largest (map enclosing es)) ≡ heights es
heights_of [] = refl
heights_of (e ∷ es) = max_limited (enclosing e) (largest (map enclosing es)) ∙ ap (max (height e)) (heights_of es)

max_none : (m : ℕ) → max m 0 ≡ max 0 m
max_none m = omega arith

pub max_zero : (m : ℕ) → max m 0 ≡ m
max_zero m = omega arith

pub max_joins : (k m n : ℕ) → max k (max m n) ≡ max (max k m) n
max_joins k m n = omega arith

pub heights_more : (es : List Expr) (e : Expr) → heights (es ++ e ∷ []) ≡ max (heights es) (height e)
heights_more [] e = max_none (height e)
heights_more (x ∷ xs) e = ap (max (height x)) (heights_more xs e) ∙ max_joins (height x) (heights xs) (height e)

pub group_height : (a : Expr) → height (expr.Group a) ≡ higher (height a)
group_height a = ap limited (of_group a) ∙ higher_limited (enclosing a)

pub not_height : (a : Expr) → height (expr.Not a) ≡ higher (height a)
not_height a = ap limited (of_not a) ∙ higher_limited (enclosing a)

pub where_height : (s : Selected) (schema table : List ℕ) (alias : Option (List ℕ)) (a : Expr)
    → height (expr.Exists s schema table alias (Some a)) ≡ higher (height a)
where_height s schema table alias a = ap limited (of_where s schema table alias a) ∙ higher_limited (enclosing a)

pub compare_height : (op : Comparison) (a b : Expr) → height (expr.Compare op a b) ≡ max (height a) (height b)
compare_height op a b = ap limited (of_compare op a b) ∙ max_limited (enclosing a) (enclosing b)

pub one_of_height : (n : Bool) (a : Expr) (items : List Expr)
    → height (expr.OneOf n a items) ≡ max (height a) (higher (heights items))
one_of_height n a items =
    ap limited (of_one_of n a items) ∙ max_limited (enclosing a) (largest (map enclosing items) + 1)
    ∙ ap (max (height a)) (higher_limited (largest (map enclosing items)) ∙ ap higher (heights_of items))

pub is_height : (n : Bool) (asked : Tested) (a : Expr) → height (expr.Is n asked a) ≡ height a
is_height n asked a = ap limited (of_is n asked a)

pub conjunction_height : (all : List Expr) → height (conjunction all) ≡ heights all
conjunction_height [] = ap limited (of_and []) ∙ heights_of []
conjunction_height (e ∷ []) = sym (max_zero (height e))
conjunction_height (e ∷ d ∷ es) = ap limited (of_and (e ∷ d ∷ es)) ∙ heights_of (e ∷ d ∷ es)

pub disjunction_height : (all : List Expr) → height (disjunction all) ≡ heights all
disjunction_height [] = ap limited (of_or []) ∙ heights_of []
disjunction_height (e ∷ []) = sym (max_zero (height e))
disjunction_height (e ∷ d ∷ es) = ap limited (of_or (e ∷ d ∷ es)) ∙ heights_of (e ∷ d ∷ es)
