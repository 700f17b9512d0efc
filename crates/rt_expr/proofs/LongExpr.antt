-- The same of expressions.
use Rattle.std.proofs.Common.{◌≡◌, ℕ, Bool, true, false, ◌||◌, List, [], ◌∷◌, ◌++◌, map, Option, Some, None}
use Rattle.std.proofs.Common.{refl, ap, sym, ◌∙◌}
use Rattle.std.specs.List.{list_any, flat_map}
use Rattle.std.proofs.lemmas.List.Folds.{list_any-append}
use Rattle.std.proofs.Math.Bool.{or_assoc, or-false}
use Rattle.rt_sql.specs.Lexeme.{Lexeme}
use Rattle.rt_policy.specs.Grammar as g
use Rattle.rt_policy.specs.Grammar.{IsNameWithin, IsCall, IsColumn, IsTableName, IsSelected, IsAlias}
use Rattle.rt_policy.specs.Grammar.{IsExpr, Ors, IsConjunction, Ands, IsNegation, TestedBy, Related, Items}
use Rattle.rt_policy.specs.Grammar.{IsOperand, Where, conjunction, disjunction}
use Rattle.rt_policy.specs.Sizes.{names_in, names_step, names_of_option, names_of_selected, is_long, has_long_name}
use Rattle.rt_policy.specs.declared.judge.Comparison.{Comparison}
use Rattle.rt_policy.specs.declared.expr.Selected.{Selected}
use Rattle.rt_policy.specs.declared.expr.Expr.{Expr}
use Rattle.rt_policy.specs.declared.expr.Expr.TheVariants as expr
use Rattle.rt_policy.specs.declared.expr.Expr.TheOpen.{Expr-F}
use Rattle.rt_policy.specs.declared.expr.Expr.TheFolds.{fold-roll-Expr}
use Rattle.rt_expr.proofs.Long.{any_long, Names, Of, keyword_is, sign_is, asked_is, comparison_is, text_is}
use Rattle.rt_expr.proofs.Long.{number_is, skip, type_of, literal_bare, auth_bare, named}
use Rattle.rt_expr.proofs.Long.{long_literal, long_cast, long_uid, long_role, long_claim, long_column, long_group}
use Rattle.rt_expr.proofs.Long.{long_compare, long_one_of, long_not, long_and, long_or, long_is}

-- a front with or without a long name
abbrev Says : Bool → List Lexeme → List Lexeme → Type 0
Says b xs ys = any_long xs ≡ (b || any_long ys)

long_of : (e : Expr) (names : Names) → names_in e ≡ names → has_long_name e ≡ list_any is_long names
long_of e names h = ap (list_any is_long) h

any_in : List Expr → Bool
any_in [] = false
any_in (e ∷ es) = has_long_name e || any_in es

any_all : (es : List Expr) → list_any is_long (flat_map (λ v. v) (map names_in es)) ≡ any_in es
unfolding any_in
any_all [] = refl
any_all (e ∷ es) =
    list_any-append is_long (names_in e) (flat_map (λ v. v) (map names_in es))
    ∙ ap (λ b. has_long_name e || b) (any_all es)

any_more : (es : List Expr) (e : Expr) → any_in (es ++ e ∷ []) ≡ (any_in es || has_long_name e)
unfolding any_in
any_more [] e = or-false (has_long_name e)
any_more (x ∷ xs) e =
    ap (λ b. has_long_name x || b) (any_more xs e)
    ∙ sym (or_assoc (has_long_name x) (any_in xs) (has_long_name e))

any_one : (e : Expr) → any_in (e ∷ []) ≡ has_long_name e
unfolding any_in
any_one e = or-false (has_long_name e)

conjunction_long : (all : List Expr) → has_long_name (conjunction all) ≡ any_in all
conjunction_long [] = long_of _ _ (long_and []) ∙ any_all []
conjunction_long (e ∷ []) = sym (any_one e)
conjunction_long (e ∷ d ∷ es) = long_of _ _ (long_and (e ∷ d ∷ es)) ∙ any_all (e ∷ d ∷ es)

disjunction_long : (all : List Expr) → has_long_name (disjunction all) ≡ any_in all
disjunction_long [] = long_of _ _ (long_or []) ∙ any_all []
disjunction_long (e ∷ []) = sym (any_one e)
disjunction_long (e ∷ d ∷ es) = long_of _ _ (long_or (e ∷ d ∷ es)) ∙ any_all (e ∷ d ∷ es)

compare_long : (op : Comparison) (a b : Expr)
    → has_long_name (expr.Compare op a b) ≡ (has_long_name a || has_long_name b)
compare_long op a b = long_of _ _ (long_compare op a b) ∙ list_any-append is_long (names_in a) (names_in b)

one_of_long : (n : Bool) (a : Expr) (items : List Expr)
    → has_long_name (expr.OneOf n a items) ≡ (has_long_name a || any_in items)
one_of_long n a items =
    long_of _ _ (long_one_of n a items)
    ∙ list_any-append is_long (names_in a) (flat_map (λ v. v) (map names_in items))
    ∙ ap (λ b. has_long_name a || b) (any_all items)

-- the form's own in front
formed : {a b : Bool} (xs ys : List Lexeme) → Says a xs ys → b ≡ a → Says b xs ys
formed xs ys h is = h ∙ ap (λ v. v || any_long ys) (sym is)

call_of : {e : Expr} {xs ys : List Lexeme} → IsCall e xs ys → Says (has_long_name e) xs ys
call_of (g.uid {xs = xs} {ys = ys} h) = formed {a = false} xs ys (auth_bare h refl) (long_of _ _ long_uid)
call_of (g.role {xs = xs} {ys = ys} h) = formed {a = false} xs ys (auth_bare h refl) (long_of _ _ long_role)
call_of (g.jwt {name = name} {arrow = w} {x = x} {xs = xs} {ys = ys} h a t) =
    formed {a = false} xs ys (auth_bare h refl ∙ skip w (x ∷ ys) (sign_is _ w a) ∙ skip x ys (text_is name x t))
    (long_of _ _ (long_claim name))

column_of : {q : Option (List ℕ)} {name : List ℕ} {xs ys : List Lexeme} → IsColumn q name xs ys
    → Of (names_of_option q ++ name ∷ []) xs ys
column_of (g.bare {name = name} {x = x} {xs = xs} n) =
    named name x xs n ∙ ap (λ b. b || any_long xs) (sym (or-false (is_long name)))
column_of (g.qualified {qualifier = q} {name = name} {x = x} {dot = d} {y = y} {xs = xs} n s m) =
    named q x (d ∷ y ∷ xs) n ∙ ap (λ b. is_long q || b) (skip d (y ∷ xs) (sign_is _ d s) ∙ named name y xs m
    ∙ ap (λ b. b || any_long xs) (sym (or-false (is_long name))))
    ∙ sym (or_assoc (is_long q) (is_long name || false) (any_long xs))

selected_of : {s : Selected} {xs ys : List Lexeme} → IsSelected s xs ys → Of (names_of_selected s) xs ys
selected_of (g.the_one {x = x} {xs = xs} n) = skip x xs (number_is _ x n)
selected_of (g.all_columns {x = x} {xs = xs} s) = skip x xs (sign_is _ x s)
selected_of (g.the_column c) = column_of c

table_of : {schema table : List ℕ} {xs ys : List Lexeme} → IsTableName IsNameWithin schema table xs ys
    → any_long xs ≡ (is_long schema || (is_long table || any_long ys))
table_of (g.in_public {name = name} {x = x} {xs = xs} n) = named name x xs n
table_of (g.in_schema {schema = q} {name = name} {x = x} {dot = d} {y = y} {xs = xs} n s m) =
    named q x (d ∷ y ∷ xs) n ∙ ap (λ b. is_long q || b) (skip d (y ∷ xs) (sign_is _ d s) ∙ named name y xs m)

alias_of : {alias : Option (List ℕ)} {xs ys : List Lexeme} → IsAlias alias xs ys → Of (names_of_option alias) xs ys
alias_of g.no_alias = refl
alias_of (g.alias {name = name} {x = x} {xs = xs} n) =
    named name x xs n ∙ ap (λ b. b || any_long xs) (sym (or-false (is_long name)))
alias_of (g.as_alias {name = name} {x = x} {y = y} {xs = xs} k n) =
    skip x (y ∷ xs) (keyword_is _ x k) ∙ named name y xs n ∙ ap (λ b. b || any_long xs) (sym (or-false (is_long name)))

where_long : Option Expr → Bool
where_long None = false
where_long (Some e) = has_long_name e

exists_long : (s : Selected) (schema table : List ℕ) (alias : Option (List ℕ)) (c : Option Expr)
    → has_long_name (expr.Exists s schema table alias c)
    ≡ ((list_any is_long (names_of_selected s)
    || (is_long schema || (is_long table || list_any is_long (names_of_option alias)))) || where_long c)
unfolding where_long
exists_long s schema table alias None =
    long_of _ _ (ap names_in (sym (expr.rolls-Exists s schema table alias None))
    ∙ fold-roll-Expr Names names_step (Expr-F.Exists s schema table alias None))
    ∙ list_any-append is_long (names_of_selected s ++ schema ∷ table ∷ names_of_option alias) []
    ∙ ap (λ b. b || false) (list_any-append is_long (names_of_selected s) (schema ∷ table ∷ names_of_option alias))
exists_long s schema table alias (Some e) =
    long_of _ _ (ap names_in (sym (expr.rolls-Exists s schema table alias (Some e)))
    ∙ fold-roll-Expr Names names_step (Expr-F.Exists s schema table alias (Some e)))
    ∙ list_any-append is_long (names_of_selected s ++ schema ∷ table ∷ names_of_option alias) (names_in e)
    ∙ ap (λ b. b || has_long_name e)
    (list_any-append is_long (names_of_selected s) (schema ∷ table ∷ names_of_option alias))

regroup : (a b c d e f : Bool)
    → (a || (b || (c || (d || (e || f))))) ≡ (((a || (b || (c || d))) || e) || f)
regroup true b c d e f = refl
regroup false true c d e f = refl
regroup false false true d e f = refl
regroup false false false true e f = refl
regroup false false false false e f = refl

mutual
  unfolding where_long

  expr_of : {i : Bool} {e : Expr} {xs ys : List Lexeme} → IsExpr i e xs ys → Says (has_long_name e) xs ys
  expr_of (g.ors {c = c} {ys = ys} h more) =
      conjunction_of h ∙ ap (λ b. b || any_long ys) (sym (any_one c)) ∙ sym (ors_of more)

  ors_of : {i : Bool} {before : List Expr} {e : Expr} {xs ys : List Lexeme} → Ors i before e xs ys
      → (has_long_name e || any_long ys) ≡ (any_in before || any_long xs)
  ors_of (g.or_end {before = before} {xs = xs}) = ap (λ b. b || any_long xs) (disjunction_long before)
  ors_of (g.or_more {before = before} {c = c} {x = x} {xs = xs} {ys = ys} k h more) =
      ors_of more ∙ ap (λ b. b || any_long ys) (any_more before c)
      ∙ or_assoc (any_in before) (has_long_name c) (any_long ys)
      ∙ ap (λ b. any_in before || b) (sym (conjunction_of h) ∙ sym (skip x xs (keyword_is _ x k)))

  conjunction_of : {i : Bool} {e : Expr} {xs ys : List Lexeme} → IsConjunction i e xs ys
      → Says (has_long_name e) xs ys
  conjunction_of (g.ands {n = n} {ys = ys} h more) =
      negation_of h ∙ ap (λ b. b || any_long ys) (sym (any_one n)) ∙ sym (ands_of more)

  ands_of : {i : Bool} {before : List Expr} {e : Expr} {xs ys : List Lexeme} → Ands i before e xs ys
      → (has_long_name e || any_long ys) ≡ (any_in before || any_long xs)
  ands_of (g.and_end {before = before} {xs = xs}) = ap (λ b. b || any_long xs) (conjunction_long before)
  ands_of (g.and_more {before = before} {n = n} {x = x} {xs = xs} {ys = ys} k h more) =
      ands_of more ∙ ap (λ b. b || any_long ys) (any_more before n)
      ∙ or_assoc (any_in before) (has_long_name n) (any_long ys)
      ∙ ap (λ b. any_in before || b) (sym (negation_of h) ∙ sym (skip x xs (keyword_is _ x k)))

  negation_of : {i : Bool} {e : Expr} {xs ys : List Lexeme} → IsNegation i e xs ys → Says (has_long_name e) xs ys
  negation_of (g.negated {e = e} {x = x} {xs = xs} {ys = ys} k h) =
      formed (x ∷ xs) ys (skip x xs (keyword_is _ x k) ∙ negation_of h) (long_of _ _ (long_not e))
  negation_of (g.plain o r t) = operand_of o ∙ sym (related_of r) ∙ sym (tested_of t)

  tested_of : {r e : Expr} {xs ys : List Lexeme} → TestedBy r e xs ys
      → (has_long_name e || any_long ys) ≡ (has_long_name r || any_long xs)
  tested_of g.no_test = refl
  tested_of (g.is {e = e} {asked = t} {x = x} {y = y} {xs = xs} k h) =
      ap (λ b. b || any_long xs) (long_of _ _ (long_is false t e))
      ∙ ap (λ b. has_long_name e || b) (sym (skip x (y ∷ xs) (keyword_is _ x k) ∙ skip y xs (asked_is t y h)))
  tested_of (g.is_not {e = e} {asked = t} {x = x} {n = n} {y = y} {xs = xs} k m h) =
      ap (λ b. b || any_long xs) (long_of _ _ (long_is true t e))
      ∙ ap (λ b. has_long_name e || b) (sym (skip x (n ∷ y ∷ xs) (keyword_is _ x k) ∙ skip n (y ∷ xs) (keyword_is _ n m)
      ∙ skip y xs (asked_is t y h)))

  related_of : {i : Bool} {a r : Expr} {xs ys : List Lexeme} → Related i a r xs ys
      → (has_long_name r || any_long ys) ≡ (has_long_name a || any_long xs)
  related_of g.alone = refl
  related_of (g.compare {op = op} {a = a} {b = b} {x = x} {xs = xs} {ys = ys} c o) =
      ap (λ v. v || any_long ys) (compare_long op a b)
      ∙ or_assoc (has_long_name a) (has_long_name b) (any_long ys)
      ∙ ap (λ v. has_long_name a || v) (sym (operand_of o) ∙ sym (skip x xs (comparison_is op x c)))
  related_of (g.among {a = a} {b = b} {all = all} {x = x} {left = l} {xs = xs} {ys = ys} {zs = zs} k s o items) =
      ap (λ v. v || any_long zs) (one_of_long false a all)
      ∙ or_assoc (has_long_name a) (any_in all) (any_long zs)
      ∙ ap (λ v. has_long_name a || v) (items_of items ∙ ap (λ v. v || any_long ys) (any_one b)
      ∙ sym (operand_of o) ∙ sym (skip x (l ∷ xs) (keyword_is _ x k) ∙ skip l xs (sign_is _ l s)))
  related_of
      (g.not_among {a = a} {b = b} {all = all} {n = n} {x = x} {left = l} {xs = xs} {ys = ys} {zs = zs} m k s o items) =
      ap (λ v. v || any_long zs) (one_of_long true a all)
      ∙ or_assoc (has_long_name a) (any_in all) (any_long zs)
      ∙ ap (λ v. has_long_name a || v) (items_of items ∙ ap (λ v. v || any_long ys) (any_one b)
      ∙ sym (operand_of o) ∙ sym (skip n (x ∷ l ∷ xs) (keyword_is _ n m) ∙ skip x (l ∷ xs) (keyword_is _ x k)
      ∙ skip l xs (sign_is _ l s)))

  items_of : {i : Bool} {before all : List Expr} {xs ys : List Lexeme} → Items i before all xs ys
      → (any_in all || any_long ys) ≡ (any_in before || any_long xs)
  items_of (g.item_end {all = all} {right = r} {xs = xs} s) =
      ap (λ v. any_in all || v) (sym (skip r xs (sign_is _ r s)))
  items_of (g.item_more {before = before} {b = b} {comma = c} {xs = xs} {ys = ys} s o more) =
      items_of more ∙ ap (λ v. v || any_long ys) (any_more before b)
      ∙ or_assoc (any_in before) (has_long_name b) (any_long ys)
      ∙ ap (λ v. any_in before || v) (sym (operand_of o) ∙ sym (skip c xs (sign_is _ c s)))

  operand_of : {i : Bool} {e : Expr} {xs ys : List Lexeme} → IsOperand i e xs ys → Says (has_long_name e) xs ys
  operand_of (g.constant {l = l} {xs = xs} {ys = ys} h) =
      formed {a = false} xs ys (literal_bare h) (long_of _ _ (long_literal l))
  operand_of (g.cast {l = l} {t = t} {x = x} {xs = xs} {ys = ys} {zs = zs} h s k) =
      formed xs zs (literal_bare h ∙ skip x ys (sign_is _ x s) ∙ type_of k) (long_of _ _ (long_cast l t))
  operand_of (g.call h) = call_of h
  operand_of (g.selected_call {e = e} {left = l} {x = x} {right = r} {xs = xs} {ys = ys} s k c t) =
      skip l (x ∷ xs) (sign_is _ l s) ∙ skip x xs (keyword_is _ x k) ∙ call_of c
      ∙ ap (λ v. has_long_name e || v) (skip r ys (sign_is _ r t))
  operand_of (g.own_column {qualifier = q} {name = name} {xs = xs} {ys = ys} h) =
      formed xs ys (column_of h) (long_of _ _ (long_column q name))
  operand_of (g.group {e = e} {left = l} {right = r} {xs = xs} {ys = ys} s h t) =
      formed (l ∷ xs) ys (skip l xs (sign_is _ l s) ∙ expr_of h
      ∙ ap (λ v. has_long_name e || v) (skip r ys (sign_is _ r t)))
      (long_of _ _ (long_group e))
  operand_of (g.exists {s = s} {schema = schema} {table = table} {name = alias} {condition = c} {x = x} {left = l}
      {select = q} {from = f} {right = r} {xs = xs} {ys = ys} {zs = zs} {us = us} {vs = vs} k o p w m t n d e) =
      formed (x ∷ l ∷ q ∷ xs) vs (skip x (l ∷ q ∷ xs) (keyword_is _ x k) ∙ skip l (q ∷ xs) (sign_is _ l o)
      ∙ skip q xs (keyword_is _ q p) ∙ selected_of w
      ∙ ap (λ v. list_any is_long (names_of_selected s) || v) (skip f ys (keyword_is _ f m) ∙ table_of t
      ∙ ap (λ v. is_long schema || (is_long table || v)) (alias_of n
      ∙ ap (λ v. list_any is_long (names_of_option alias) || v) (where_of d
      ∙ ap (λ v. where_long c || v) (skip r vs (sign_is _ r e)))))
      ∙ regroup (list_any is_long (names_of_selected s)) (is_long schema) (is_long table)
      (list_any is_long (names_of_option alias)) (where_long c) (any_long vs))
      (exists_long s schema table alias c)

  where_of : {c : Option Expr} {xs ys : List Lexeme} → Where c xs ys → Says (where_long c) xs ys
  where_of g.no_where = refl
  where_of (g.where_ {x = x} {xs = xs} k h) = skip x xs (keyword_is _ x k) ∙ expr_of h

-- the names of an expression, by its tokens
pub long_names : (e : Expr) (xs : List Lexeme) → g.Written e xs → has_long_name e ≡ any_long xs
long_names e xs h = sym (or-false (has_long_name e)) ∙ sym (expr_of h)
