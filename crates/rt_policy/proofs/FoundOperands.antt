-- What was read of an operand stands so in the grammar: a step back over a token.
use Rattle.std.proofs.Common.{◌≡◌, ℕ, inl, inr, Bool, true, false, List, ◌∷◌, codes, Option, Some}
use Rattle.std.proofs.Common.{None, refl, ap, subst, sym, ◌∙◌}
use Rattle.rt_value.proofs.Places.{seen}
use Rattle.rt_sql.specs.Lexeme.{Lexeme, IsKeyword, IsSign, kept_name, content}
use Rattle.rt_policy.specs.Grammar as g
use Rattle.rt_policy.specs.Grammar.{IsExpr, IsOperand, Where}
use Rattle.rt_policy.specs.Grammar.{IsSelected, IsCall, IsAuth, IsNameWithin}
use Rattle.rt_policy.specs.Words.{class_of, class_at, lexeme_at, blank, is_name}
use Rattle.rt_policy.specs.Parts as p
use Rattle.rt_policy.specs.Machine as m
use Rattle.rt_policy.specs.Machine.{To, state, fresh, inside, close}
use Rattle.rt_policy.specs.Machine.{over}
use Rattle.rt_policy.specs.Machine.{moved_to, wanting, want}
use Rattle.rt_policy.proofs.Classes.{means, name_of}
use Rattle.rt_policy.proofs.Rest.{EndTail, CallTail, ConstantTail}
use Rattle.rt_policy.proofs.Rest.{GoalTail, PartTail}
use Rattle.rt_policy.proofs.Rest.{BehindGiven, Wanting}
use Rattle.rt_policy.proofs.Rest.{BehindTest, Operand, OpenedTail}
use Rattle.rt_policy.proofs.Rest.{Rest}
use Rattle.rt_policy.proofs.FoundTypes.{Leads}
use Rattle.rt_policy.proofs.FoundParts.{part_found}
use Rattle.rt_policy.specs.declared.words.Word.TheVariants as word
use Rattle.rt_policy.specs.declared.words.Sign.TheVariants as sign
use Rattle.rt_policy.specs.declared.words.Class.{Class}
use Rattle.rt_policy.specs.declared.words.Class.TheVariants as class
use Rattle.rt_policy.specs.declared.expr.Literal.{Literal}
use Rattle.rt_policy.specs.declared.expr.Literal.TheVariants as literal
use Rattle.rt_policy.specs.declared.expr.Expr.{Expr}
use Rattle.rt_policy.specs.declared.expr.Expr.TheVariants as expr
use Rattle.rt_policy.specs.declared.part.Function.{Function}
use Rattle.rt_policy.specs.declared.part.Function.TheVariants as function
use Rattle.rt_policy.specs.declared.part.Goal.{Goal}
use Rattle.rt_policy.specs.declared.part.Goal.TheVariants as goal
use Rattle.rt_policy.specs.declared.part.Head.TheVariants as head
use Rattle.rt_policy.specs.declared.part.Wanted.{Wanted}
use Rattle.rt_policy.specs.declared.part.Wanted.TheVariants as wanted
use Rattle.rt_policy.specs.declared.expr.TypeName.TheVariants as type_name
use Rattle.rt_policy.specs.declared.part.Part.{Part}
use Rattle.rt_policy.specs.declared.part.Part.TheVariants as part
use Rattle.rt_policy.specs.declared.part.Moved.{Moved}
use Rattle.rt_policy.specs.declared.part.Moved.TheVariants as moved
use Rattle.rt_policy.specs.declared.part.Source.{Source}
use Rattle.rt_policy.specs.declared.building.Slot.{Slot}
use Rattle.rt_policy.specs.declared.building.Slot.TheVariants as slot
use Rattle.rt_policy.specs.declared.building.Level.{Level}
use Rattle.rt_policy.specs.declared.building.Frame.{Frame}
use Rattle.rt_policy.specs.declared.building.Frame.TheVariants as frame
use Rattle.rt_policy.specs.declared.building.Mode.TheVariants as mode
use Rattle.rt_policy.proofs.FoundBehind.{RestBehind, given_found, over_found}

-- Operands

pub operand_wanted : (st : List Frame) (l : Level) (s : Slot) (v : Expr) (xs ys : List Lexeme) (out : Expr)
    → IsOperand (inside st) v xs ys → BehindGiven (BehindTest st l) (inside st) s v ys out
    → Wanting (BehindTest st l) (inside st) s xs out
operand_wanted st l slot.First v xs ys out h (r, us, rel, (e, ws, test, k)) = (e, ws, g.plain h rel test, k)
operand_wanted st l (slot.Right op a) v xs ys out h k = (v, ys, h, k)
operand_wanted st l (slot.Item n a items) v xs ys out h k = (v, ys, h, k)

-- the expression in parentheses, behind its state
pub group_expr : (st : List Frame) (l : Level) (s : Slot) (zs : List Lexeme) (out : Expr)
    → Rest (state (frame.Group l s ∷ st) fresh (mode.Want slot.First)) zs out
    → (d : Expr) × (right : Lexeme) × (ys : List Lexeme) × IsExpr (inside st) d zs (right ∷ ys)
    × IsSign (codes ")") right × BehindGiven (BehindTest st l) (inside st) s (expr.Group d) ys out
group_expr st l s zs out (n, ys, first, (c, d, us, ws, ands, ors, (right, vs, at, close, k))) = (
  d,
  right,
  vs,
  subst (λ (qs :
      List Lexeme). IsExpr (inside st) d zs qs) at (g.ors (g.ands first ands) ors),
  close,
  k,
)

pub where_expr : (st : List Frame) (l : Level) (s : Slot) (r : Source) (zs : List Lexeme) (out : Expr)
    → Rest (state (frame.Where l s r ∷ st) fresh (mode.Want slot.First)) zs out
    → (d : Expr) × (right : Lexeme) × (ys : List Lexeme) × IsExpr true d zs (right ∷ ys) × IsSign (codes ")") right
    × BehindGiven (BehindTest st l) (inside st) s (p.exists_of r (Some d)) ys out
where_expr st l s r zs out (n, ys, first, (c, d, us, ws, ands, ors, (right, vs, at, close, k))) =
    (d, right, vs, subst (λ (qs : List Lexeme). IsExpr true d zs qs) at (g.ors (g.ands first ands) ors), close, k)

pub not_inside : (b : Bool) (a : To) (look : Option Lexeme) (zs : List Lexeme) (out : Expr)
    → RestBehind (m.if_inside b a) look zs out → (b ≡ false) × RestBehind a look zs out
not_inside true a look zs out h = absurd h
not_inside false a look zs out h = (refl, h)

-- what is left of an operand, where a token leads so
pub moved_found : (st : List Frame) (l : Level) (s : Slot) (o : Moved) (x : Lexeme) (zs : List Lexeme) (out : Expr)
    → RestBehind (moved_to st l s o (Some (class_of x))) (Some x) zs out → (e : Expr) × (ys : List Lexeme)
    × Leads o (Some x) e zs ys × BehindGiven (BehindTest st l) (inside st) s e ys out
moved_found st l s (moved.More q) x zs out h = h
moved_found st l s (moved.Done e) x zs out h = (e, zs, (refl, refl), given_found st l s e zs out h)
moved_found st l s (moved.Over e) x zs out h =
    (e, x ∷ zs, (refl, refl), over_found st l s e (Some (class_of x)) (Some x) zs out refl h)
moved_found st l s (moved.Condition r) x zs out h =
    let n = not_inside (inside st) (wanting (frame.Where l s r ∷ st) fresh slot.First) (Some x) zs out h in
    let (d, right, ys, inner, close, k) = where_expr st l s r zs out n.1 in
    (p.exists_of r (Some d), ys, (d, right, inner, close, refl), k)
moved_found st l s moved.Bad x zs out h = absurd h

-- at the end an operand is over
pub end_found : (st : List Frame) (l : Level) (s : Slot) (o : Moved) (zs : List Lexeme) (out : Expr)
    → RestBehind (moved_to st l s o None) None zs out → (e : Expr) × (o ≡ moved.Over e)
    × BehindGiven (BehindTest st l) (inside st) s e zs out
end_found st l s (moved.More q) zs out h = absurd h
end_found st l s (moved.Done e) zs out h = absurd h
end_found st l s (moved.Over e) zs out h = (e, refl, over_found st l s e None None zs out refl h)
end_found st l s (moved.Condition r) zs out h =
    absurd (not_inside (inside st) (wanting (frame.Where l s r ∷ st) fresh slot.First) None zs out h).1
end_found st l s moved.Bad zs out h = absurd h

abbrev pub over_of : Moved → Option Expr
over_of (moved.Over e) = Some e
over_of _ = None

pub over_is : {v e : Expr} → moved.Over v ≡ moved.Over e → v ≡ e
over_is {v = v} {e = e} h = let s : Some v ≡ Some e = ap over_of h in cc

pub unmet_bad : (a : Wanted) (o : Moved) → p.if_met (p.meets a None) o ≡ moved.Bad
unmet_bad wanted.Number o = refl
unmet_bad _ o = refl

pub goal_over : (q : Goal) (e : Expr) (zs : List Lexeme) → p.goal_moved q None blank ≡ moved.Over e → GoalTail q e zs zs
goal_over (goal.Whole v) e zs h = (sym (over_is h), refl)
goal_over (goal.Constant l) e zs h = inl (sym (over_is h), refl)
goal_over (goal.TypeWord l head.Timestamp name) e zs h =
    (type_name.Named name false, inl (zs, false, g.one_length g.no_length, g.no_brackets, refl), sym (over_is h))
goal_over (goal.TypeWord l head.Double name) e zs h =
    (type_name.Named name false, inl (zs, false, g.one_length g.no_length, g.no_brackets, refl), sym (over_is h))
goal_over (goal.TypeWord l head.Character name) e zs h =
    (type_name.Named name false, inl (zs, false, g.one_length g.no_length, g.no_brackets, refl), sym (over_is h))
goal_over (goal.TypeWord l head.Other name) e zs h =
    (type_name.Named name false, (zs, false, g.one_length g.no_length, g.no_brackets, refl), sym (over_is h))
goal_over (goal.Varying l) e zs h = (g.no_length, sym (over_is h))
goal_over (goal.Lengthened l name) e zs h = (false, g.no_brackets, sym (over_is h))
goal_over (goal.Named auth name) e zs h = inl (sym (over_is h), refl)
goal_over (goal.Called f name) e zs h = inl (sym (over_is h), refl)
goal_over (goal.Dotted true name) e zs h = absurd cc
goal_over (goal.Dotted false name) e zs h = absurd cc
goal_over _ e zs h = absurd cc

pub over_end : (q : Part) (e : Expr) (zs : List Lexeme) → p.part_moved q None blank ≡ moved.Over e → PartTail q e zs zs
over_end (part.At k) e zs h = goal_over k e zs h
over_end (part.One a k) e zs h = absurd (let n = sym (unmet_bad a _) ∙ h in cc)
over_end (part.Two a b k) e zs h = absurd (let n = sym (unmet_bad a _) ∙ h in cc)
over_end (part.Three a b d k) e zs h = absurd (let n = sym (unmet_bad a _) ∙ h in cc)

pub within_found : (st : List Frame) (l : Level) (s : Slot) (q : Part) (look : Option Lexeme) (zs : List Lexeme) (out :
    Expr)
    → RestBehind (moved_to st l s (p.part_moved q (class_at look) (lexeme_at look)) (class_at look)) look zs out
    → Operand (BehindTest st l) (inside st) s q (seen look zs) out
within_found st l s q None zs out h =
    let (e, is, k) = end_found st l s (p.part_moved q None blank) zs out h in (e, zs, over_end q e zs is, k)
within_found st l s q (Some x) zs out h =
    let (e, ys, leads, k) =
    moved_found st l s (p.part_moved q (Some (class_of x)) x) x zs out h in (e, ys, part_found q x e zs ys leads, k)

-- the first token of an operand

-- a call behind `auth` and a dot, with its end
abbrev pub Called : Bool → Expr → List Lexeme → List Lexeme → Type 0
Called true e xs ys = (right : Lexeme) × IsCall e xs (right ∷ ys) × IsSign (codes ")") right
Called false e xs ys = IsCall e xs ys

pub call_ended : (s : Bool) (v e : Expr) (xs zs ys : List Lexeme) → IsCall v xs zs → EndTail s v e zs ys → Called s e xs ys
call_ended true v e xs zs ys call (right, us, at, close, (made, same)) = (
  right,
  subst (λ (w : Expr). IsCall w xs (right ∷ ys)) (sym made) (subst (λ (qs :
      List Lexeme). IsCall v xs qs) (at ∙ ap (λ (qs : List Lexeme). right ∷ qs) same) call),
  close,
)
call_ended false v e xs zs ys call (made, same) =
    subst (λ (w : Expr). IsCall w xs ys) (sym made) (subst (λ (qs : List Lexeme). IsCall v xs qs) same call)

pub auth_at : (name : List ℕ) (a dot x left right : Lexeme) (zs us vs : List Lexeme) → IsKeyword (codes "auth") a
    → IsSign (codes ".") dot → IsKeyword name x
    → zs ≡ left ∷ us → IsSign (codes "(") left → us ≡ right ∷ vs → IsSign (codes ")") right
    → IsAuth name (a ∷ dot ∷ x ∷ zs) vs
auth_at name a dot x left right zs us vs auth is named at leaves at_r close =
    subst (λ (qs : List Lexeme). IsAuth name (a ∷ dot ∷ x ∷ qs) vs) (sym (at
    ∙ ap (λ (qs : List Lexeme). left ∷ qs) at_r)) (g.auth auth is named leaves close)

pub auth_call : (s : Bool) (f : Function) (a dot x : Lexeme) (e : Expr) (zs ys : List Lexeme)
    → IsKeyword (codes "auth") a → IsSign (codes ".") dot → IsKeyword (p.function_text f) x
    → CallTail s f e zs ys → Called s e (a ∷ dot ∷ x ∷ zs) ys
auth_call s function.Uid a dot x e zs ys auth is name (left, us, at, leaves, (right, vs, at_r, close, more)) =
    call_ended s expr.Uid e (a ∷ dot ∷ x ∷ zs) vs ys (g.uid (auth_at
    (codes "uid") a dot x left right zs us vs auth is name at leaves at_r close)) more
auth_call s function.Role a dot x e zs ys auth is name (left, us, at, leaves, (right, vs, at_r, close, more)) =
    call_ended s expr.Role e (a ∷ dot ∷ x ∷ zs) vs ys (g.role (auth_at
    (codes "role") a dot x left right zs us vs auth is name at leaves at_r close)) more
auth_call s function.Jwt a dot x e zs ys auth is name (
  left,
  us,
  at,
  leaves,
  (
    right,
    vs,
    at_r,
    close,
    (arrow, ws, at_a, is_a, (claim, (t, ts, at_t, is_t, more))),
  ),
) =
    call_ended s (expr.Claim claim) e (a ∷ dot ∷ x ∷ zs) ts ys
    (g.jwt (subst (λ (qs : List Lexeme). IsAuth (codes "jwt") (a ∷ dot ∷ x ∷ zs) qs) (at_a
    ∙ ap (λ (qs : List Lexeme). arrow ∷ qs) at_t)
    (auth_at (codes "jwt") a dot x left right zs us vs auth is name at leaves at_r close)) is_a is_t) more

pub constant_operand : (i : Bool) (l : Literal) (e : Expr) (xs zs ys : List Lexeme) → g.IsLiteral l xs zs
    → ConstantTail l e zs ys → IsOperand i e xs ys
constant_operand i l e xs zs ys h (inl (made, same)) =
    subst (λ (w : Expr). IsOperand i w xs ys) (sym made) (g.constant (subst (λ (qs :
    List Lexeme). g.IsLiteral l xs qs) same h))
constant_operand i l e xs zs ys h (inr (x, us, at, is, (t, named, made))) =
    subst (λ (w : Expr). IsOperand i w xs ys) (sym made) (g.cast (subst (λ (qs :
    List Lexeme). g.IsLiteral l xs qs) at h) is named)

pub minus_operand : (i : Bool) (x : Lexeme) (e : Expr) (zs ys : List Lexeme) → IsSign (codes "-") x
    → GoalTail goal.Minus e zs ys → IsOperand i e (x ∷ zs) ys
minus_operand i x e zs ys is (digits, (n, us, at, number, more)) =
    constant_operand i (literal.Number true digits) e (x ∷ zs) us ys
    (subst (λ (qs : List Lexeme). g.IsLiteral (literal.Number true digits) (x ∷ qs) us) (sym at)
    (g.minus is number)) more

pub auth_keyword : (c : Class) (x : Lexeme) → class_of x ≡ c → p.is_auth c ≡ true → IsKeyword (codes "auth") x
auth_keyword (class.Word word.Auth) x is h = means (class.Word word.Auth) x is
auth_keyword _ x is h = absurd cc

pub named_operand : (i : Bool) (c : Class) (x : Lexeme) (e : Expr) (zs ys : List Lexeme) → class_of x ≡ c
    → IsNameWithin (kept_name x) x
    → GoalTail (goal.Named (p.is_auth c) (kept_name x)) e zs ys → IsOperand i e (x ∷ zs) ys
named_operand i c x e zs ys is named (inl (made, same)) =
    subst (λ (w : Expr). IsOperand i w (x ∷ zs) ys) (sym made) (subst (λ (qs :
    List Lexeme). IsOperand i (expr.Column None (kept_name x)) (x ∷ zs) qs) same (g.own_column (g.bare named)))
named_operand i c x e zs ys is named (inr (dot, us, at, is_dot, inl (second, (y, vs, at_y, is_y, (made, same))))) =
    subst (λ (w : Expr). IsOperand i w (x ∷ zs) ys) (sym made)
    (subst (λ (qs : List Lexeme). IsOperand i (expr.Column (Some (kept_name x)) second) (x ∷ qs) ys) (sym (at
    ∙ ap (λ (qs : List Lexeme). dot ∷ qs) at_y))
    (subst (λ (qs : List Lexeme). IsOperand i (expr.Column (Some (kept_name x)) second) (x ∷ dot ∷ y ∷ vs) qs) same
    (g.own_column (g.qualified named is_dot is_y))))
named_operand i c x e zs ys is named (inr (dot, us, at, is_dot, inr (auth, (f, (y, vs, at_y, is_y, call))))) =
    let k = auth_call false f x dot y e vs ys (auth_keyword c x is auth) is_dot is_y call in
    subst (λ (qs : List Lexeme). IsOperand i e (x ∷ qs) ys) (sym (at
    ∙ ap (λ (qs : List Lexeme). dot ∷ qs) at_y)) (g.call k)

abbrev pub BegunTail : Option Part → Expr → List Lexeme → List Lexeme → Type 0
BegunTail None e zs ys = ⊥
BegunTail (Some q) e zs ys = PartTail q e zs ys

pub name_operand : (i : Bool) (c : Class) (x : Lexeme) (e : Expr) (zs ys : List Lexeme) → class_of x ≡ c
    → BegunTail (p.begun_name (is_name c) c x) e zs ys → IsOperand i e (x ∷ zs) ys
name_operand i c x e zs ys is h = go (is_name c) refl h
  where
    go : (b : Bool) → is_name c ≡ b → BegunTail (p.begun_name b c x) e zs ys → IsOperand i e (x ∷ zs) ys
    go true named h = named_operand i c x e zs ys is (name_of c x is named) h
    go false unnamed h = absurd h

pub begun_operand : (i : Bool) (c : Class) (x : Lexeme) (e : Expr) (zs ys : List Lexeme) → class_of x ≡ c
    → BegunTail (p.begin c x) e zs ys → IsOperand i e (x ∷ zs) ys
begun_operand i class.Text x e zs ys is h =
    constant_operand i (literal.Text (content x)) e (x ∷ zs) zs ys (g.text (means class.Text x is, refl)) h
begun_operand i class.Number x e zs ys is h =
    constant_operand i (literal.Number false x.bytes) e (x ∷ zs) zs ys (g.number (means class.Number x is, refl)) h
begun_operand i (class.Word word.True) x e zs ys is h =
    constant_operand i (literal.Truth true) e (x ∷ zs) zs ys (g.yes_literal (means (class.Word word.True) x is)) h
begun_operand i (class.Word word.False) x e zs ys is h =
    constant_operand i (literal.Truth false) e (x ∷ zs) zs ys (g.no_literal (means (class.Word word.False) x is)) h
begun_operand i (class.Word word.Null) x e zs ys is h =
    constant_operand i literal.Null e (x ∷ zs) zs ys (g.null (means (class.Word word.Null) x is)) h
begun_operand i (class.Sign sign.Minus) x e zs ys is h =
    minus_operand i x e zs ys (means (class.Sign sign.Minus) x is) h
begun_operand i c x e zs ys is h = name_operand i c x e zs ys is h

pub exists_operand : (x : Lexeme) (e : Expr) (zs ys : List Lexeme) → IsKeyword (codes "exists") x
    → PartTail p.existing e zs ys → IsOperand false e (x ∷ zs) ys
exists_operand x e zs ys is (
  left,
  us,
  at,
  leaves,
  (
    select,
    vs,
    at_s,
    is_s,
    (
      s,
      ws,
      selects,
      (
        from,
        ts,
        at_f,
        is_f,
        (schema, table, rs, named, (name, qs, alias, (k, right, inner, close, made))),
      ),
    ),
  ),
) =
    let all : IsOperand false (expr.Exists s schema table name k) (x ∷ left ∷ select ∷ vs) ys =
    g.exists is (means (class.Sign sign.Open) left leaves) (means (class.Word word.Select) select is_s)
    (subst (λ (ps : List Lexeme). IsSelected s vs ps) at_f selects) is_f named alias inner close in
    subst (λ (w : Expr). IsOperand false w (x ∷ zs) ys) (sym made)
    (subst (λ (ps : List Lexeme). IsOperand false (expr.Exists s schema table name k) (x ∷ ps) ys) (sym (at
    ∙ ap (λ (ps : List Lexeme). left ∷ ps) at_s)) all)

pub opened_operand : (i : Bool) (x : Lexeme) (e : Expr) (zs ys : List Lexeme) → IsSign (codes "(") x
    → OpenedTail i e zs ys → IsOperand i e (x ∷ zs) ys
opened_operand i x e zs ys is (inl (
  select,
  us,
  at,
  is_s,
  (
    a,
    vs,
    at_a,
    auth,
    (
      dot,
      ws,
      at_d,
      is_dot,
      (
        f,
        (y, ts, at_y, is_y, call),
      ),
    ),
  ),
)) =
    let (right, k, close) = auth_call true f a dot y e ts ys auth is_dot is_y call in
    subst (λ (qs : List Lexeme). IsOperand i e (x ∷ qs) ys)
    (sym (at ∙ ap (λ (qs : List Lexeme). select ∷ qs) (at_a ∙ ap (λ (qs : List Lexeme). a ∷ qs) (at_d
    ∙ ap (λ (qs : List Lexeme). dot ∷ qs) at_y))))
    (g.selected_call is is_s k close)
opened_operand i x e zs ys is (inr (d, right, inner, close, made)) =
    subst (λ (w : Expr). IsOperand i w (x ∷ zs) ys) (sym made) (g.group is inner close)

pub begun_found : (st : List Frame) (l : Level) (s : Slot) (q : Option Part) (x : Lexeme) (zs : List Lexeme) (out : Expr)
    → RestBehind (m.begun st l s q) (Some x) zs out → (e : Expr) × (ys : List Lexeme) × BegunTail q e zs ys
    × BehindGiven (BehindTest st l) (inside st) s e ys out
begun_found st l s (Some q) x zs out h = h
begun_found st l s None x zs out h = absurd h

pub not_found : (st : List Frame) (l : Level) (s : Slot) (x : Lexeme) (zs : List Lexeme) (out : Expr)
    → IsKeyword (codes "not") x
    → RestBehind (m.want_not st l s) (Some x) zs out → Wanting (BehindTest st l) (inside st) s (x ∷ zs) out
not_found st l slot.First x zs out is (n, ys, first, k) = (expr.Not n, ys, g.negated is first, k)
not_found st l (slot.Right op a) x zs out is h = absurd h
not_found st l (slot.Item n a items) x zs out is h = absurd h

pub exists_found : (st : List Frame) (l : Level) (s : Slot) (x : Lexeme) (zs : List Lexeme) (out : Expr)
    → IsKeyword (codes "exists") x
    → RestBehind (m.if_inside (inside st) (m.within st l s p.existing)) (Some x) zs out
    → Wanting (BehindTest st l) (inside st) s (x ∷ zs) out
exists_found st l s x zs out is h =
    let n = not_inside (inside st) (m.within st l s p.existing) (Some x) zs out h in
    let (e, ys, tail, k) = n.1 in
    operand_wanted st l s e (x ∷ zs) ys out (subst (λ (b :
    Bool). IsOperand b e (x ∷ zs) ys) (sym n.0) (exists_operand x e zs ys is tail)) k

pub leaf_found : (st : List Frame) (l : Level) (s : Slot) (c : Class) (x : Lexeme) (zs : List Lexeme) (out : Expr)
    → class_of x ≡ c
    → RestBehind (m.begun st l s (p.begin c x)) (Some x) zs out → Wanting (BehindTest st l) (inside st) s (x ∷ zs) out
leaf_found st l s c x zs out is h =
    let (e, ys, tail, k) = begun_found st l s (p.begin c x) x zs out h in
    operand_wanted st l s e (x ∷ zs) ys out (begun_operand (inside st) c x e zs ys is tail) k

pub opening_found : (st : List Frame) (l : Level) (s : Slot) (x : Lexeme) (zs : List Lexeme) (out : Expr)
    → IsSign (codes "(") x
    → Rest (state st l (mode.Opened s)) zs out → Wanting (BehindTest st l) (inside st) s (x ∷ zs) out
opening_found st l s x zs out is (e, ys, tail, k) =
    operand_wanted st l s e (x ∷ zs) ys out (opened_operand (inside st) x e zs ys is tail) k

pub want_found : (st : List Frame) (l : Level) (s : Slot) (c : Class) (x : Lexeme) (zs : List Lexeme) (out : Expr)
    → class_of x ≡ c
    → RestBehind (want st l s (Some c) x) (Some x) zs out → Wanting (BehindTest st l) (inside st) s (x ∷ zs) out
want_found st l s (class.Sign sign.Open) x zs out is h =
    opening_found st l s x zs out (means (class.Sign sign.Open) x is) h
want_found st l s (class.Word word.Not) x zs out is h = not_found st l s x zs out (means (class.Word word.Not) x is) h
want_found st l s (class.Word word.Exists) x zs out is h =
    exists_found st l s x zs out (means (class.Word word.Exists) x is) h
want_found st l s c x zs out is h = leaf_found st l s c x zs out is h

pub group_found : (st : List Frame) (l : Level) (s : Slot) (c : Class) (x : Lexeme) (zs : List Lexeme) (out : Expr)
    → class_of x ≡ c
    → RestBehind (want (frame.Group l s ∷ st) fresh slot.First (Some c) x) (Some x) zs out
    → Rest (state st l (mode.Opened s)) (x ∷ zs) out
group_found st l s c x zs out is h =
    let (d, right, ys, inner, close, k) =
    group_expr st l s (x ∷ zs) out (want_found (frame.Group l s ∷ st) fresh slot.First c x zs out is h) in
    (expr.Group d, ys, inr (d, right, inner, close, refl), k)

pub selecting_found : (st : List Frame) (l : Level) (s : Slot) (x : Lexeme) (zs : List Lexeme) (out : Expr)
    → IsKeyword (codes "select") x
    → Operand (BehindTest st l) (inside st) s p.selecting zs out → Rest (state st l (mode.Opened s)) (x ∷ zs) out
selecting_found st l s x zs out is (e, ys, (a, us, at, auth, (dot, vs, at_d, is_d, more)), k) = (
  e,
  ys,
  inl (
    x,
    zs,
    refl,
    is,
    (
      a,
      us,
      at,
      means (class.Word word.Auth) a auth,
      (
        dot,
        vs,
        at_d,
        means
            (class.Sign sign.Dot) dot is_d,
        more,
      ),
    ),
  ),
  k,
)

pub opened_found : (st : List Frame) (l : Level) (s : Slot) (c : Class) (x : Lexeme) (zs : List Lexeme) (out : Expr)
    → class_of x ≡ c
    → RestBehind (m.after_open st l s (Some c) x) (Some x) zs out → Rest (state st l (mode.Opened s)) (x ∷ zs) out
opened_found st l s (class.Word word.Select) x zs out is h =
    selecting_found st l s x zs out (means (class.Word word.Select) x is) h
opened_found st l s c x zs out is h = group_found st l s c x zs out is h
