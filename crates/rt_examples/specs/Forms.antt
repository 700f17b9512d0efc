-- Expressions of the examples, level by level, so that a fold over one computes.
use Rattle.std.proofs.Common.{◌≡◌, ℕ, zero, suc, Bool, List, [], ◌∷◌, Option, Some, sym, ap, ◌∙◌}
use Rattle.rt_policy.specs.declared.expr.Expr.{Expr}
use Rattle.rt_policy.specs.declared.expr.Expr.TheVariants as expr
use Rattle.rt_policy.specs.declared.expr.Expr.TheOpen.{Expr-F}
use Rattle.rt_policy.specs.declared.expr.Expr.TheFolds.{fold-Expr, fold-roll-Expr}
use Rattle.rt_policy.specs.declared.expr.Literal.{Literal}
use Rattle.rt_policy.specs.declared.expr.Selected.{Selected}
use Rattle.rt_policy.specs.declared.expr.TypeName.{TypeName}
use Rattle.rt_policy.specs.declared.judge.Comparison.TheVariants.{Equal}
use Rattle.rt_policy.specs.declared.judge.Tested.{Tested}

pub data Form : Type 0 where
  literal : Literal → Form
  cast : Literal → TypeName → Form
  uid : Form
  column : Option (List ℕ) → List ℕ → Form
  equal : Form → Form → Form
  -- of two items, IN or NOT IN
  one_of_two : Bool → Form → Form → Form → Form
  negation : Form → Form
  both : Form → Form → Form
  is : Bool → Tested → Form → Form
  exists : Selected → List ℕ → List ℕ → Option (List ℕ) → Form → Form

abbrev pub expr_of : Form → Expr
expr_of (literal l) = expr.Literal l
expr_of (cast l t) = expr.Cast l t
expr_of uid = expr.Uid
expr_of (column qualifier name) = expr.Column qualifier name
expr_of (equal a b) = expr.Compare Equal (expr_of a) (expr_of b)
expr_of (one_of_two negated a b c) = expr.OneOf negated (expr_of a) (expr_of b ∷ expr_of c ∷ [])
expr_of (negation a) = expr.Not (expr_of a)
expr_of (both a b) = expr.And (expr_of a ∷ expr_of b ∷ [])
expr_of (is negated asked a) = expr.Is negated asked (expr_of a)
expr_of (exists what schema table alias condition) = expr.Exists what schema table alias (Some (expr_of condition))

module _ (A : Type 0) (step : Expr-F A → A) where
  abbrev pub folded : Form → A
  folded (literal l) = step (Expr-F.Literal l)
  folded (cast l t) = step (Expr-F.Cast l t)
  folded uid = step Expr-F.Uid
  folded (column qualifier name) = step (Expr-F.Column qualifier name)
  folded (equal a b) = step (Expr-F.Compare Equal (folded a) (folded b))
  folded (one_of_two negated a b c) = step (Expr-F.OneOf negated (folded a) (folded b ∷ folded c ∷ []))
  folded (negation a) = step (Expr-F.Not (folded a))
  folded (both a b) = step (Expr-F.And (folded a ∷ folded b ∷ []))
  folded (is negated asked a) = step (Expr-F.Is negated asked (folded a))
  folded (exists what schema table alias condition) =
      step (Expr-F.Exists what schema table alias (Some (folded condition)))

  pub fold_is : (f : Form) → fold-Expr A step (expr_of f) ≡ folded f
  fold_is (literal l) = ap (fold-Expr A step) (sym (expr.rolls-Literal l)) ∙ fold-roll-Expr A step (Expr-F.Literal l)
  fold_is (cast l t) = ap (fold-Expr A step) (sym (expr.rolls-Cast l t)) ∙ fold-roll-Expr A step (Expr-F.Cast l t)
  fold_is uid = ap (fold-Expr A step) (sym expr.rolls-Uid) ∙ fold-roll-Expr A step Expr-F.Uid
  fold_is (column qualifier name) =
      ap (fold-Expr A step) (sym (expr.rolls-Column qualifier name))
      ∙ fold-roll-Expr A step (Expr-F.Column qualifier name)
  fold_is (equal a b) =
      ap (fold-Expr A step) (sym (expr.rolls-Compare Equal (expr_of a) (expr_of b)))
      ∙ fold-roll-Expr A step (Expr-F.Compare Equal (expr_of a) (expr_of b))
      ∙ (λ i. step (Expr-F.Compare Equal (fold_is a i) (fold_is b i)))
  fold_is (one_of_two negated a b c) =
      ap (fold-Expr A step) (sym (expr.rolls-OneOf negated (expr_of a) (expr_of b ∷ expr_of c ∷ [])))
      ∙ fold-roll-Expr A step (Expr-F.OneOf negated (expr_of a) (expr_of b ∷ expr_of c ∷ []))
      ∙ (λ i. step (Expr-F.OneOf negated (fold_is a i) (fold_is b i ∷ fold_is c i ∷ [])))
  fold_is (negation a) =
      ap (fold-Expr A step) (sym (expr.rolls-Not (expr_of a)))
      ∙ fold-roll-Expr A step (Expr-F.Not (expr_of a)) ∙ (λ i. step (Expr-F.Not (fold_is a i)))
  fold_is (both a b) =
      ap (fold-Expr A step) (sym (expr.rolls-And (expr_of a ∷ expr_of b ∷ [])))
      ∙ fold-roll-Expr A step (Expr-F.And (expr_of a ∷ expr_of b ∷ []))
      ∙ (λ i. step (Expr-F.And (fold_is a i ∷ fold_is b i ∷ [])))
  fold_is (is negated asked a) =
      ap (fold-Expr A step) (sym (expr.rolls-Is negated asked (expr_of a)))
      ∙ fold-roll-Expr A step (Expr-F.Is negated asked (expr_of a))
      ∙ (λ i. step (Expr-F.Is negated asked (fold_is a i)))
  fold_is (exists what schema table alias condition) =
      ap (fold-Expr A step) (sym (expr.rolls-Exists what schema table alias (Some (expr_of condition))))
      ∙ fold-roll-Expr A step (Expr-F.Exists what schema table alias (Some (expr_of condition)))
      ∙ (λ i. step (Expr-F.Exists what schema table alias (Some (fold_is condition i))))

-- so many NOT before it
abbrev pub negations : ℕ → Form → Form
negations zero f = f
negations (suc n) f = negation (negations n f)
