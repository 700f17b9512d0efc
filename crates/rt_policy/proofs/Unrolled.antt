-- A function that gives each expression what its form says is the fold.
use Rattle.std.proofs.Common.{◌≡◌, List, [], ◌∷◌, map, Option, Some, None, refl, ap, sym, ◌∙◌, subst}
use Rattle.rt_policy.specs.declared.expr.Expr.{Expr}
use Rattle.rt_policy.specs.declared.expr.Expr.TheOpen.{Expr-F}
use Rattle.rt_policy.specs.declared.expr.Expr.TheViews.{roll-Expr}
use Rattle.rt_policy.specs.declared.expr.Expr.TheFolds.{fold-Expr, fold-roll-Expr, ind-Expr, map-Expr}
use Rattle.rt_policy.specs.declared.meaning.Meaning.{Meaning}
use Rattle.rt_policy.specs.declared.scope.Scope.{Scope}
use Rattle.rt_policy.specs.Resolution.{Reading, IsMeaning, meaning_step, meaning_in}
use Rattle.rt_policy.specs.Readings.{Named, IsNaming, named_step, named_in}

module _ (A : Type 0) (step : Expr-F A → A) (f : Expr → A) (by_forms : (form : Expr-F Expr) →
    f (roll-Expr form) ≡ step (map-Expr Expr A f form)) where
  abbrev Fold : Expr → A
  Fold = fold-Expr A step

  abbrev Same : Expr → Type 0
  Same e = f e ≡ Fold e

  abbrev Part : Type 0
  Part = (e : Expr) × Same e

  items_same : (all : List Part) → map f (map (λ p. p.0) all) ≡ map Fold (map (λ p. p.0) all)
  items_same [] = refl
  items_same (p ∷ ps) = λ i. p.1 i ∷ items_same ps i

  parts_same : (y : Expr-F Part) →
      map-Expr Expr A f (map-Expr Part Expr (λ p. p.0) y) ≡ map-Expr Expr A Fold (map-Expr Part Expr (λ p. p.0) y)
  parts_same (Expr-F.Literal l) = refl
  parts_same (Expr-F.Cast l t) = refl
  parts_same Expr-F.Uid = refl
  parts_same Expr-F.Role = refl
  parts_same (Expr-F.Claim name) = refl
  parts_same (Expr-F.Column qualifier name) = refl
  parts_same (Expr-F.Group a) = λ i. Expr-F.Group (a.1 i)
  parts_same (Expr-F.Compare op a b) = λ i. Expr-F.Compare op (a.1 i) (b.1 i)
  parts_same (Expr-F.OneOf negated a items) = λ i. Expr-F.OneOf negated (a.1 i) (items_same items i)
  parts_same (Expr-F.Not a) = λ i. Expr-F.Not (a.1 i)
  parts_same (Expr-F.And all) = λ i. Expr-F.And (items_same all i)
  parts_same (Expr-F.Or all) = λ i. Expr-F.Or (items_same all i)
  parts_same (Expr-F.Is negated asked a) = λ i. Expr-F.Is negated asked (a.1 i)
  parts_same (Expr-F.Exists s schema table alias None) = refl
  parts_same (Expr-F.Exists s schema table alias (Some c)) = λ i. Expr-F.Exists s schema table alias (Some (c.1 i))

  layer : (y : Expr-F Part) → Same (roll-Expr (map-Expr Part Expr (λ p. p.0) y))
  layer y =
      let form = map-Expr Part Expr (λ p. p.0) y in
      by_forms form ∙ ap step (parts_same y) ∙ sym (fold-roll-Expr A step form)

  pub is_fold : (e : Expr) → f e ≡ fold-Expr A step e
  is_fold = ind-Expr Same (λ x y is. subst (λ z. Same (roll-Expr z)) is (layer y))

pub meaning_by_forms : (scope : Scope) → IsMeaning scope (meaning_in scope)
meaning_by_forms scope form at =
    ap (λ (h : Option Reading → Meaning). h at) (fold-roll-Expr (Option Reading → Meaning) (meaning_step scope) form)

pub meaning_only : (scope : Scope) (mean : Expr → Option Reading → Meaning) → IsMeaning scope mean →
    (e : Expr) (at : Option Reading) → mean e at ≡ meaning_in scope e at
meaning_only scope mean by_forms e at =
    ap (λ (h : Option Reading → Meaning). h at)
    (is_fold (Option Reading → Meaning) (meaning_step scope) mean (λ form. λ i. λ p. by_forms form p i) e)

pub naming_by_forms : (scope : Scope) → IsNaming scope (named_in scope)
naming_by_forms scope form = fold-roll-Expr Named (named_step scope) form

pub naming_only : (scope : Scope) (named : Expr → Named) → IsNaming scope named → (e : Expr) →
    named e ≡ named_in scope e
naming_only scope named by_forms e = is_fold Named (named_step scope) named by_forms e
