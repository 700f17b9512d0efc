-- The meaning of an expression that is made of a list or of an EXISTS, by those of its parts.
use Rattle.std.proofs.Common.{◌≡◌, ℕ, Bool, List, [], ◌∷◌, map, Option, Some, None, refl, ap, ap₂, sym, ◌∙◌}
use Rattle.std.specs.Prelude.{option_map}
use Rattle.rt_policy.specs.declared.expr.Expr.{Expr}
use Rattle.rt_policy.specs.declared.expr.Expr.TheOpen.{Expr-F}
use Rattle.rt_policy.specs.declared.expr.Expr.TheViews as V
use Rattle.rt_policy.specs.declared.expr.Expr.TheVariants.{rolls-OneOf, rolls-And, rolls-Or, rolls-Exists}
use Rattle.rt_policy.specs.declared.expr.Expr.TheFolds.{fold-roll-Expr}
use Rattle.rt_policy.specs.declared.expr.Selected.{Selected}
use Rattle.rt_policy.specs.declared.judge.Judge.TheVariants as judge
use Rattle.rt_policy.specs.declared.meaning.Meaning.{Meaning}
use Rattle.rt_policy.specs.declared.scope.Scope.{Scope}
use Rattle.rt_policy.specs.Resolution.{Reading, meaning_step, meaning_in, among, of_truths, table_read, exists_in}
use Rattle.rt_policy.specs.Resolution.{selected_meaning, condition_meaning, exists_meaning}

module _ (scope : Scope) where
  abbrev Part : Type 0
  Part = Option Reading → Meaning

  map_map : (f : Expr → Part) (at : Option Reading) (all : List Expr) →
      map (λ (h : Part). h at) (map f all) ≡ map (λ e. f e at) all
  map_map f at [] = refl
  map_map f at (e ∷ es) = ap (λ ms. f e at ∷ ms) (map_map f at es)

  -- an IN
  pub one_of_is : (e : Expr) (negated : Bool) (a b : Expr) (all items : List Expr) (at : Option Reading)
      (side : Meaning) (parts : List Meaning) →
      e ≡ V.OneOf negated a all → b ≡ a → items ≡ all → side ≡ meaning_in scope b at →
      parts ≡ map (λ i. meaning_in scope i at) items → among negated side parts ≡ meaning_in scope e at
  one_of_is e negated a b all items at side parts is same_side same_items left right =
      ap₂ (among negated) (left ∙ ap (λ x. meaning_in scope x at) same_side)
      (right ∙ ap (map (λ i. meaning_in scope i at)) same_items ∙ sym (map_map (meaning_in scope) at all))
      ∙ sym (ap (λ (h : Part). h at) (fold-roll-Expr Part (meaning_step scope) (Expr-F.OneOf negated a all)))
      ∙ ap (λ x. meaning_in scope x at) (rolls-OneOf negated a all) ∙ sym (ap (λ x. meaning_in scope x at) is)

  pub and_is : (e : Expr) (all items : List Expr) (at : Option Reading) (parts : List Meaning) →
      e ≡ V.And all → items ≡ all → parts ≡ map (λ i. meaning_in scope i at) items →
      of_truths parts judge.And ≡ meaning_in scope e at
  and_is e all items at parts is same right =
      ap (λ ms. of_truths ms judge.And) (right ∙ ap (map (λ i. meaning_in scope i at)) same
      ∙ sym (map_map (meaning_in scope) at all))
      ∙ sym (ap (λ (h : Part). h at) (fold-roll-Expr Part (meaning_step scope) (Expr-F.And all)))
      ∙ ap (λ x. meaning_in scope x at) (rolls-And all) ∙ sym (ap (λ x. meaning_in scope x at) is)

  pub or_is : (e : Expr) (all items : List Expr) (at : Option Reading) (parts : List Meaning) →
      e ≡ V.Or all → items ≡ all → parts ≡ map (λ i. meaning_in scope i at) items →
      of_truths parts judge.Or ≡ meaning_in scope e at
  or_is e all items at parts is same right =
      ap (λ ms. of_truths ms judge.Or) (right ∙ ap (map (λ i. meaning_in scope i at)) same
      ∙ sym (map_map (meaning_in scope) at all))
      ∙ sym (ap (λ (h : Part). h at) (fold-roll-Expr Part (meaning_step scope) (Expr-F.Or all)))
      ∙ ap (λ x. meaning_in scope x at) (rolls-Or all) ∙ sym (ap (λ x. meaning_in scope x at) is)

  exists_opened : (s : Selected) (schema table : List ℕ) (alias : Option (List ℕ)) (condition : Option Expr)
      (at : Option Reading) →
      meaning_in scope (V.Exists s schema table alias condition) at
      ≡ exists_in scope s (option_map (meaning_in scope) condition) (table_read scope schema table alias)
  exists_opened s schema table alias None at =
      ap (λ x. meaning_in scope x at) (sym (rolls-Exists s schema table alias None))
      ∙ ap (λ (h : Part). h at) (fold-roll-Expr Part (meaning_step scope) (Expr-F.Exists s schema table alias None))
  exists_opened s schema table alias (Some c) at =
      ap (λ x. meaning_in scope x at) (sym (rolls-Exists s schema table alias (Some c)))
      ∙ ap (λ (h : Part). h at) (fold-roll-Expr Part (meaning_step scope) (Expr-F.Exists s schema table alias (Some c)))

  pub exists_is : (e : Expr) (s : Selected) (schema table : List ℕ) (alias : Option (List ℕ)) (condition : Option Expr)
      (at : Option Reading)
      (r : Reading) (selects holds : Meaning) →
      e ≡ V.Exists s schema table alias condition → Some r ≡ table_read scope schema table alias →
      selects ≡ selected_meaning scope r s →
      holds ≡ condition_meaning r (option_map (meaning_in scope) condition) →
      exists_meaning r selects holds ≡ meaning_in scope e at
  exists_is e s schema table alias condition at r selects holds is read selected held =
      ap₂ (exists_meaning r) selected held ∙ ap (exists_in scope s (option_map (meaning_in scope) condition)) read
      ∙ sym (exists_opened s schema table alias condition at) ∙ sym (ap (λ x. meaning_in scope x at) is)
