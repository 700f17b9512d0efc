-- One level of a judge at a time: what a fold over it is.
use Rattle.std.proofs.Common.{◌≡◌, ℕ, List, [], ◌∷◌, map, sym, ap, ap₂, ◌∙◌}
use Rattle.rt_value.specs.declared.value.Value.{Value}
use Rattle.rt_policy.specs.declared.judge.Comparison.{Comparison}
use Rattle.rt_policy.specs.declared.judge.Comparison.TheVariants.{Equal}
use Rattle.rt_policy.specs.declared.judge.Judge.{Judge}
use Rattle.rt_policy.specs.declared.judge.Judge.TheVariants as judge
use Rattle.rt_policy.specs.declared.judge.Judge.TheOpen.{Judge-F}
use Rattle.rt_policy.specs.declared.judge.Judge.TheFolds.{fold-Judge, fold-roll-Judge}

module _ (A : Type 0) (step : Judge-F A → A) where
  pub fold_literal : (v : Value) → fold-Judge A step (judge.Literal v) ≡ step (Judge-F.Literal v)
  fold_literal v = ap (fold-Judge A step) (sym (judge.rolls-Literal v)) ∙ fold-roll-Judge A step (Judge-F.Literal v)

  pub fold_outer : (n : ℕ) → fold-Judge A step (judge.Outer n) ≡ step (Judge-F.Outer n)
  fold_outer n = ap (fold-Judge A step) (sym (judge.rolls-Outer n)) ∙ fold-roll-Judge A step (Judge-F.Outer n)

  pub fold_inner : (n : ℕ) → fold-Judge A step (judge.Inner n) ≡ step (Judge-F.Inner n)
  fold_inner n = ap (fold-Judge A step) (sym (judge.rolls-Inner n)) ∙ fold-roll-Judge A step (Judge-F.Inner n)

  pub fold_uid : fold-Judge A step judge.Uid ≡ step Judge-F.Uid
  fold_uid = ap (fold-Judge A step) (sym judge.rolls-Uid) ∙ fold-roll-Judge A step Judge-F.Uid

  pub fold_compare : (op : Comparison) (a b : Judge)
      → fold-Judge A step (judge.Compare op a b) ≡ step (Judge-F.Compare op (fold-Judge A step a) (fold-Judge A step b))
  fold_compare op a b =
      ap (fold-Judge A step) (sym (judge.rolls-Compare op a b)) ∙ fold-roll-Judge A step (Judge-F.Compare op a b)

  pub fold_and : (js : List Judge) → fold-Judge A step (judge.And js) ≡ step (Judge-F.And (map (fold-Judge A step) js))
  fold_and js = ap (fold-Judge A step) (sym (judge.rolls-And js)) ∙ fold-roll-Judge A step (Judge-F.And js)

  pub fold_exists : (t : ℕ) (c : Judge)
      → fold-Judge A step (judge.Exists t c) ≡ step (Judge-F.Exists t (fold-Judge A step c))
  fold_exists t c = ap (fold-Judge A step) (sym (judge.rolls-Exists t c)) ∙ fold-roll-Judge A step (Judge-F.Exists t c)

  -- by what the folds over the parts are
  pub equal_is : (a b : Judge) (x y : A) → fold-Judge A step a ≡ x → fold-Judge A step b ≡ y
      → fold-Judge A step (judge.Compare Equal a b) ≡ step (Judge-F.Compare Equal x y)
  equal_is a b x y e k = fold_compare Equal a b ∙ ap₂ (λ v w. step (Judge-F.Compare Equal v w)) e k

  pub both_are : (a b : Judge) (x y : A) → fold-Judge A step a ≡ x → fold-Judge A step b ≡ y
      → fold-Judge A step (judge.And (a ∷ b ∷ [])) ≡ step (Judge-F.And (x ∷ y ∷ []))
  both_are a b x y e k = fold_and (a ∷ b ∷ []) ∙ ap₂ (λ v w. step (Judge-F.And (v ∷ w ∷ []))) e k
