-- The policies of the examples: what each is of a row.
use Rattle.std.proofs.Common.{◌≡◌, ℕ, List, Bool, true, ◌&&◌, ap, ◌∙◌, max, suc}
use Rattle.std.proofs.Math.Nat.{max-zero as max_zero}
use Rattle.std.specs.Prelude.{codes, None}
use Rattle.std.specs.List.{list_any}
use Rattle.rt_value.specs.declared.value.Value.{Value}
use Rattle.rt_value.specs.declared.value.Value.TheVariants as value
use Rattle.rt_value.specs.declared.row.Row.{Row}
use Rattle.rt_policy.specs.declared.judge.Comparison.TheVariants.{Equal}
use Rattle.rt_policy.specs.declared.judge.Judge.{Judge}
use Rattle.rt_policy.specs.declared.judge.Judge.TheVariants as judge
use Rattle.rt_policy.specs.declared.judge.Judge.TheOpen.{Judge-F}
use Rattle.rt_policy.specs.declared.tables.TableRules.{TableRules}
use Rattle.rt_policy.specs.Ranks.{reach, reach_step, rank_of}
use Rattle.rt_policy.specs.Truth.{truth_in, is_true, worth_of_truth, compared, cell_at}
use Rattle.rt_policy.specs.Worth.{Who, View, Place, worth_step, truth, uuid_or_null, shows}
use Rattle.rt_examples.specs.Folds.{fold_literal, fold_outer, fold_inner, fold_uid, fold_exists, equal_is}

-- true
abbrev pub anyone : Judge
anyone = judge.Literal (value.Bool true)

-- auth.uid() = the second column
abbrev pub own : Judge
own = judge.Compare Equal judge.Uid (judge.Outer 1)

-- exists (select 1 from table 1 where its first column = the policy's first column)
abbrev pub is_of_room : Judge
is_of_room = judge.Compare Equal (judge.Inner 0) (judge.Outer 0)

abbrev pub is_shared : Judge
is_shared = judge.Exists 1 is_of_room

abbrev pub hi : Judge
hi = judge.Literal (value.Text (codes "hi"))

-- the second column = 'hi'
abbrev pub says_hi : Judge
says_hi = judge.Compare Equal (judge.Outer 1) hi

pub reach_anyone : (tables : List TableRules) → reach tables anyone ≡ 0
reach_anyone tables = fold_literal ℕ (reach_step tables) (value.Bool true)

pub reach_own : (tables : List TableRules) → reach tables own ≡ 0
reach_own tables =
    let step : Judge-F ℕ → ℕ = reach_step tables in
    equal_is ℕ step judge.Uid (judge.Outer 1) _ _ (fold_uid ℕ step) (fold_outer ℕ step 1)

pub reach_says_hi : (tables : List TableRules) → reach tables says_hi ≡ 0
reach_says_hi tables =
    let step : Judge-F ℕ → ℕ = reach_step tables in
    equal_is ℕ step (judge.Outer 1) hi _ _ (fold_outer ℕ step 1) (fold_literal ℕ step (value.Text (codes "hi")))

pub reach_is_shared : (tables : List TableRules) → reach tables is_shared ≡ suc (rank_of tables 1)
reach_is_shared tables =
    let step : Judge-F ℕ → ℕ = reach_step tables in
    fold_exists ℕ step 1 is_of_room
    ∙ ap (λ n. max (suc (rank_of tables 1)) n)
    (equal_is ℕ step (judge.Inner 0) (judge.Outer 0) _ _ (fold_inner ℕ step 0) (fold_outer ℕ step 0))
    ∙ max_zero (suc (rank_of tables 1))

-- two values are equal, where a comparison with null isn't true
abbrev pub are_same : Value → Value → Bool
are_same a b = is_true (truth_in (worth_of_truth (compared Equal a b)))

-- the caller's uuid is that of the second column
abbrev pub owns : Who → Row → Bool
owns who outer = are_same (uuid_or_null who.claims.sub) (cell_at outer 1)

module _ (who : Who) (view : View) where
  abbrev step : Judge-F (Place → Value) → Place → Value
  step = worth_step who view

  -- a fold is true of a row
  abbrev holds_of : Row → (Place → Value) → Bool
  holds_of outer f = is_true (truth_in (f (record { outer = outer; inner = None })))

  pub anyone_is : (outer : Row) → is_true (truth who view anyone outer) ≡ true
  anyone_is outer = ap (holds_of outer) (fold_literal (Place → Value) step (value.Bool true))

  pub own_is : (outer : Row) → is_true (truth who view own outer) ≡ owns who outer
  own_is outer =
      ap (holds_of outer)
      (equal_is (Place → Value) step judge.Uid (judge.Outer 1) _ _ (fold_uid (Place → Value) step)
      (fold_outer (Place → Value) step 1))

  pub says_hi_is : (outer : Row)
      → is_true (truth who view says_hi outer) ≡ are_same (cell_at outer 1) (value.Text (codes "hi"))
  says_hi_is outer =
      ap (holds_of outer)
      (equal_is (Place → Value) step (judge.Outer 1) hi _ _ (fold_outer (Place → Value) step 1)
      (fold_literal (Place → Value) step (value.Text (codes "hi"))))

  -- the inner row's first column is that of the row
  abbrev pub joins : Row → Row → Bool
  joins outer inner = are_same (cell_at inner 0) (cell_at outer 0)

  -- some row of the inner table is seen and joins
  abbrev pub is_joined : Row → Bool
  is_joined outer =
      is_true (truth_in (value.Bool (list_any (λ inner. view.sees 1 inner && joins outer inner) (view.rows 1))))

  abbrev shown_with : Row → (Place → Value) → Bool
  shown_with outer condition = is_true (truth_in (value.Bool (list_any (shows view 1 outer condition) (view.rows 1))))

  pub is_shared_is : (outer : Row) → is_true (truth who view is_shared outer) ≡ is_joined outer
  is_shared_is outer =
      ap (holds_of outer) (fold_exists (Place → Value) step 1 is_of_room)
      ∙ ap (shown_with outer)
      (equal_is (Place → Value) step (judge.Inner 0) (judge.Outer 0) _ _ (fold_inner (Place → Value) step 0)
      (fold_outer (Place → Value) step 0))
