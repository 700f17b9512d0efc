-- SQL's three truth values (PostgreSQL, "Logical Operators", "Comparison Functions and Operators"), and the values at an expression's leaves.
use Rattle.std.specs.Prelude.{ℕ, Bool, true, false, not, List, [], ◌∷◌, Option, Some, None, slice_get, unwrap_or}
use Rattle.std.specs.declared.cmp.Ordering.{Ordering}
use Rattle.std.specs.declared.cmp.Ordering.TheVariants.{Less, Equal, Greater}
use Rattle.rt_value.specs.declared.value.Value.{Value}
use Rattle.rt_value.specs.declared.value.Value.TheVariants as value
use Rattle.rt_value.specs.declared.row.Row.{Row}
use Rattle.rt_value.specs.Order.{compared as order_of}
use Rattle.rt_policy.specs.declared.judge.Comparison.{Comparison}
use Rattle.rt_policy.specs.declared.judge.Comparison.TheVariants as comparison
use Rattle.rt_policy.specs.declared.judge.Tested.{Tested}
use Rattle.rt_policy.specs.declared.judge.Tested.TheVariants as tested
use Rattle.rt_policy.specs.declared.judge.Truth.{Truth}
use Rattle.rt_policy.specs.declared.judge.Truth.TheVariants.{True, False, Unknown}

abbrev pub truth_from : Bool → Truth
truth_from true = True
truth_from false = False

-- a value as a truth: a truth value that is null is unknown
abbrev pub truth_in : Value → Truth
truth_in (value.Bool b) = truth_from b
truth_in _ = Unknown

-- a truth as a value
abbrev pub worth_of_truth : Truth → Value
worth_of_truth True = value.Bool true
worth_of_truth False = value.Bool false
worth_of_truth Unknown = value.Null

abbrev pub is_true : Truth → Bool
is_true True = true
is_true _ = false

-- NOT of unknown is unknown
abbrev pub not_of : Truth → Truth
not_of True = False
not_of False = True
not_of Unknown = Unknown

-- AND is false where a side is false, true where both are true, else unknown
abbrev pub and_of : Truth → Truth → Truth
and_of False b = False
and_of True b = b
and_of Unknown False = False
and_of Unknown _ = Unknown

-- OR is true where a side is true, false where both are false, else unknown
abbrev pub or_of : Truth → Truth → Truth
or_of True b = True
or_of False b = b
or_of Unknown True = True
or_of Unknown _ = Unknown

-- AND and OR of any number
abbrev pub all_of : List Value → Truth
all_of [] = True
all_of (v ∷ vs) = and_of (truth_in v) (all_of vs)

abbrev pub any_of : List Value → Truth
any_of [] = False
any_of (v ∷ vs) = or_of (truth_in v) (any_of vs)

-- whether the order of two sides is one that the comparison asks for
abbrev pub agrees : Comparison → Ordering → Bool
agrees comparison.Equal Equal = true
agrees comparison.NotEqual Less = true
agrees comparison.NotEqual Greater = true
agrees comparison.Less Less = true
agrees comparison.LessOrEqual Less = true
agrees comparison.LessOrEqual Equal = true
agrees comparison.Greater Greater = true
agrees comparison.GreaterOrEqual Greater = true
agrees comparison.GreaterOrEqual Equal = true
agrees _ _ = false

abbrev pub decided : Comparison → Option Ordering → Truth
decided op None = Unknown
decided op (Some o) = truth_from (agrees op o)

-- a comparison with a null side is unknown
abbrev pub compared : Comparison → Value → Value → Truth
compared op a b = decided op (order_of a b)

-- IN is the OR of the equalities
abbrev pub one_of : Value → List Value → Truth
one_of a [] = False
one_of a (b ∷ more) = or_of (compared comparison.Equal a b) (one_of a more)

-- IS, which is never unknown
abbrev pub is_tested : Tested → Value → Bool
is_tested tested.Null value.Null = true
is_tested tested.Unknown value.Null = true
is_tested tested.True (value.Bool b) = b
is_tested tested.False (value.Bool b) = not b
is_tested _ _ = false

-- the value of a row's column, null where the row hasn't so many
abbrev pub cell_at : Row → ℕ → Value
cell_at row n = unwrap_or (slice_get row.values n) value.Null

abbrev pub cell_of : Option Row → ℕ → Value
cell_of None n = value.Null
cell_of (Some row) n = cell_at row n
