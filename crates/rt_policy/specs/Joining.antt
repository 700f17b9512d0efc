-- How the values of a list of expressions give one truth, one after another.
use Rattle.std.specs.Prelude.{List}
use Rattle.rt_value.specs.declared.value.Value.{Value}
use Rattle.rt_policy.specs.declared.joining.Joining.{Joining}
use Rattle.rt_policy.specs.declared.joining.Joining.TheVariants.{And, Or, EqualTo}
use Rattle.rt_policy.specs.declared.judge.Comparison.TheVariants as comparison
use Rattle.rt_policy.specs.declared.judge.Truth.{Truth}
use Rattle.rt_policy.specs.declared.judge.Truth.TheVariants.{True, False}
use Rattle.rt_value.specs.Lent.{value_of}
use Rattle.rt_policy.specs.Truth.{truth_in, compared, and_of, or_of, all_of, any_of, one_of}

abbrev pub joined : Joining → List Value → Truth
joined And vs = all_of vs
joined Or vs = any_of vs
joined (EqualTo x) vs = one_of (value_of x) vs

-- what no value gives
abbrev pub none_of : Joining → Truth
none_of And = True
none_of Or = False
none_of (EqualTo x) = False

-- what one value gives
abbrev pub truth_by : Joining → Value → Truth
truth_by And v = truth_in v
truth_by Or v = truth_in v
truth_by (EqualTo x) v = compared comparison.Equal (value_of x) v

abbrev pub combined : Joining → Truth → Truth → Truth
combined And a b = and_of a b
combined Or a b = or_of a b
combined (EqualTo x) a b = or_of a b
