use Rattle.rt_examples.proofs.FiltersComputed.{both_filters_pass_holds, nine_are_too_many_holds, empty_is_bad_holds}
use Rattle.rt_examples.proofs.filters.Goals as goal

pub returns : goal.returns
returns c = record { pass = both_filters_pass_holds; many = nine_are_too_many_holds; empty = empty_is_bad_holds }
