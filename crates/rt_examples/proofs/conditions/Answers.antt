use Rattle.rt_examples.proofs.ConditionsComputed as computed
use Rattle.rt_examples.proofs.conditions.Goals as goal

pub returns : goal.returns
returns c =
    record {
      written = computed.members_read_is_written_holds;
      resolved = computed.members_read_is_resolved_holds;
      shared = computed.shared_is_resolved_holds;
      alias = computed.alias_hides_the_name_holds;
      inner = computed.inner_column_comes_first_holds;
      not_in = computed.not_in_is_negated_holds;
      cast = computed.cast_is_read_holds;
      range = computed.cast_out_of_range_holds;
      not_unknown = computed.is_not_unknown_holds;
      depth = computed.depth_is_counted_holds;
    }
