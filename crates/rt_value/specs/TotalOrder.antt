-- The order of values, and that of keys, is total.
use Rattle.std.specs.Cmp.{IsTotalOrder, nat_cmp_total, int_cmp_total, bool_cmp_total, on_total, then_total}
use Rattle.std.specs.Cmp.Lexicographic.{nat_list_cmp_total, lists_total}
use Rattle.rt_value.specs.declared.row.Key.{Key}
use Rattle.rt_value.specs.Order.{value_cmp, key_cmp, variant_of, int_in, text_in, truth_in, uuid_in}

pub value_total : IsTotalOrder value_cmp
value_total =
    then_total (on_total variant_of nat_cmp_total) (then_total (on_total int_in int_cmp_total)
    (then_total (on_total text_in nat_list_cmp_total) (then_total (on_total truth_in bool_cmp_total) (on_total uuid_in nat_cmp_total))))

pub key_total : IsTotalOrder key_cmp
key_total = on_total (λ (k : Key). k.values) (lists_total value_total)
