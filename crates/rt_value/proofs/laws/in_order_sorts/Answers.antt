use Rattle.std.specs.Prelude.{Contains}
use Rattle.rt_value.specs.Ordered.{in_order}
use Rattle.rt_value.proofs.Among.{to_contains}
use Rattle.rt_value.proofs.InOrder.{in_order_rises, strictly, all_of, in_order_among, in_order_ties, in_order_permuted}
use Rattle.rt_value.proofs.InOrder.{in_order_only}
use Rattle.rt_value.proofs.laws.in_order_sorts.Goals as goal

pub returns : goal.returns
returns g c =
    record {
      rises = λ cmp keys total. strictly cmp total (in_order cmp keys) (in_order_rises cmp total keys);
      among = λ cmp keys total.
          all_of cmp total (Contains keys) (in_order cmp keys)
          (λ y h. to_contains keys y (in_order_among cmp total keys y h));
      each = λ cmp keys total. in_order_ties cmp total keys;
      permutes = λ cmp keys total. in_order_permuted cmp total keys;
      only = λ cmp keys sorted total. in_order_only cmp total keys sorted;
    }
