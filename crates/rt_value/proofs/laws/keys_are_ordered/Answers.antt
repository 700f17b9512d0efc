use Rattle.rt_value.specs.TotalOrder.{key_total}
use Rattle.rt_value.proofs.Ties.{same_equal, same_from, agrees}
use Rattle.rt_value.proofs.laws.keys_are_ordered.Goals as goal

pub returns : goal.returns
returns c = record { total = key_total; same = λ k l. (same_equal k l, same_from k l); compares = agrees }
