use Rattle.std.proofs.Common.{◌≡◌, Some, sym, ◌∙◌}
use Rattle.rt_filter.proofs.Readings.{reading_is, is_filter}
use Rattle.rt_filter.proofs.laws.one_reading.Goals as goal

pub returns : goal.returns
returns c = record {
  one = λ text f g v w. (let e : Some f ≡ Some g = sym (reading_is text f v) ∙ reading_is text g w in cc);
  computed = λ text f. (reading_is text f, is_filter text f);
}
