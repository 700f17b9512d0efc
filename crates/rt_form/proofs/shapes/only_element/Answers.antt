use Rattle.std.proofs.Common.{length, ap}
use Rattle.rt_form.proofs.Equal.{items_twice}
use Rattle.rt_form.proofs.shapes.only_element.Goals as goal

pub returns-else-items-eq1 : goal.returns-else-items-eq1
returns-else-items-eq1 c = λ item h. c.if-items-eq1.false (ap length (items_twice _ _ _ c.in_ok-items.ensures h))
