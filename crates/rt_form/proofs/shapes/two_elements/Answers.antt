use Rattle.std.proofs.Common.{length, ap}
use Rattle.rt_form.proofs.Equal.{items_twice}
use Rattle.rt_form.proofs.shapes.two_elements.Goals as goal

pub returns-else-items-eq2 : goal.returns-else-items-eq2
returns-else-items-eq2 c = λ a b h. c.if-items-eq2.false (ap length (items_twice _ _ _ c.in_ok-items.ensures h))
