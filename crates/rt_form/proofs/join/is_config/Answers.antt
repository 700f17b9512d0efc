use Rattle.std.proofs.Common.{sym, ◌∙◌}
use Rattle.rt_form.proofs.Equal.{two_twice, two_equal, untrue}
use Rattle.rt_form.proofs.join.is_config.Goals as goal

pub returns-then-is_off : goal.returns-then-is_off
returns-then-is_off c = (
  (λ t. c.in-Some.ensures ∙ two_equal _ _ _ _ _ _ (c.is_off.ensures.0 c.if-is_off.true) (c.is_one_binding.ensures.0 t)),
  (λ h. c.is_one_binding.ensures.1 (two_twice _ _ _ _ _ _ _ c.in-Some.ensures h).1),
)

pub returns-else-is_off : goal.returns-else-is_off
returns-else-is_off c = (
  (λ t. untrue (sym c.if-is_off.false ∙ t)),
  (λ h. c.is_off.ensures.1 (two_twice _ _ _ _ _ _ _ c.in-Some.ensures h).0),
)

pub returns-in-None : goal.returns-in-None
returns-in-None c = ((λ t. untrue t), (λ h. absurd (c.in-None.ensures _ _ h)))
