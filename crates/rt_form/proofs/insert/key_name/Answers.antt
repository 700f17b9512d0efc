use Rattle.rt_form.proofs.Equal.{items_twice, one_head}
use Rattle.rt_form.proofs.insert.key_name.Goals as goal

pub returns-in_err-name : goal.returns-in_err-name
returns-in_err-name c = rw c.from_residual-in_err-name.ensures
    (λ name h. c.in_err-name.ensures name h.kind (one_head (items_twice _ _ _ c.in_ok-key.ensures h.is)))
