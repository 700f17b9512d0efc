use Rattle.std.proofs.Common.{sym, ◌∙◌}
use Rattle.rt_form.proofs.Equal.{frame_twice, untrue}
use Rattle.rt_form.proofs.join.texts_of.Goals as goal

pub returns-in_err-topic-2 : goal.returns-in_err-topic-2
returns-in_err-topic-2 c = rw c.from_residual-in_err-topic-2.ensures (λ t r h.
    c.in_err-topic-2.ensures t (frame_twice _ _ _ _ _ _ (sym c.in_ok-topic.ensures ∙ h)).0)

pub returns-in_err-reference : goal.returns-in_err-reference
returns-in_err-reference c = rw c.from_residual-in_err-reference.ensures (λ t r h.
    c.in_err-reference.ensures r (frame_twice _ _ _ _ _ _ (sym c.in_ok-topic.ensures ∙ h)).2)

pub returns-else-is_payload : goal.returns-else-is_payload
returns-else-is_payload c = λ t r h.
    untrue (sym c.if-is_payload.false ∙ c.is_payload.ensures.1
    (frame_twice _ _ _ _ _ _ (sym c.in_ok-topic.ensures ∙ h)).1)
