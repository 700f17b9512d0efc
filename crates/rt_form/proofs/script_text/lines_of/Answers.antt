use Rattle.rt_form.proofs.script_text.lines_of.Goals as goal

pub returns-in_err-lines : goal.returns-in_err-lines
returns-in_err-lines c = rw c.from_residual.ensures
    (λ o f w p h. c.in_err-lines.ensures h.opening h.framing h.entry h.polling h.ended)
