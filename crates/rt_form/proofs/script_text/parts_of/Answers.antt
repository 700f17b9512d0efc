use Rattle.std.proofs.Common.{◌++◌, sym, ◌∙◌, arith, codes}
use Rattle.rt_form.proofs.Lists.{same_lines, same_slot, unequal_texts}
use Rattle.rt_form.proofs.script_text.parts_of.Goals as goal

pub returns-in_err-lines : goal.returns-in_err-lines
returns-in_err-lines c = rw c.from_residual.ensures
    (λ slot claims frame entry h. c.in_err-lines.ensures _ _ _ _ h.1)

pub returns-in_err-slot : goal.returns-in_err-slot
returns-in_err-slot c = rw c.from_residual-in_err-slot.ensures (λ slot claims frame entry h.
    let s = same_lines c.in_ok-lines.ensures h.1 in c.in_err-slot.ensures slot (codes "1.0.0 " ++ claims) h.0 s.0)

pub returns-in_err-claims : goal.returns-in_err-claims
returns-in_err-claims c = rw c.from_residual-in_err-claims.ensures (λ slot claims frame entry h.
    let s = same_lines c.in_ok-lines.ensures h.1 in
    let one = same_slot (codes "open ") c.in_ok-slot.slot slot _ (codes "1.0.0 " ++ claims)
    (omega (arith, c.in_ok-slot.ensures.0)) (omega (arith, h.0)) (sym c.in_ok-slot.ensures.1 ∙ s.0) in
    c.in_err-claims.ensures claims one.1)

pub returns-in_err-framed : goal.returns-in_err-framed
returns-in_err-framed c = rw c.from_residual-in_err-framed.ensures (λ slot claims frame entry h.
    let s = same_lines c.in_ok-lines.ensures h.1 in c.in_err-framed.ensures slot frame h.0 s.1)

pub returns-in_err-line : goal.returns-in_err-line
returns-in_err-line c = rw c.from_residual-in_err-line.ensures (λ slot claims frame entry h.
    let s = same_lines c.in_ok-lines.ensures h.1 in c.in_err-line.ensures entry s.2)

pub returns-then-framed-slot : goal.returns-then-framed-slot
returns-then-framed-slot c = λ slot claims frame entry h.
    let s = same_lines c.in_ok-lines.ensures h.1 in
    let one = same_slot (codes "open ") c.in_ok-slot.slot slot _ (codes "1.0.0 " ++ claims)
    (omega (arith, c.in_ok-slot.ensures.0)) (omega (arith, h.0)) (sym c.in_ok-slot.ensures.1 ∙ s.0) in
    let two = same_slot (codes "frame ") c.in_ok-framed.framed slot _ frame (omega (arith, c.in_ok-framed.ensures.0))
    (omega (arith, h.0)) (sym c.in_ok-framed.ensures.1 ∙ s.1) in
    c.if-framed-slot.true (two.0 ∙ sym one.0)

pub returns-then-ne : goal.returns-then-ne
returns-then-ne c = λ slot claims frame entry h.
    let s = same_lines c.in_ok-lines.ensures h.1 in unequal_texts _ _ _ c.ne.ensures c.if-ne.true s.3
