use Rattle.std.proofs.Common.{sym, ◌∙◌, arith}
use Rattle.std.specs.Fmt.{decimal}
use Rattle.std.proofs.lemmas.List.{append_cancel_left}
use Rattle.rt_form.proofs.Lists.{no_blank, off}
use Rattle.rt_form.proofs.script_text.slot_and_rest.Goals as goal

pub returns-in_err-slot : goal.returns-in_err-slot
returns-in_err-slot c = rw c.from_residual-in_err-slot.ensures (λ slot rest small is.
    c.in_err-slot.ensures (decimal slot) rest (no_blank slot (omega arith))
    (append_cancel_left c.args.word.now _ _ (sym c.in_ok-behind.ensures ∙ is)))

pub returns-in_err-slot_of : goal.returns-in_err-slot_of
returns-in_err-slot_of c = rw c.from_residual-in_err-slot_of.ensures (λ slot rest small is.
    let one = off 32 _ _ _ (decimal slot) rest c.in_ok-slot.ensures (no_blank slot (omega arith))
    (append_cancel_left c.args.word.now _ _ (sym c.in_ok-behind.ensures ∙ is)) in
    c.in_err-slot_of.ensures slot small one.0)
