use Rattle.std.proofs.Common.{List, ℕ, sym, ◌∙◌, subst}
use Rattle.rt_form.specs.Script.{IsChannel}
use Rattle.rt_form.proofs.Equal.{frame_twice, text_twice}
use Rattle.rt_form.proofs.join.names_of.Goals as goal

pub returns-in_err-channel : goal.returns-in_err-channel
returns-in_err-channel c = rw c.from_residual-in_err-channel.ensures (λ t ch r h.
    let same = frame_twice _ _ _ _ _ _ (sym c.in_ok-topic.ensures ∙ h.0) in
    let P : List ℕ → Type 0 = λ x. IsChannel x ch in
    c.in_err-channel.ensures ch (subst P (sym (c.get.ensures.bytes ∙ text_twice _ _ same.0)) h.1))
