use Rattle.std.proofs.Common.{◌∙◌, ap, sym}
use Rattle.rt_phx.specs.declared.parts.Parts.{Parts}
use Rattle.rt_phx.specs.Parts.{parts_with}
use Rattle.rt_phx.proofs.Reading.{among_more}
use Rattle.rt_phx.proofs.parts.Parts.among.Goals as goal

pub loop-member-preserved : goal.loop-member-preserved
loop-member-preserved c =
    c.with-parts.ensures ∙ ap (λ (p : Parts). parts_with p c.in-Some.member) c.loop-member.invariant
    ∙ sym (among_more c.loop-member.yielded c.in-Some.member)
