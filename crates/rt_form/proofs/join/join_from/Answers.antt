use Rattle.std.proofs.Common.{codes, sym, ◌∙◌}
use Rattle.std.proofs.lemmas.List.{append_cancel_left}
use Rattle.rt_form.proofs.Equal.{frame_twice, same_join, text_twice}
use Rattle.rt_form.proofs.join.join_from.Goals as goal

pub returns-in_ok-reference-in-Some-clause-only : goal.returns-in_ok-reference-in-Some-clause-only
returns-in_ok-reference-in-Some-clause-only c = λ join h.
    let same = frame_twice _ _ _ _ _ _ (sym c.in-Some.ensures.0 ∙ h.0) in
    let topics = text_twice c.in-Some.topic.now join.topic same.0 in
    let channels = append_cancel_left (codes "realtime:") c.in-Some.channel.now join.channel
    (sym c.in-Some.ensures.1.0 ∙ topics ∙ h.1.0) in
    same_join _ join (c.in_ok-topic-in-Some.ensures ∙ topics)
    (c.new-channel.ensures ∙ c.in_ok-from_str-in-Some.ensures.ok ∙ channels)
    (c.in_ok-reference-in-Some.ensures ∙ text_twice _ _ same.2)
