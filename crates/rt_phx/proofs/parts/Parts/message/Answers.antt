use Rattle.std.proofs.Common.{List, ap, sym, ◌∙◌}
use Rattle.std.specs.Prelude.{unwrap_or}
use Rattle.rt_json.specs.declared.tree.Json.TheVariants as j
use Rattle.rt_json.specs.declared.tree.named.Member.{Member}
use Rattle.rt_phx.proofs.Reading.{of_both, parts_say}
use Rattle.rt_phx.proofs.parts.Parts.message.Goals as goal

pub returns : goal.returns
returns c =
    let payload = c.unwrap_or-payload.ensures ∙ ap (λ (ms : List Member). unwrap_or c.args.self.payload (j.Object ms))
    (c.new-2.ensures ∙ c.new.ensures.items) in
    sym (ap (of_both c.unwrap_or-payload.result) c.in_ok-topic.was)
    ∙ parts_say c.args.self _ _ _ _ _ _ _ _ c.text_in.ensures c.text_in-2.ensures c.ref_in.ensures c.ref_in-2.ensures
    payload c.zip-texts.ensures c.zip-refs.ensures c.zip.ensures

pub returns-in_err-topic : goal.returns-in_err-topic
returns-in_err-topic c =
    let payload = c.unwrap_or-payload.ensures ∙ ap (λ (ms : List Member). unwrap_or c.args.self.payload (j.Object ms))
    (c.new-2.ensures ∙ c.new.ensures.items) in
    c.from_residual.ensures ∙ sym (ap (of_both c.unwrap_or-payload.result) c.in_err-topic.was)
    ∙ parts_say c.args.self _ _ _ _ _ _ _ _ c.text_in.ensures c.text_in-2.ensures c.ref_in.ensures c.ref_in-2.ensures
    payload c.zip-texts.ensures c.zip-refs.ensures c.zip.ensures
