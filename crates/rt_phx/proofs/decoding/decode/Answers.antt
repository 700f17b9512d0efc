use Rattle.rt_phx.proofs.Frames.{OneMessage, answer_found, answer_fault, answer_only, answer_bad}
use Rattle.rt_phx.proofs.decoding.decode.Goals as goal

pub returns : goal.returns
returns c =
    let one : OneMessage = record { computed = c.one_message.ensures.computed } in
    let version = c.args.version in
    let bytes = c.args.bytes.now in
    let is = c.computed.ensures in
    record {
      found = answer_found one version bytes c.computed.result is;
      fault = answer_fault one version bytes c.computed.result is;
      only = answer_only one version bytes c.computed.result is;
      bad = answer_bad one version bytes c.computed.result is;
      computed = is;
    }
