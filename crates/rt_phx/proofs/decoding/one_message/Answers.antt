use Rattle.rt_phx.proofs.Frames.{OneTree, message_computed, message_found, once}
use Rattle.rt_phx.proofs.decoding.one_message.Goals as goal

pub returns : goal.returns
returns c =
    let one : OneTree = record { computed = c.one_tree.ensures.computed } in
    record {
      one = once one;
      computed = λ version bytes message.
          (message_computed one version bytes message, message_found one version bytes message);
    }
