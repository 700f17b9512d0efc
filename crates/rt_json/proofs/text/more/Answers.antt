use Rattle.std.proofs.Common.{arith, ◌∙◌}
use Rattle.std.specs.Prelude.{string_bytes}
use Rattle.rt_json.proofs.Texts.{piece_leads, escape_leads, control_breaks, stops_here}
use Rattle.rt_json.proofs.text.more.Goals as goal

pub loop-text-preserved : goal.loop-text-preserved
loop-text-preserved c =
    let bytes = c.args.bytes.now in
    let next = c.past_plain-next.result in
    let l1 = piece_leads bytes c.args.at c.loop-text.to next (string_bytes c.args.front) (string_bytes c.loop-text.text) c.in_ok-piece.piece.now (string_bytes c.push_str.new.self)
    c.loop-text.invariant.same c.in_ok-piece.ensures c.in_ok-push_str.ensures.bytes in
    let k = c.in_ok-ch.ensures in
    let past = k.0 in
    record {
      from = omega (arith, past);
      within = k.1;
      same = escape_leads bytes c.args.at next c.in_ok-ch.after c.in_ok-ch.ch (string_bytes c.args.front) (string_bytes c.push_str.new.self) (string_bytes c.push.new.self)
          l1 (omega arith) c.if-stop-ne92.false k c.in_ok-push.ensures.bytes;
    }

pub returns-then-stop-ne92 : goal.returns-then-stop-ne92
returns-then-stop-ne92 c = λ stack slot.
    let bytes = c.args.bytes.now in
    let next = c.past_plain-next.result in
    let l1 = piece_leads bytes c.args.at c.loop-text.to next (string_bytes c.args.front) (string_bytes c.loop-text.text) c.in_ok-piece.piece.now (string_bytes c.push_str.new.self)
    c.loop-text.invariant.same c.in_ok-piece.ensures c.in_ok-push_str.ensures.bytes in
    l1 stack slot ∙ control_breaks bytes next (string_bytes c.push_str.new.self) (omega arith) (stops_here bytes c.loop-text.to next c.past_plain-next.ensures.rest) c.if-stop-eq34.false c.if-stop-ne92.true stack slot
