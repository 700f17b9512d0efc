use Rattle.std.proofs.Common.{arith}
use Rattle.rt_json.proofs.Kept.{more_behind}
use Rattle.rt_json.proofs.Prefixes.{text_goes_on, text_is_written}
use Rattle.rt_json.proofs.writing.write_text.Goals as goal

pub loop-out-preserved : goal.loop-out-preserved
loop-out-preserved c = record {
  within = omega arith;
  whole = text_goes_on c.args.text.now c.loop-out.at c.past_plain-next.result c.loop-out.out.items c.extend_from_slice.new.self.items c.write_byte.new.out.items _
      c.past_plain-next.ensures.from (omega arith) c.past_plain-next.ensures.rest c.loop-out.invariant.whole c.in_ok-extend_from_slice.ensures.items c.in_ok-write_byte.ensures.spelling;
  kept = more_behind _ _ _ _ (more_behind _ _ _ _ c.loop-out.invariant.kept c.in_ok-extend_from_slice.ensures.items) c.in_ok-write_byte.ensures.spelling;
}

pub returns-then-next-text-clause-spelling : goal.returns-then-next-text-clause-spelling
returns-then-next-text-clause-spelling c =
    text_is_written c.args.text.now c.loop-out.at c.past_plain-next.result c.args.out.now.items c.loop-out.out.items c.extend_from_slice.new.self.items c.push-then-next-text.new.self.items
    c.past_plain-next.ensures.from (omega arith) c.past_plain-next.ensures.rest c.loop-out.invariant.whole c.in_ok-extend_from_slice.ensures.items c.in_ok-push-2.ensures.items
