use Rattle.std.proofs.Common.{sym, ap, ◌∙◌, arith}
use lib.Count.{count_trailing_zeros}
use Rattle.rt_json.specs.Reads.{is_plain}
use Rattle.rt_json.proofs.Lanes.{run_bound, run_through, run_stops}
use Rattle.rt_json.proofs.Prefixes.{past_plain_behind}
use Rattle.rt_json.proofs.scan.past_plain.Goals as goal

pub returns-then-found-ne0 : goal.returns-then-found-ne0
returns-then-found-ne0 c =
    let bytes = c.args.bytes.now in
    let found = c.stops-found in
    let run = run_stops is_plain bytes c.loop-to.to 16 (omega arith) (omega arith) (omega (arith, found.ensures)) ∙ ap (count_trailing_zeros 64) (sym found.ensures) in
    let bound = run_bound is_plain bytes c.loop-to.to c.loop-to.invariant.1 in
    record { from = omega (arith, run, c.loop-to.invariant.0); within = omega (arith, run, bound); rest = past_plain_behind bytes c.args.at _ (omega (arith, run, c.loop-to.invariant.0)) }

pub loop-to-preserved : goal.loop-to-preserved
loop-to-preserved c =
    let run = run_through is_plain c.args.bytes.now c.loop-to.to 16 (omega arith) (omega (arith, c.stops-found.ensures)) in
    (omega (arith, run, c.loop-to.invariant.0), omega arith)

pub returns : goal.returns
returns c =
    let bytes = c.args.bytes.now in
    let run = c.past_plain_bytes.ensures in
    let bound = run_bound is_plain bytes c.loop-to.to c.loop-to.invariant.1 in
    record { from = omega (arith, run, c.loop-to.invariant.0); within = omega (arith, run, bound); rest = past_plain_behind bytes c.args.at _ (omega (arith, run, c.loop-to.invariant.0)) }
