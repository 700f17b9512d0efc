use Rattle.std.proofs.Common.{sym, ap, ◌∙◌, arith}
use lib.Count.{count_trailing_zeros}
use Rattle.rt_json.specs.Reads.{is_ascii_plain}
use Rattle.rt_json.proofs.Lanes.{run_bound, run_through, run_stops}
use Rattle.rt_json.proofs.scan.past_ascii.Goals as goal

pub returns-then-found-ne0-clause-run : goal.returns-then-found-ne0-clause-run
returns-then-found-ne0-clause-run c =
    let found = c.stops_or_high-found in
    let run = run_stops is_ascii_plain c.args.bytes.now c.loop-to.to 16 (omega arith) (omega arith) (omega (arith, found.ensures)) ∙ ap (count_trailing_zeros 64) (sym found.ensures) in
    omega (arith, run, c.loop-to.invariant.0)

pub returns-then-found-ne0-clause-within : goal.returns-then-found-ne0-clause-within
returns-then-found-ne0-clause-within c =
    let found = c.stops_or_high-found in
    let run = run_stops is_ascii_plain c.args.bytes.now c.loop-to.to 16 (omega arith) (omega arith) (omega (arith, found.ensures)) ∙ ap (count_trailing_zeros 64) (sym found.ensures) in
    omega (arith, run, run_bound is_ascii_plain c.args.bytes.now c.loop-to.to c.loop-to.invariant.1)

pub loop-to-preserved : goal.loop-to-preserved
loop-to-preserved c =
    let run = run_through is_ascii_plain c.args.bytes.now c.loop-to.to 16 (omega arith) (omega (arith, c.stops_or_high-found.ensures)) in
    (omega (arith, run, c.loop-to.invariant.0), omega arith)

pub returns-clause-within : goal.returns-clause-within
returns-clause-within c = omega (arith, run_bound is_ascii_plain c.args.bytes.now c.loop-to.to c.loop-to.invariant.1)
