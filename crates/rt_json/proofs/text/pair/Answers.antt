use Rattle.std.proofs.lemmas.Result.{err_from_is_err_and}
use Rattle.rt_json.proofs.Chars.{pair_ok, pair_scalar}
use Rattle.rt_json.proofs.text.pair.Goals as goal

pub returns-in_err-low : goal.returns-in_err-low
returns-in_err-low c =
    let p = err_from_is_err_and c.from_residual.result c.from_residual.ensures.1 in rw (p.1, p.2) (c.in_err-low.ensures c.args.high)

pub returns : goal.returns
returns c = pair_ok c.args.bytes.now c.args.at c.args.high c.in_ok-low.low c.in-Some.ch c.in_ok-low.ensures c.in-Some.ensures.value.1

pub unreachable-requires : goal.unreachable-requires
unreachable-requires c =
    c.in-None.ensures.value (pair_scalar c.args.high c.in_ok-low.low c.requires.from c.requires.below c.in_ok-low.ensures.1 c.in_ok-low.ensures.2)
