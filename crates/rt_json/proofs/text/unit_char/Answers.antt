use Rattle.std.proofs.lemmas.Result.{err_from_is_err_and}
use Rattle.rt_json.proofs.Chars.{char_err, char_one, char_pair, high_from, no_scalar}
use Rattle.rt_json.proofs.text.unit_char.Goals as goal

pub returns-in_err-first : goal.returns-in_err-first
returns-in_err-first c =
    let p = err_from_is_err_and c.from_residual.result c.from_residual.ensures.1 in
    rw (p.1, p.2) (char_err c.args.bytes.now c.args.at c.in_err-first.field-0.0 c.in_err-first.ensures)

pub returns-in-Some : goal.returns-in-Some
returns-in-Some c = char_one c.args.bytes.now c.args.at c.in_ok-first.first c.in-Some.ch c.in_ok-first.ensures c.in-Some.ensures.value.0 c.in-Some.ensures.value.1

pub pair-requires-clause-from : goal.pair-requires-clause-from
pair-requires-clause-from c = (high_from c.args.bytes.now c.args.at c.in_ok-first.first c.in_ok-first.ensures c.in-None.ensures.value).0

pub pair-requires-clause-below : goal.pair-requires-clause-below
pair-requires-clause-below c = (high_from c.args.bytes.now c.args.at c.in_ok-first.first c.in_ok-first.ensures c.in-None.ensures.value).1

pub returns-in-None : goal.returns-in-None
returns-in-None c =
    char_pair c.args.bytes.now c.args.at c.in_ok-first.first c.pair.result c.in_ok-first.ensures (no_scalar c.in_ok-first.first c.in-None.ensures.value) c.pair.ensures
