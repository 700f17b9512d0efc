use Rattle.std.proofs.lemmas.Result.{err_from_is_err_and}
use Rattle.rt_json.proofs.Chars.{low_first_err, low_second_err, low_is}
use Rattle.rt_json.proofs.text.low_half.Goals as goal

pub returns-in_err-byte : goal.returns-in_err-byte
returns-in_err-byte c =
    let p = err_from_is_err_and c.from_residual.result c.from_residual.ensures.1 in
    rw (p.1, p.2) (low_first_err c.args.bytes.now c.args.at c.in_err-byte.field-0.0 c.requires c.in_err-byte.ensures)

pub returns-in_err-byte-2 : goal.returns-in_err-byte-2
returns-in_err-byte-2 c =
    let p = err_from_is_err_and c.from_residual-in_err-byte-2.result c.from_residual-in_err-byte-2.ensures.1 in
    rw (p.1, p.2) (low_second_err c.args.bytes.now c.args.at c.in_err-byte-2.field-0.0 c.in_ok-byte.ensures c.in_err-byte-2.ensures)

pub returns : goal.returns
returns c = low_is c.args.bytes.now c.args.at c.unit.result c.in_ok-byte.ensures c.in_ok-byte-2.ensures c.unit.ensures
