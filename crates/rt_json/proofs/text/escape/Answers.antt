use Rattle.std.proofs.Common.{◌∙◌, sym, arith, ap, Some}
use Rattle.rt_json.proofs.Chars.{escape_end, escape_short, escape_not, escape_unit}
use Rattle.rt_json.proofs.text.escape.Goals as goal

pub returns-then-at-bytes : goal.returns-then-at-bytes
returns-then-at-bytes c = escape_end c.args.bytes.now c.args.at (omega arith)

pub returns-in-Some : goal.returns-in-Some
returns-in-Some c =
    escape_short c.args.bytes.now c.args.at c.from.result (omega arith) (sym c.in-Some.ensures ∙ ap Some (sym c.from.ensures))

pub returns-then-bytes-at-eq117 : goal.returns-then-bytes-at-eq117
returns-then-bytes-at-eq117 c =
    escape_unit c.args.bytes.now c.args.at c.unit_char.result (omega arith) (sym c.in-None.ensures) c.if-bytes-at-eq117.true c.unit_char.ensures

pub returns-else-bytes-at-eq117 : goal.returns-else-bytes-at-eq117
returns-else-bytes-at-eq117 c = escape_not c.args.bytes.now c.args.at (omega arith) (sym c.in-None.ensures) c.if-bytes-at-eq117.false
