use Rattle.rt_lines.proofs.Numbers.{none_read, other_read, is_number, small}
use Rattle.rt_lines.proofs.words.number_of.Goals as goal

pub returns-in-Err : goal.returns-in-Err
returns-in-Err c = none_read c.args.text.now c.parse.result c.in-Err.is c.parse.ensures.value.0

pub returns-then-eq : goal.returns-then-eq
returns-then-eq c =
    let read = c.in-Ok.ensures.value.0 in
    is_number c.args.text.now c.format.result.now c.in-Ok.number c.eq.result (small _ _ read.0.1 read.1) c.format.ensures.text c.eq.ensures
    c.if-eq.true

pub returns-else-eq : goal.returns-else-eq
returns-else-eq c =
    other_read c.args.text.now c.format.result.now c.parse.result c.in-Ok.number c.eq.result
    c.in-Ok.is c.parse.ensures.value.0 c.format.ensures.text c.eq.ensures c.if-eq.false
