use Rattle.rt_form.proofs.NumberTexts.{unread, other_text}
use Rattle.rt_form.proofs.numbers.number_of.Goals as goal

pub returns-in-Err : goal.returns-in-Err
returns-in-Err c = λ n small is. unread c.args.text.now c.parse.result n small is c.in-Err.is c.parse.ensures.value.0

pub returns-else-eq : goal.returns-else-eq
returns-else-eq c = λ n small is.
    other_text c.args.text.now c.format.result.now c.parse.result c.in-Ok.number n c.eq.result small is
    c.in-Ok.is c.parse.ensures.value.0 c.format.ensures.text c.eq.ensures c.if-eq.false
