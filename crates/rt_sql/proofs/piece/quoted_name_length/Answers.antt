use Rattle.rt_sql.proofs.Quotes.{name_front, no_name_front}
use Rattle.rt_sql.proofs.piece.quoted_name_length.Goals as goal

pub returns-then-length-gt2 : goal.returns-then-length-gt2
returns-then-length-gt2 c = name_front c.args.text.now c.in_quotes_length-length.result c.in_quotes_length-length.ensures c.if-length-gt2.true

pub returns-else-length-gt2 : goal.returns-else-length-gt2
returns-else-length-gt2 c = no_name_front c.args.text.now c.in_quotes_length-length.result c.in_quotes_length-length.ensures c.if-length-gt2.false
