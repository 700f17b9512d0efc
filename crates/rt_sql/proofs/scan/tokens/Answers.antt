use Rattle.rt_sql.proofs.Borders.{each_of}
use Rattle.rt_sql.proofs.scan.tokens.Goals as goal

pub returns-clause-each : goal.returns-clause-each
returns-clause-each c = each_of (λ v. v.items) c.args.text.now c.as_bytes.result.now c.utf8.text c.as_bytes.ensures.value c.byte_tokens.result c.byte_tokens.ensures.ok
