use Rattle.rt_json.proofs.WrittenUtf8.{more_utf8, quoted_utf8}
use Rattle.rt_json.proofs.writing.write_text_behind.Goals as goal

pub returns-in-Ok-clause-utf8 : goal.returns-in-Ok-clause-utf8
returns-in-Ok-clause-utf8 c = more_utf8 _ _ _ c.in-Ok.ensures.spelling (quoted_utf8 c.as_bytes.result.now c.as_bytes.ensures.utf8)
