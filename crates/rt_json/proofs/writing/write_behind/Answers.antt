use Rattle.rt_json.proofs.WrittenTexts.{again}
use Rattle.rt_json.proofs.writing.write_behind.Goals as goal

pub returns-clause-again : goal.returns-clause-again
returns-clause-again c = again c.args.tree.now c.in_ok-write_value.ensures.texts
