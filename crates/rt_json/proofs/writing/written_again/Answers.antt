use Rattle.rt_json.specs.Grammar.{max_levels}
use Rattle.rt_json.proofs.Back.{json_written}
use Rattle.rt_json.proofs.writing.written_again.Goals as goal

pub returns : goal.returns
returns c = json_written max_levels
