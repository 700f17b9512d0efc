use Rattle.rt_json.proofs.Spelled.{list_written, object_written}
use Rattle.rt_json.proofs.writing.written_by_parts.Goals as goal

pub returns : goal.returns
returns c = record { list = list_written; object = object_written }
