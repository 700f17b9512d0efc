use Rattle.rt_script.proofs.OneStream.{ends_once}
use Rattle.rt_script.proofs.laws.one_stream.Goals as goal

pub returns : goal.returns
returns c = ends_once
