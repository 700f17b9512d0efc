use Rattle.rt_catalog.proofs.Applied.{closed_written, texts_closed}
use Rattle.rt_catalog.proofs.laws.closed_is_written.Goals as goal

pub returns : goal.returns
returns c = record { lists = closed_written; texts = texts_closed }
