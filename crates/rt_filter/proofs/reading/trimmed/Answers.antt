use Rattle.rt_filter.proofs.Spaces.{trims}
use Rattle.rt_filter.proofs.reading.trimmed.Goals as goal

pub returns : goal.returns
returns c = trims _ _ _ c.trim_start_matches.ensures.matches c.trim_end_matches.ensures.matches
