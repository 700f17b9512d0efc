use Rattle.rt_entry.proofs.Journals.{story_grows, tables_grow}
use Rattle.rt_entry.proofs.laws.stories.story_grows.Goals as goal

pub returns : goal.returns
returns c = record { now = story_grows; tables = tables_grow }
