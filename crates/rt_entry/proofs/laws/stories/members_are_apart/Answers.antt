use Rattle.rt_entry.proofs.Once.{numbers_apart, topics_apart}
use Rattle.rt_entry.proofs.laws.stories.members_are_apart.Goals as goal

pub returns : goal.returns
returns c = record { numbers = numbers_apart; topics = topics_apart }
