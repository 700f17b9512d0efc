use Rattle.rt_entry.proofs.Crossing.{ChannelView-crosses}
use Rattle.rt_entry.proofs.sharing.views_may_be_shared.Goals as goal

pub returns-clause-view : goal.returns-clause-view
returns-clause-view c = ChannelView-crosses c.data_may_be_shared.ensures.text c.trees_may_be_shared.ensures.json
