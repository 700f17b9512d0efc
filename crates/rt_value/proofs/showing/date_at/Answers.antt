use Rattle.rt_value.proofs.ShownText.{date_printed}
use Rattle.rt_value.proofs.showing.date_at.Goals as goal

pub returns : goal.returns
returns c = date_printed c.from_days_since_min.result c.args.day c.requires c.from_days_since_min.ensures
