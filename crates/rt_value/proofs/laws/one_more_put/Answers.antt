use Rattle.rt_value.proofs.OneMoreEdit.{put, moved, put_others}
use Rattle.rt_value.proofs.laws.one_more_put.Goals as goal

pub returns : goal.returns
returns c = record { new = put; moved = moved; others = put_others }
