use Rattle.rt_value.proofs.SameRows.{same_rows}
use Rattle.rt_value.proofs.laws.rows_by_their_keys.Goals as goal

pub returns : goal.returns
returns c = same_rows
