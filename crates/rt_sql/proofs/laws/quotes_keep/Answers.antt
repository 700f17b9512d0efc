use Rattle.rt_sql.proofs.Unquoting.{quoted_again}
use Rattle.rt_sql.proofs.laws.quotes_keep.Goals as goal

pub returns : goal.returns
returns c = quoted_again
