use Rattle.rt_laws.proofs.PrivateDenied.{posts_run_out}
use Rattle.rt_laws.proofs.private.posts_run_out.Goals as goal

pub returns : goal.returns
returns c = posts_run_out
