use Rattle.rt_examples.proofs.PostsComputed.{posts_are_heard_holds}
use Rattle.rt_examples.proofs.posts.Goals as goal

pub returns : goal.returns
returns c = posts_are_heard_holds
