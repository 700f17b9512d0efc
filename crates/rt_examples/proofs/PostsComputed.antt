-- Computed.
use Rattle.std.proofs.Common.{refl}
use Rattle.rt_examples.specs.Computes.{computes}
use Rattle.rt_examples.specs.Posts.{PostsAreHeard}

pub posts_are_heard_holds : PostsAreHeard
unfolding computes
posts_are_heard_holds = refl
