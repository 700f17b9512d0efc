use Rattle.rt_token.proofs.Accepted.{accepted}
use Rattle.rt_token.proofs.Digests.{tag_bytes}
use Rattle.rt_token.proofs.laws.signed_passes.Goals as goal

pub returns : goal.returns
returns c = λ secret claims seconds bytes. accepted secret claims bytes (tag_bytes secret) seconds
