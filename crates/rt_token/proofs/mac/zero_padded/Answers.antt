use Rattle.std.proofs.Common.{ap, ◌++◌, ◌∙◌, length}
use Rattle.std.proofs.lemmas.List.{drop-replicate}
use Rattle.rt_token.proofs.mac.zero_padded.Goals as goal

pub returns : goal.returns
returns c = c.put_front.ensures ∙ ap (λ t. c.args.key.now ++ t) (drop-replicate (length c.args.key.now) 64 0)
