use Rattle.rt_token.proofs.Decoded.{decoded_iff}
use Rattle.rt_token.proofs.laws.one_spelling.Goals as goal

pub returns : goal.returns
returns c = λ part bytes p b. decoded_iff part bytes p b
