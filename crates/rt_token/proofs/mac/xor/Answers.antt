use Rattle.std.proofs.Common.{rules, bit_xor}
use Rattle.std.proofs.lemmas.List.Edits.{map_over_more}
use Rattle.rt_token.proofs.mac.xor.Goals as goal

pub loop-byte-preserved : goal.loop-byte-preserved
loop-byte-preserved c = search (rules, map_over_more (λ b. bit_xor b c.args.pad))
