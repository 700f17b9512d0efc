use Rattle.std.proofs.Common.{take}
use Rattle.rt_sql.specs.Lexeme.{lexemes}
use Rattle.rt_sketch.specs.Recognized.{Follows}
use Rattle.rt_sketch.proofs.measuring.recognized.Given as goal

abbrev pub invariant-loop-n : goal.invariant-loop-n
invariant-loop-n l = Follows (take l.n (lexemes l.text l.tokens)) l.sketch
