use Rattle.std.proofs.Common.{◌≡◌, drop}
use Rattle.rt_lexeme.specs.Among.{sign_among}
use Rattle.rt_lexeme.proofs.classes.sign_among.Given as goal

abbrev pub invariant-loop-class : goal.invariant-loop-class
invariant-loop-class l = sign_among l.bytes (drop l.class-index l.signs) ≡ sign_among l.bytes l.signs
