use Rattle.std.proofs.Common.{◌≡◌, take, Some}
use Rattle.rt_value.specs.Places.{run}
use Rattle.rt_sql.specs.Lexeme.{lexemes}
use Rattle.rt_policy.specs.Machine as spec
use Rattle.rt_tree.proofs.building.run.Given as goal

abbrev pub invariant-loop-n : goal.invariant-loop-n
invariant-loop-n l = run spec.step (take l.n (lexemes l.text l.tokens)) spec.start ≡ Some l.state
