-- What reading tokens from the first on answers.
use Rattle.std.specs.Prelude.{◌≡◌, ℕ, List, Some, Result, Ok, Err}
use Rattle.rt_value.specs.Places.{next, ends, stuck, run, Ends, Breaks}
use Rattle.rt_sql.specs.Lexeme.{Lexeme}
use Rattle.rt_policy.specs.Grammar.{Written}
use Rattle.rt_policy.specs.Machine.{To, step, start}
use Rattle.rt_policy.specs.declared.building.State.{State}
use Rattle.rt_policy.specs.declared.expr.Expr.{Expr}
use Rattle.rt_policy.specs.declared.fault.ExprFault.{ExprFault}
use Rattle.rt_policy.specs.declared.fault.ExprFault.TheVariants.{NoMemory, BadExpr, TooDeep, UnknownName, BadType}
use Rattle.rt_tree.specs.declared.building.Halt.{Halt}
use Rattle.rt_tree.specs.declared.building.Halt.TheVariants as halt

-- the answer to the token of this number
abbrev pub Advances : ℕ → Result State Halt → To → Type 0
Advances n (Ok s) a = a ≡ next s
Advances n (Err (halt.End e at)) a = (a ≡ ends e) × (at ≡ n)
Advances n (Err (halt.Bad at)) a = (a ≡ stuck) × (at ≡ n)
Advances n (Err halt.NoMemory) a = Unit {0}

-- the state behind the tokens, or where they stop before
abbrev pub Ran : List Lexeme → Result State Halt → Type 0
Ran xs (Ok s) = run step xs start ≡ Some s
Ran xs (Err (halt.End e at)) = Ends Written xs at e
Ran xs (Err (halt.Bad at)) = Breaks Written xs at
Ran xs (Err halt.NoMemory) = Unit {0}

-- the tree and its end, or the place of the fault
abbrev pub Built : List Lexeme → Result (Expr × ℕ) ExprFault → Type 0
Built xs (Ok r) = Ends Written xs r.1 r.0
Built xs (Err (BadExpr at)) = Breaks Written xs at
Built xs (Err NoMemory) = Unit {0}
Built xs (Err (TooDeep to long)) = ⊥
Built xs (Err UnknownName) = ⊥
Built xs (Err BadType) = ⊥
