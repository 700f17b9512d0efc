-- What recognizing tokens from the first on answers.
use Rattle.std.specs.Prelude.{◌≡◌, ℕ, List, Some, Result, Ok, Err}
use Rattle.rt_value.specs.Places.{next, ends, stuck, run, Ends, Breaks}
use Rattle.rt_sql.specs.Lexeme.{Lexeme}
use Rattle.rt_policy.specs.Grammar.{Written}
use Rattle.rt_policy.specs.Machine as m
use Rattle.rt_policy.specs.declared.expr.Expr.{Expr}
use Rattle.rt_policy.specs.declared.building.State.{State}
use Rattle.rt_sketch.specs.Heights.{height}
use Rattle.rt_sketch.specs.Sketch.{On}
use Rattle.rt_sketch.specs.Sketched.{sketch_of, IsLeafMode}
use Rattle.rt_sketch.specs.declared.sketch.Sketch.{Sketch}
use Rattle.rt_sketch.specs.declared.measuring.Halted.{Halted}
use Rattle.rt_sketch.specs.declared.measuring.Halted.TheVariants as halted

-- the sketch is of the state behind the tokens
pub record Follows (xs : List Lexeme) (sketch : Sketch) : Type 0 where
  pub state : State
  pub reached : run m.step xs m.start ≡ Some state
  pub kept : sketch_of state ≡ sketch
  pub leaf : IsLeafMode state.mode

-- the answer to the token of this number
abbrev pub Draws : ℕ → Result Sketch Halted → On → Type 0
Draws n (Ok s) a = a ≡ next s
Draws n (Err (halted.End at h)) a = (a ≡ ends h) × (at ≡ n)
Draws n (Err (halted.Bad at)) a = (a ≡ stuck) × (at ≡ n)
Draws n (Err halted.NoMemory) a = Unit {0}

-- an expression of this height ends before the token of this number
pub record EndsAt (xs : List Lexeme) (at h : ℕ) : Type 0 where
  pub tree : Expr
  pub ends : Ends Written xs at tree
  pub height : height tree ≡ h

abbrev pub Halts : List Lexeme → Halted → Type 0
Halts xs (halted.End at h) = EndsAt xs at h
Halts xs (halted.Bad at) = Breaks Written xs at
Halts xs halted.NoMemory = Unit {0}

abbrev pub Ran : List Lexeme → Result Sketch Halted → Type 0
Ran xs (Ok s) = Follows xs s
Ran xs (Err h) = Halts xs h
