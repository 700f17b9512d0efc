-- The one answer to an expression, and to a fault.
use Rattle.std.specs.Prelude.{◌≡◌, ℕ, List, true, false, Result, Ok, Err}
use Rattle.rt_value.specs.Places.{Ends, Breaks}
use Rattle.rt_sql.specs.Lexeme.{Lexeme}
use Rattle.rt_policy.specs.Grammar.{Written}
use Rattle.rt_policy.specs.Sizes.{is_shallow, has_long_name}
use Rattle.rt_policy.specs.declared.expr.Expr.{Expr}
use Rattle.rt_policy.specs.declared.fault.ExprFault.{ExprFault}
use Rattle.rt_policy.specs.declared.fault.ExprFault.TheVariants.{NoMemory, BadExpr, TooDeep, UnknownName, BadType}

-- of the expression e, which ends before the token of the number to
abbrev pub Tells : Expr → ℕ → Result (Expr × ℕ) ExprFault → Type 0
Tells e to (Ok found) = (is_shallow e ≡ true) × (found ≡ (e, to))
Tells e to (Err (TooDeep at long)) = (is_shallow e ≡ false) × (at ≡ to) × (long ≡ has_long_name e)
Tells e to (Err NoMemory) = Unit {0}
Tells e to (Err (BadExpr at)) = ⊥
Tells e to (Err UnknownName) = ⊥
Tells e to (Err BadType) = ⊥

-- of a fault at the token of this number
abbrev pub Blames : ℕ → Result (Expr × ℕ) ExprFault → Type 0
Blames at (Ok found) = ⊥
Blames at (Err (BadExpr there)) = there ≡ at
Blames at (Err NoMemory) = Unit {0}
Blames at (Err (TooDeep to long)) = ⊥
Blames at (Err UnknownName) = ⊥
Blames at (Err BadType) = ⊥

-- an expression that is too deep ends before the token of this number
pub record Deep (xs : List Lexeme) (to : ℕ) : Type 0 where
  pub tree : Expr
  pub ends : Ends Written xs to tree
  pub deep : is_shallow tree ≡ false

-- an expression that isn't too deep begins the tokens
pub record Shallow (xs : List Lexeme) : Type 0 where
  pub tree : Expr
  pub to : ℕ
  pub ends : Ends Written xs to tree
  pub shallow : is_shallow tree ≡ true

-- the answer to tokens from their first on
abbrev pub Answers : List Lexeme → Result (Expr × ℕ) ExprFault → Type 0
Answers xs (Ok found) = Ends Written xs found.1 found.0 × (is_shallow found.0 ≡ true)
Answers xs (Err (BadExpr at)) = Breaks Written xs at
Answers xs (Err (TooDeep to long)) =
    (e : Expr) × Ends Written xs to e × (is_shallow e ≡ false) × (has_long_name e ≡ long)
Answers xs (Err NoMemory) = Unit {0}
Answers xs (Err UnknownName) = ⊥
Answers xs (Err BadType) = ⊥
