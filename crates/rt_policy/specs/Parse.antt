-- What reading an expression from a token on answers. Its place is counted in tokens.
use Rattle.std.specs.Prelude.{◌≡◌, ℕ, ◌-◌, ◌≤◌, ◌⊎◌, true, false, List, drop, Result, Ok, Err}
use Rattle.rt_sql.specs.Lexeme.{Lexeme}
use Rattle.rt_policy.specs.declared.expr.Expr.{Expr}
use Rattle.rt_policy.specs.declared.fault.ExprFault.{ExprFault}
use Rattle.rt_policy.specs.declared.fault.ExprFault.TheVariants.{NoMemory, BadExpr, TooDeep, UnknownName, BadType}
use Rattle.rt_policy.specs.Grammar.{Written}
use Rattle.rt_value.specs.Places.{Ends, Breaks}
use Rattle.rt_policy.specs.Sizes.{is_shallow, has_long_name}

-- the tokens from one place on are the expression, which ends before the token of another, the first that can't go on
pub record Reads (xs : List Lexeme) (from : ℕ) (e : Expr) (to : ℕ) : Type 0 where
  pub forward : from ≤ to
  pub ends : Ends Written (drop from xs) (to - from) e

-- the token of this number, or the end, can't go on, and no expression ends before it
pub record Fails (xs : List Lexeme) (from at : ℕ) : Type 0 where
  pub forward : from ≤ at
  pub breaks : Breaks Written (drop from xs) (at - from)

-- a token that can't go on comes before an expression that is too deep
abbrev pub Parses : List Lexeme → ℕ → Result (Expr × ℕ) ExprFault → Type 0
Parses xs from (Ok found) = Reads xs from found.0 found.1 × (is_shallow found.0 ≡ true)
Parses xs from (Err (BadExpr at)) = Fails xs from at
Parses xs from (Err (TooDeep to long)) = (e : Expr) × Reads xs from e to × (is_shallow e ≡ false) × (has_long_name e ≡ long)
Parses xs from (Err NoMemory) = Unit {0}
Parses xs from (Err UnknownName) = ⊥
Parses xs from (Err BadType) = ⊥

-- the tokens from one place on are an expression, or fail
abbrev pub HasAnswer : List Lexeme → ℕ → Type 0
HasAnswer xs from = ((e : Expr) × (to : ℕ) × Reads xs from e to) ⊎ ((at : ℕ) × Fails xs from at)
