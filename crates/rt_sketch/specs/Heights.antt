-- How many enclose an operand of an expression, counted up to the limit.
use Rattle.std.specs.Prelude.{ℕ, ◌+◌, max, min, List, [], ◌∷◌}
use Rattle.rt_policy.specs.Sizes.{enclosing, depth_limit}
use Rattle.rt_policy.specs.declared.expr.Expr.{Expr}

abbrev pub limited : ℕ → ℕ
limited n = min n depth_limit

abbrev pub higher : ℕ → ℕ
higher n = limited (n + 1)

abbrev pub height : Expr → ℕ
height e = limited (enclosing e)

-- the greatest of a list
abbrev pub heights : List Expr → ℕ
heights [] = 0
heights (e ∷ es) = max (height e) (heights es)
