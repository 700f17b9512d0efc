-- The answer to tokens from one place on.
use Rattle.std.proofs.Common.{◌≡◌, ℕ, ◌+◌, ◌-◌, ◌≤◌, true, false, List, drop, Result, Ok, Err}
use Rattle.std.proofs.Common.{ap, sym, subst, ◌∙◌, arith}
use Rattle.rt_value.specs.Places.{Ends, Breaks}
use Rattle.rt_sql.specs.Lexeme.{Lexeme}
use Rattle.rt_policy.specs.Grammar.{Written}
use Rattle.rt_policy.specs.Parse.{Parses, Reads, Fails}
use Rattle.rt_policy.specs.Sizes.{is_shallow, has_long_name}
use Rattle.rt_policy.specs.declared.expr.Expr.{Expr}
use Rattle.rt_policy.specs.declared.fault.ExprFault.{ExprFault}
use Rattle.rt_policy.specs.declared.fault.ExprFault.TheVariants.{NoMemory, BadExpr, TooDeep, UnknownName, BadType}
use Rattle.rt_policy.proofs.Exclusive.{one_end, one_fault, not_both}
use Rattle.rt_expr.specs.Tells.{Tells, Blames}

-- at every place, as from the first token on

forward : (from n : ℕ) → from ≤ from + n
forward from n = omega arith

back : (from n : ℕ) → n ≡ (from + n) - from
back from n = omega arith

pub reads_from : (xs : List Lexeme) (from n : ℕ) (e : Expr) → Ends Written (drop from xs) n e
    → Reads xs from e (from + n)
reads_from xs from n e h = record {
  forward = forward from n;
  ends = subst (λ (k : ℕ). Ends Written (drop from xs) k e) (back from n) h;
}

pub fails_from : (xs : List Lexeme) (from n : ℕ) → Breaks Written (drop from xs) n → Fails xs from (from + n)
fails_from xs from n h = record {
  forward = forward from n;
  breaks = subst (λ (k : ℕ). Breaks Written (drop from xs) k) (back from n) h;
}

pub only : (xs : List Lexeme) (from : ℕ) (r : Result (Expr × ℕ) ExprFault) → Parses xs from r
    → (e : Expr) (to : ℕ) → Reads xs from e to → Tells e to r
only xs from (Ok found) (reads, shallow) e to h =
    let same = one_end xs from found.0 e found.1 to reads h in
    (subst (λ (v : Expr). is_shallow v ≡ true) same.0 shallow, λ i. (same.0 i, same.1 i))
only xs from (Err (BadExpr at)) p e to h = absurd (not_both xs from e to at h p)
only xs from (Err (TooDeep at long)) (d, reads, deep, named) e to h =
    let same = one_end xs from d e at to reads h in
    (subst (λ (v : Expr). is_shallow v ≡ false) same.0 deep, same.1, sym named ∙ ap has_long_name same.0)
only xs from (Err NoMemory) p e to h = tt
only xs from (Err UnknownName) p e to h = absurd p
only xs from (Err BadType) p e to h = absurd p

pub fails : (xs : List Lexeme) (from : ℕ) (r : Result (Expr × ℕ) ExprFault) → Parses xs from r
    → (at : ℕ) → Fails xs from at → Blames at r
fails xs from (Ok found) (reads, shallow) at h = not_both xs from found.0 found.1 at reads h
fails xs from (Err (BadExpr there)) p at h = one_fault xs from there at p h
fails xs from (Err (TooDeep to long)) (d, reads, deep, named) at h = not_both xs from d to at reads h
fails xs from (Err NoMemory) p at h = tt
fails xs from (Err UnknownName) p at h = absurd p
fails xs from (Err BadType) p at h = absurd p
