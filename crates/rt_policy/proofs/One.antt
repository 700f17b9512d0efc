-- The places of expressions, from the laws of the machine.
use Rattle.std.proofs.Common.{◌≡◌, ℕ, ◌+◌, List, Option, Some, None}
use Rattle.std.proofs.Common.{length, take}
use Rattle.std.specs.List.{slice_get}
use Rattle.rt_value.specs.Places.{Ends, Breaks, Answer, next, ends, stuck, run, reads, ended}
use Rattle.rt_value.proofs.Places as places
use Rattle.rt_sql.specs.Lexeme.{Lexeme}
use Rattle.rt_policy.specs.Grammar.{Written}
use Rattle.rt_policy.specs.Machine.{step, start}
use Rattle.rt_policy.specs.declared.expr.Expr.{Expr}
use Rattle.rt_policy.specs.declared.building.State.{State}
use Rattle.rt_policy.proofs.Rest.{Rest}
use Rattle.rt_policy.proofs.Found.{step_found, begun}
use Rattle.rt_policy.proofs.AgainExpr.{written_reads}
use Rattle.rt_policy.proofs.Some.{some_rest}
use Rattle.rt_policy.proofs.Same.{step_same}

abbrev Sound : State → Type 0
Sound s = Unit {0}

some : (s : State) → Sound s → (zs : List Lexeme) × (out : Expr) × Rest s zs out
some s sound = some_rest s.stack s.level s.mode

sound : (s : State) (look : Option Lexeme) → Sound s → places.IsSoundNext Sound (step s look)
sound s look h = go (step s look)
  where
    go : (a : Answer State Expr) → places.IsSoundNext Sound a
    go (next u) = tt
    go (ends e) = tt
    go stuck = tt

pub one_expression : (xs : List Lexeme) (a b : Expr) → Written a xs → Written b xs → a ≡ b
one_expression = places.one_tree Written step start Sound Rest step_found begun written_reads some sound tt

pub written_found : (xs : List Lexeme) (e : Expr) → reads step xs start ≡ Some e → Written e xs
written_found = places.written_found Written step start Sound Rest step_found begun written_reads some sound tt

-- what a machine that was run so far shows of the tokens
pub element_ends : (xs : List Lexeme) (n : ℕ) (s : State) (x : Lexeme) (e : Expr) → slice_get xs n ≡ Some x
    → run step (take n xs) start ≡ Some s → step s (Some x) ≡ ends e → Ends Written xs n e
element_ends = places.element_ends Written step start Sound Rest step_found begun written_reads some sound tt step_same

pub element_breaks : (xs : List Lexeme) (n : ℕ) (s : State) (x : Lexeme) → slice_get xs n ≡ Some x
    → run step (take n xs) start ≡ Some s → step s (Some x) ≡ stuck → Breaks Written xs n
element_breaks = places.element_breaks Written step start Sound Rest step_found begun written_reads some sound tt
    step_same

pub element_goes : (xs : List Lexeme) (n : ℕ) (s u : State) (x : Lexeme) → slice_get xs n ≡ Some x
    → run step (take n xs) start ≡ Some s → step s (Some x) ≡ next u
    → run step (take (n + 1) xs) start ≡ Some u
element_goes = places.element_goes Written step start Sound Rest step_found begun written_reads some sound tt

pub end_ends : (xs : List Lexeme) (s : State) (e : Expr) → run step xs start ≡ Some s → step s None ≡ ends e
    → Ends Written xs (length xs) e
end_ends = places.end_ends Written step start Sound Rest step_found begun written_reads some sound tt

pub end_breaks : (xs : List Lexeme) (s : State) → run step xs start ≡ Some s → ended (step s None) ≡ None
    → Breaks Written xs (length xs)
end_breaks = places.end_breaks Written step start Sound Rest step_found begun written_reads some sound tt
