-- The first place that can't go on is one, and each list has one.
use Rattle.std.proofs.Common.{◌≡◌, ℕ, ◌+◌, ◌-◌, ◌<◌, ◌≤◌, ◌⊎◌, inl, inr, List, [], ◌∷◌, ◌++◌, Some, None}
use Rattle.std.proofs.Common.{refl, ap, subst, sym, ◌∙◌, length, take, drop, arith, append_assoc, append-nil}
use Rattle.std.specs.List.{slice_get}
use Rattle.std.proofs.lemmas.List.{take-append-drop, take-take, take-append-le, take_all}
use Rattle.rt_value.specs.Places.{Begins, IsStuckAt, Ends, Breaks, Answer, next, ends, stuck, run, ended}
use Rattle.rt_value.proofs.Places.{run_more}
use Rattle.rt_sql.specs.Lexeme.{Lexeme}
use Rattle.rt_policy.specs.Grammar.{Written}
use Rattle.rt_policy.specs.Parse.{Reads, Fails, HasAnswer}
use Rattle.rt_policy.specs.Machine.{step, start}
use Rattle.rt_policy.specs.declared.expr.Expr.{Expr}
use Rattle.rt_policy.specs.declared.building.State.{State}
use Rattle.rt_policy.proofs.One.{one_expression, element_ends, element_breaks, end_ends, end_breaks}

order : (a b : ℕ) → (a < b) ⊎ (b ≤ a)
order a b = grind arith

-- a front of what begins a phrase begins it
front_begins : (xs ys : List Lexeme) → Begins Written (xs ++ ys) → Begins Written xs
front_begins xs ys b = record {
  more = ys ++ b.more;
  tree = b.tree;
  written =
      subst (Written b.tree) (append_assoc xs ys b.more) b.written;
}

less_begins : (xs : List Lexeme) (m n : ℕ) → m ≤ n → Begins Written (take n xs) → Begins Written (take m xs)
less_begins xs m n le b =
    subst (Begins Written) (take-take m n xs le) (front_begins (take m (take n xs)) (drop m (take n xs)) (subst
    (Begins Written) (sym (take-append-drop m (take n xs))) b))

no_less : (xs : List Lexeme) (m n : ℕ) → IsStuckAt Written xs m → IsStuckAt Written xs n → m < n → ⊥
no_less xs m n x y lt = let w =
    y.within in x.stuck (omega (arith, w, lt)) (less_begins xs (m + 1) n (omega (arith, lt)) y.before)

one_place : (xs : List Lexeme) (m n : ℕ) → IsStuckAt Written xs m → IsStuckAt Written xs n → m ≡ n
one_place xs m n x y = by (order m n) (order n m)
  where
    by : (m < n) ⊎ (n ≤ m) → (n < m) ⊎ (m ≤ n) → m ≡ n
    by (inl lt) _ = absurd (no_less xs m n x y lt)
    by (inr _) (inl lt) = absurd (no_less xs n m y x lt)
    by (inr le) (inr ge) = omega arith

same_distance : (from m n : ℕ) → from ≤ m → from ≤ n → m - from ≡ n - from → m ≡ n
same_distance from m n a b e = omega arith

pub one_end : (xs : List Lexeme) (from : ℕ) (e f : Expr) (m n : ℕ) → Reads xs from e m → Reads xs from f n → (e ≡ f)
    × (m ≡ n)
one_end xs from e f m n x y =
    let same = one_place (drop from xs) (m - from) (n - from) x.ends.stuck y.ends.stuck in (
      one_expression (take (m - from) (drop from xs)) e f x.ends.written (subst (λ (k :
          ℕ). Written f (take k (drop from xs))) (sym same) y.ends.written),
      same_distance from m n x.forward y.forward same,
    )

pub one_fault : (xs : List Lexeme) (from m n : ℕ) → Fails xs from m → Fails xs from n → m ≡ n
one_fault xs from m n x y =
    same_distance from m n x.forward y.forward (one_place (drop from xs) (m - from)
    (n - from) x.breaks.stuck y.breaks.stuck)

pub not_both : (xs : List Lexeme) (from : ℕ) (e : Expr) (m n : ℕ) → Reads xs from e m → Fails xs from n → ⊥
not_both xs from e m n x y =
    let same = one_place (drop from xs) (m - from) (n - from) x.ends.stuck y.breaks.stuck in
    y.breaks.unfinished e (subst (λ (k : ℕ). Written e (take k (drop from xs))) same x.ends.written)

front_is : (xs ys : List Lexeme) → take (length xs) (xs ++ ys) ≡ xs
front_is xs ys = take-append-le (length xs) xs ys (omega arith) ∙ take_all (length xs) xs (omega arith)

at_front : (xs : List Lexeme) (y : Lexeme) (ys : List Lexeme) → slice_get (xs ++ y ∷ ys) (length xs) ≡ Some y
at_front [] y ys = refl
at_front (x ∷ xs) y ys = at_front xs y ys

-- the answer to a list, from a state behind its front on
abbrev Answered : List Lexeme → Type 0
Answered xs = ((e : Expr) × (n : ℕ) × Ends Written xs n e) ⊎ ((n : ℕ) × Breaks Written xs n)

run_front : (xs ys : List Lexeme) (s : State) → run step xs start ≡ Some s
    → run step (take (length xs) (xs ++ ys)) start ≡ Some s
run_front xs ys s h = subst (λ (zs : List Lexeme). run step zs start ≡ Some s) (sym (front_is xs ys)) h

answered : (ys xs : List Lexeme) (s : State) → run step xs start ≡ Some s → Answered (xs ++ ys)
answered [] xs s h = go (step s None) refl
  where
    whole : run step (xs ++ []) start ≡ Some s
    whole = subst (λ (zs : List Lexeme). run step zs start ≡ Some s) (sym (append-nil xs)) h

    go : (a : Answer State Expr) → step s None ≡ a → Answered (xs ++ [])
    go (next u) is = inr (length (xs ++ []), end_breaks (xs ++ []) s whole (ap ended is))
    go (ends e) is = inl (e, length (xs ++ []), end_ends (xs ++ []) s e whole is)
    go stuck is = inr (length (xs ++ []), end_breaks (xs ++ []) s whole (ap ended is))
answered (y ∷ ys) xs s h =
    go (λ u is. answered ys (xs ++ y ∷ []) u (run_more step xs y start s u h is)) (step s (Some y)) refl
  where
    go : ((u : State) → step s (Some y) ≡ next u → Answered ((xs ++ y ∷ []) ++ ys)) → (a : Answer State Expr)
        → step s (Some y) ≡ a → Answered (xs ++ y ∷ ys)
    go on (next u) is = subst Answered (append_assoc xs (y ∷ []) ys) (on u is)
    go on (ends e) is = inl (
      e,
      length xs,
      element_ends (xs ++ y ∷ ys) (length xs) s y e (at_front xs y ys)
          (run_front xs (y ∷ ys) s h) is,
    )
    go on stuck is = inr (
      length xs,
      element_breaks (xs ++ y ∷ ys) (length xs) s y (at_front xs y ys) (run_front xs
          (y ∷ ys) s h) is,
    )

forward_by : (from n : ℕ) → (from ≤ from + n) × ((from + n) - from ≡ n)
forward_by from n = (omega arith, omega arith)

pub has_answer : (xs : List Lexeme) (from : ℕ) → HasAnswer xs from
has_answer xs from = go (answered (drop from xs) [] start refl)
  where
    go : Answered (drop from xs) → HasAnswer xs from
    go (inl (e, n, w)) =
        let f = forward_by from n in inl (
          e,
          from + n,
          record {
            forward = f.0;
            ends =
                subst (λ (k : ℕ). Ends Written (drop from xs) k e) (sym f.1) w;
          },
        )
    go (inr (n, w)) = let f = forward_by from n in inr (
      from + n,
      record {
        forward = f.0;
        breaks =
            subst (λ (k : ℕ). Breaks Written (drop from xs) k) (sym f.1) w;
      },
    )
