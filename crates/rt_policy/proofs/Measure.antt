-- Why the recursion of expressions and visibility ends.
use Rattle.std.proofs.Common.{◌≡◌, ℕ, zero, suc, ◌+◌, ◌*◌, ◌<◌, ◌≤◌, Bool, true, not, ◌||◌, List, [], ◌∷◌, map, max, length, get_or, Option, Some, None, slice_get, ap, sym, ◌∙◌, subst, arith}
use Rattle.std.specs.Prelude.{nat_le}
use Rattle.std.specs.List.{list_all}
use Rattle.std.proofs.Math.Nat.{mul-le-mul_right}
use Rattle.std.proofs.lemmas.Bool.{and_parts}
use Rattle.rt_policy.proofs.Ranks.{all_at, within}
use Rattle.rt_policy.specs.declared.judge.Judge.{Judge}
use Rattle.rt_policy.specs.declared.judge.Judge.TheOpen.{Judge-F}
use Rattle.rt_policy.specs.declared.judge.Judge.TheFolds.{fold-Judge}
use Rattle.rt_policy.specs.declared.tables.Policy.{Policy}
use Rattle.rt_policy.specs.declared.tables.TableRules.{TableRules}
use Rattle.rt_policy.specs.Ranks.{rank_in, rank_of, largest, reach, reach_in, reach_step, descends, has_no_ring}

abbrev pub depth_step : Judge-F ℕ → ℕ
depth_step (Judge-F.Literal v) = 0
depth_step (Judge-F.Outer n) = 0
depth_step (Judge-F.Inner n) = 0
depth_step Judge-F.Uid = 0
depth_step Judge-F.Role = 0
depth_step (Judge-F.Claim n) = 0
depth_step (Judge-F.Compare op a b) = suc (max a b)
depth_step (Judge-F.OneOf a all) = suc (max a (largest all))
depth_step (Judge-F.Not a) = suc a
depth_step (Judge-F.And all) = suc (largest all)
depth_step (Judge-F.Or all) = suc (largest all)
depth_step (Judge-F.Is asked a) = suc a
depth_step (Judge-F.Exists t c) = suc c

abbrev pub depth : Judge → ℕ
depth = fold-Judge ℕ depth_step

abbrev pub depth_in : Option Judge → ℕ
depth_in None = 0
depth_in (Some j) = depth j

abbrev pub deepest_of : List Policy → ℕ
deepest_of [] = 0
deepest_of (p ∷ ps) = max (depth_in p.judge) (deepest_of ps)

abbrev pub deepest : List TableRules → ℕ
deepest [] = 0
deepest (t ∷ ts) = max (deepest_of t.policies) (deepest ts)

-- more than one rank may take
abbrev pub room : List TableRules → ℕ
room tables = 2 * deepest tables + 4

abbrev pub work_of : List TableRules → Judge → ℕ
work_of tables j = reach tables j * room tables + 2 * depth j

-- one more than any of them, and less than an expression made of them
abbrev pub list_work : List TableRules → List Judge → ℕ
list_work tables js = largest (map (reach tables) js) * room tables + (2 * largest (map depth js) + 1)

abbrev pub exists_work : List TableRules → ℕ → Judge → ℕ
exists_work tables t c = max (suc (rank_of tables t)) (reach tables c) * room tables + (2 * depth c + 1)

abbrev pub judge_work : List TableRules → ℕ → ℕ
judge_work tables t = rank_of tables t * room tables + (2 * deepest tables + 2)

abbrev pub sees_work : List TableRules → ℕ → ℕ
sees_work tables t = rank_of tables t * room tables + (2 * deepest tables + 3)

largest_at : {X : Type 0} (f : X → ℕ) (xs : List X) (i : ℕ) (d : X) → i < length xs → f (get_or xs i d) ≤ largest (map f xs)
largest_at f [] i d h = absurd (omega arith)
largest_at f (x ∷ xs) zero d h = omega arith
largest_at f (x ∷ xs) (suc i) d h = let more : f (get_or xs i d) ≤ largest (map f xs) = largest_at f xs i d (omega arith) in omega arith

-- an expression takes less than a list in which it is
pub item_below : (tables : List TableRules) (js : List Judge) (i : ℕ) (d : Judge) → i < length js → work_of tables (get_or js i d) < list_work tables js
item_below tables js i d h =
    let reached = largest_at (reach tables) js i d h in
    let deep = largest_at depth js i d h in
    omega (arith, deep, mul-le-mul_right (room tables) reached)

deepest_policy : (ps : List Policy) (i : ℕ) (d : Policy) → i < length ps → depth_in (get_or ps i d).judge ≤ deepest_of ps
deepest_policy [] i d h = absurd (omega arith)
deepest_policy (p ∷ ps) zero d h = omega arith
deepest_policy (p ∷ ps) (suc i) d h = let more = deepest_policy ps i d (omega arith) in omega (arith, more)

deepest_table : (tables : List TableRules) (t : ℕ) (entry : TableRules) → slice_get tables t ≡ Some entry → deepest_of entry.policies ≤ deepest tables
deepest_table [] t entry e = absurd (cc)
deepest_table (x ∷ xs) zero entry e = let same : x ≡ entry = cc in let s = ap (λ (y : TableRules). deepest_of y.policies) same in omega (arith, s)
deepest_table (x ∷ xs) (suc t) entry e = let more = deepest_table xs t entry e in omega (arith, more)

all_index : {X : Type 0} (good : X → Bool) (xs : List X) (i : ℕ) (d : X) → list_all good xs ≡ true → i < length xs → good (get_or xs i d) ≡ true
all_index good [] i d g h = absurd (omega arith)
all_index good (y ∷ ys) zero d g h = (and_parts (good y) (list_all good ys) g).0
all_index good (y ∷ ys) (suc i) d g h = all_index good ys i d (and_parts (good y) (list_all good ys) g).1 (omega arith)

-- an expression of a table's policy takes less than the table
pub policy_below : (tables : List TableRules) (t : ℕ) (entry : TableRules) (i : ℕ) (p : Policy) (j : Judge) → has_no_ring tables ≡ true → slice_get tables t ≡ Some entry →
    i < length entry.policies → p ≡ get_or entry.policies i p → p.selects ≡ true → p.judge ≡ Some j → work_of tables j < judge_work tables t
policy_below tables t entry i p j no_ring e h is selects judge =
    let good = all_index _ entry.policies i p (all_at (descends tables) tables t entry no_ring e) h in
    let low : reach_in tables p.judge ≤ entry.rank = within p.selects (reach_in tables p.judge) entry.rank (subst (λ (q : Policy). (not q.selects || nat_le (reach_in tables q.judge) entry.rank) ≡ true) (sym is) good) selects in
    let rank : rank_of tables t ≡ entry.rank = ap rank_in e in
    let deep : depth_in p.judge ≤ deepest_of entry.policies = subst (λ (q : Policy). depth_in q.judge ≤ deepest_of entry.policies) (sym is) (deepest_policy entry.policies i p h) in
    let deeper = deepest_table tables t entry e in
    let reached = ap (reach_in tables) judge in
    let depths = ap depth_in judge in
    let times = mul-le-mul_right (room tables) (let k : reach tables j ≤ rank_of tables t = omega (arith, reached) in k) in
    omega (arith, deeper, depths, times)
