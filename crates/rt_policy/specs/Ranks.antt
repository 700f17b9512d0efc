-- How high the tables rank that an expression reads, and that tables lead to each other in no ring.
use Rattle.std.specs.Prelude.{ℕ, suc, Bool, not, ◌||◌, nat_le, List, [], ◌∷◌, Option, Some, None, max, slice_get}
use Rattle.std.specs.List.{list_all}
use Rattle.rt_policy.specs.declared.judge.Judge.{Judge}
use Rattle.rt_policy.specs.declared.judge.Judge.TheOpen.{Judge-F}
use Rattle.rt_policy.specs.declared.judge.Judge.TheFolds.{fold-Judge}
use Rattle.rt_policy.specs.declared.tables.TableRules.{TableRules}

abbrev pub rank_in : Option TableRules → ℕ
rank_in None = 0
rank_in (Some t) = t.rank

-- the rank of a table, 0 where there is none
abbrev pub rank_of : List TableRules → ℕ → ℕ
rank_of tables n = rank_in (slice_get tables n)

abbrev pub largest : List ℕ → ℕ
largest [] = 0
largest (n ∷ ns) = max n (largest ns)

abbrev pub reach_step : List TableRules → Judge-F ℕ → ℕ
reach_step tables (Judge-F.Literal v) = 0
reach_step tables (Judge-F.Outer n) = 0
reach_step tables (Judge-F.Inner n) = 0
reach_step tables Judge-F.Uid = 0
reach_step tables Judge-F.Role = 0
reach_step tables (Judge-F.Claim n) = 0
reach_step tables (Judge-F.Compare op a b) = max a b
reach_step tables (Judge-F.OneOf a all) = max a (largest all)
reach_step tables (Judge-F.Not a) = a
reach_step tables (Judge-F.And all) = largest all
reach_step tables (Judge-F.Or all) = largest all
reach_step tables (Judge-F.Is asked a) = a
reach_step tables (Judge-F.Exists t c) = max (suc (rank_of tables t)) c

-- 1 more than the highest rank of a table that the expression reads, 0 where it reads none
abbrev pub reach : List TableRules → Judge → ℕ
reach tables = fold-Judge ℕ (reach_step tables)

abbrev pub reach_in : List TableRules → Option Judge → ℕ
reach_in tables None = 0
reach_in tables (Some j) = reach tables j

-- the policies that select read only tables of lesser rank
abbrev pub descends : List TableRules → TableRules → Bool
descends tables t = list_all (λ p. not p.selects || nat_le (reach_in tables p.judge) t.rank) t.policies

-- every table's do
abbrev pub has_no_ring : List TableRules → Bool
has_no_ring tables = list_all (descends tables) tables
