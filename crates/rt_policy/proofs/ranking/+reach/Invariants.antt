use Rattle.std.proofs.Common.{◌≡◌, max, map, drop}
use Rattle.rt_policy.specs.Ranks.{reach, largest}
use Rattle.rt_policy.proofs.ranking.+reach.Given as goal

abbrev pub invariant-reach_of_all-loop-judge : goal.invariant-reach_of_all-loop-judge
invariant-reach_of_all-loop-judge l =
    max l.most (largest (map (reach l.tables) (drop l.judge-index l.judges))) ≡ largest (map (reach l.tables) l.judges)
