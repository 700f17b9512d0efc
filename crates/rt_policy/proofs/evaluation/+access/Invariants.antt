use Rattle.std.proofs.Common.{◌≡◌, ◌||◌, drop, map, List}
use Rattle.std.specs.List.{list_any, position_from}
use Rattle.std.specs.Option.{option_copied, option_or}
use Rattle.rt_policy.specs.declared.judge.Judge.{Judge}
use Rattle.rt_policy.specs.Joining.{joined, combined}
use Rattle.rt_policy.specs.Worth.{Place, worth, who_of, shows}
use Rattle.rt_policy.specs.Visibility.{view_of, applies, permits, refuses}
use Rattle.rt_policy.proofs.Measure.{work_of, list_work, exists_work, judge_work, sees_work}
use Rattle.rt_policy.proofs.evaluation.+access.Given as goal

abbrev pub decreases-exists : goal.decreases-exists
decreases-exists g l = exists_work l.rules.now.tables l.table l.condition.now

abbrev pub decreases-judge_all : goal.decreases-judge_all
decreases-judge_all g l = judge_work l.rules.now.tables l.table

abbrev pub decreases-seen : goal.decreases-seen
decreases-seen g l = sees_work l.rules.now.tables l.table

abbrev pub decreases-worth_in : goal.decreases-worth_in
decreases-worth_in g l = work_of l.rules.now.tables l.judge.now

abbrev pub decreases-joined : goal.decreases-joined
decreases-joined g l = list_work l.rules.now.tables l.judges.now

-- the answer on what the walk has left is the answer on all rows
abbrev pub invariant-exists-loop-row : goal.invariant-exists-loop-row
invariant-exists-loop-row g l =
    let who = who_of l.caller in
    let view = view_of l.rules.tables who (g.D.Db.rows l.db) in
    let test = shows view l.table l.outer (worth who view l.condition) in
    record {
      can : (goal.iterator-exists-loop-row g).can_next l.row-iterator;
      finite : (goal.iterator-exists-loop-row g).is_finite l.row-iterator;
      rest : list_any test l.row-iterator ≡ list_any test (g.D.Db.rows l.db l.table);
    }

-- what is known with what the policies left say is what all policies say
abbrev pub invariant-judge_all-loop-n : goal.invariant-judge_all-loop-n
invariant-judge_all-loop-n g l =
    let who = who_of l.caller in
    let view = view_of l.rules.tables who (g.D.Db.rows l.db) in
    let policies = l.entry.policies in
    let permit = permits who view l.row in
    let refuse = refuses who view l.row in
    record {
      applied : (l.applied || list_any (applies who) (drop l.n policies)) ≡ list_any (applies who) policies;
      permitted : (l.permitted || list_any permit (drop l.n policies)) ≡ list_any permit policies;
      refused : option_or l.refused (position_from refuse l.n (drop l.n policies)) ≡ position_from refuse 0 policies;
    }

-- what is known with what the expressions left give is what all give
abbrev pub invariant-joined-loop-judge : goal.invariant-joined-loop-judge
invariant-joined-loop-judge g l =
    let who = who_of l.caller in
    let view = view_of l.rules.tables who (g.D.Db.rows l.db) in
    let at : Place = record { outer = l.outer; inner = option_copied l.inner } in
    let values = λ (js : List Judge). map (λ j. worth who view j at) js in
    combined l.joining l.known (joined l.joining (values (drop l.judge-index l.judges)))
    ≡ joined l.joining (values l.judges)
