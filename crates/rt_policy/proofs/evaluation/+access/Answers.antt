use Rattle.std.proofs.Common.{Some, ◌+◌, drop, ◌≡◌, ap, sym, ◌∙◌, subst, arith, length, get_or, map}
use Rattle.std.specs.Option.{option_copied, option_or}
use Rattle.std.specs.List.{position_from}
use Rattle.rt_policy.specs.declared.joining.Joining.TheVariants.{And, Or, EqualTo}
use Rattle.rt_policy.specs.declared.judge.Judge.{Judge}
use Rattle.rt_value.specs.Lent.{value_of}
use Rattle.rt_policy.specs.Joining.{joined, combined, truth_by}
use Rattle.rt_policy.specs.Truth.{worth_of_truth, one_of, all_of, any_of}
use Rattle.rt_policy.specs.Worth.{who_of, worth, Place}
use Rattle.rt_policy.specs.Visibility.{refuses, view_of}
use Rattle.rt_policy.proofs.Forms.{position_below, worth_one_of, worth_and, worth_or, joined_next, value_joined}
use Rattle.rt_policy.proofs.Measure.{item_below, policy_below, work_of}
use Rattle.rt_policy.proofs.evaluation.+access.Goals as goal

pub joined-worth_in-x-requires : goal.joined-worth_in-x-requires
joined-worth_in-x-requires g t c κs h = (
  let tables = c.args.rules.now.tables in
      let item = c.judge-item.result in
      let below = item_below tables c.args.judges.now c.loop-judge.judge-index item (omega arith) in
      omega (arith, below, ap (work_of tables) c.judge-item.is),
  h,
)

pub joined-loop-judge-preserved : goal.joined-loop-judge-preserved
joined-loop-judge-preserved g t c =
    let w = who_of c.args.caller.now in
    let v = view_of c.args.rules.now.tables w (g.D.Db.rows c.args.db.now) in
    let at : Place = record { outer = c.args.outer.now; inner = option_copied c.args.inner } in
    let f = λ (j : Judge). worth w v j at in
    let js = c.args.judges.now in
    let i = c.loop-judge.judge-index in
    let how = c.args.joining in
    let known : c.with-known.result ≡ combined how c.loop-judge.known (truth_by how (f c.judge-item.result)) =
    c.with-known.ensures ∙ ap (λ x. combined how c.loop-judge.known (truth_by how x)) c.worth_in-x.ensures in
    ap (λ k. combined how k (joined how (map f (drop (i + 1) js)))) known
    ∙ joined_next how c.loop-judge.known f js i c.judge-item.result (omega arith) c.judge-item.is
    ∙ c.loop-judge.invariant

pub judge_all-worth_in-requires : goal.judge_all-worth_in-requires
judge_all-worth_in-requires g t c κs h = (
  let r = c.args.rules.now in
      let policy = c.policy-item.result in
      let here = subst (λ ps. policy ≡ get_or ps c.loop-n.n policy) c.get-policy-items.ensures c.policy-item.is in
      let below = policy_below r.tables c.args.table c.args.entry.now c.loop-n.n policy c.in-Some.judge r.no_ring
      c.requires (omega (arith, ap length c.get-policy-items.ensures)) here c.if-policy.true c.in-Some.is in
      omega (arith, below),
  h,
)

pub judge_all-overflow_cast-result : goal.judge_all-overflow_cast-result
judge_all-overflow_cast-result g t c =
    let w = who_of c.args.caller.now in
    let v = view_of c.args.rules.now.tables w (g.D.Db.rows c.args.db.now) in
    let test = refuses w v c.args.row.now in
    let policies = c.args.entry.now.policies in
    let found : position_from test 0 policies ≡ Some c.in-Some-refused.n =
    sym c.loop-n.invariant.refused
    ∙ ap (λ o. option_or o (position_from test c.loop-n.n (drop c.loop-n.n policies))) c.in-Some-refused.is in
    let below = position_below test policies 0 c.in-Some-refused.n found in
    let few = c.args.entry.now.few in
    omega (arith, below, few)

pub worth_in-returns-in-OneOf : goal.worth_in-returns-in-OneOf
worth_in-returns-in-OneOf g t c =
    let w = who_of c.args.caller.now in
    let v = view_of c.args.rules.now.tables w (g.D.Db.rows c.args.db.now) in
    let at : Place = record { outer = c.args.outer.now; inner = option_copied c.args.inner } in
    let f = λ (j : Judge). worth w v j at in
    let side = c.worth_in-x-in-OneOf.result in
    let is : value_of side ≡ f c.in-OneOf.side = c.worth_in-x-in-OneOf.ensures ∙ ap f c.get-in-OneOf.ensures in
    value_joined (EqualTo side) f c.get-in-OneOf-2.result.now c.in-OneOf.all c.joined.result
    (value_of c.as_value-in-OneOf.result) c.as_value-in-OneOf.ensures c.joined.ensures c.get-in-OneOf-2.ensures
    ∙ ap (λ x. worth_of_truth (one_of x (map f c.in-OneOf.all))) is
    ∙ sym (worth_one_of w v c.in-OneOf.side c.in-OneOf.all at) ∙ sym (ap f c.in-OneOf.is)

pub worth_in-returns-in-And : goal.worth_in-returns-in-And
worth_in-returns-in-And g t c =
    let w = who_of c.args.caller.now in
    let v = view_of c.args.rules.now.tables w (g.D.Db.rows c.args.db.now) in
    let at : Place = record { outer = c.args.outer.now; inner = option_copied c.args.inner } in
    let f = λ (j : Judge). worth w v j at in
    value_joined And f c.get-in-And.result.now c.in-And.all c.joined-in-And.result (value_of c.as_value-in-And.result)
    c.as_value-in-And.ensures c.joined-in-And.ensures c.get-in-And.ensures
    ∙ sym (worth_and w v c.in-And.all at) ∙ sym (ap f c.in-And.is)

pub worth_in-returns-in-Or : goal.worth_in-returns-in-Or
worth_in-returns-in-Or g t c =
    let w = who_of c.args.caller.now in
    let v = view_of c.args.rules.now.tables w (g.D.Db.rows c.args.db.now) in
    let at : Place = record { outer = c.args.outer.now; inner = option_copied c.args.inner } in
    let f = λ (j : Judge). worth w v j at in
    value_joined Or f c.get-in-Or.result.now c.in-Or.all c.joined-in-Or.result (value_of c.as_value-in-Or.result)
    c.as_value-in-Or.ensures c.joined-in-Or.ensures c.get-in-Or.ensures
    ∙ sym (worth_or w v c.in-Or.all at) ∙ sym (ap f c.in-Or.is)
