use Rattle.std.proofs.Common.{◌+◌, List, sym, subst, ◌∙◌, take, take_all, get_or}
use Rattle.rt_cluster.specs.declared.dots.Dot.{Dot}
use Rattle.rt_cluster.specs.Operations.{dot_at}
use Rattle.rt_cluster.proofs.Taking.{HasTaken, none_taken, passed_next, taken_next, taken_same, among_next}
use Rattle.rt_cluster.proofs.merging.take_gone.Goals as goal
use Rattle.rt_cluster.proofs.merging.take_gone.Goals.{then-not-has+in_ok-take, else-not-has}

pub loop-dot-init : goal.loop-dot-init
loop-dot-init c = none_taken _ _ _ c.requires

pub take-requires : goal.take-requires
take-requires c = c.loop-dot.invariant.index

pub loop-dot-preserved : goal.loop-dot-preserved
loop-dot-preserved c =
    let gone = c.args.gone.now in
    let i = c.loop-dot.dot-index in
    let d = get_or gone i (dot_at 0 0) in
    let all = among_next gone i (dot_at 0 0) c.loop-dot-test.true in
    elim c.if-not-has.branch [
      | then-not-has+in_ok-take w ↦
          taken_same _ _ _ _ _ _ _ _ w.marks-is w.places-is
          (taken_next c.args.marks.now c.args.places.now c.args.told.now (take i gone) (take
          (i + 1) gone) c.loop-dot.marks
          c.loop-dot.places c.loop-dot.invariant d all (sym c.has.ensures ∙ w.if-not-has.true) _ _
          w.in_ok-take.ensures.marks w.in_ok-take.ensures.places w.in_ok-take.ensures.index)
      | else-not-has w ↦
          taken_same _ _ _ _ _ _ _ _ w.marks-is w.places-is
          (passed_next c.args.marks.now c.args.places.now c.args.told.now (take i gone) (take
          (i + 1) gone) c.loop-dot.marks
          c.loop-dot.places c.loop-dot.invariant d all (sym c.has.ensures ∙ w.if-not-has.false))
    ]

pub returns : goal.returns
returns c =
    let so : HasTaken c.args.marks.now c.args.places.now c.args.told.now c.args.gone.now c.loop-dot.marks
    c.loop-dot.places =
    subst (λ (ds : List Dot). HasTaken c.args.marks.now c.args.places.now c.args.told.now ds c.loop-dot.marks
    c.loop-dot.places)
    (take_all c.loop-dot.dot-index c.args.gone.now c.loop-dot-test.false) c.loop-dot.invariant in
    record { marks = so.taken; places = so.fewer; index = so.index }
