use Rattle.std.proofs.Common.{◌||◌, List, sym, ap, ◌∙◌, take, take_all, get_or}
use Rattle.rt_cluster.specs.declared.dots.Dot.{Dot}
use Rattle.rt_cluster.specs.Operations.{is_dot, is_among, dot_at}
use Rattle.rt_cluster.proofs.Putting.{or_last}
use Rattle.rt_cluster.proofs.Taking.{among_next}
use Rattle.rt_cluster.proofs.merging.add_all.Goals as goal

pub loop-dot-preserved : goal.loop-dot-preserved
loop-dot-preserved c =
    let dots = c.args.dots.now in
    let i = c.loop-dot.dot-index in
    λ d. c.in_ok-add.ensures d
    ∙ ap (λ b. is_dot d (get_or dots i (dot_at 0 0)) || b) (c.loop-dot.invariant d)
    ∙ or_last (is_dot d (get_or dots i (dot_at 0 0))) (is_among (take i dots) d) (is_among c.args.seen.now d)
    ∙ ap (λ b. b || is_among c.args.seen.now d) (sym (among_next dots i (dot_at 0 0) c.loop-dot-test.true d))

pub returns : goal.returns
returns c = λ d. c.loop-dot.invariant d
    ∙ ap (λ (ds : List Dot). is_among ds d || is_among c.args.seen.now d)
    (take_all c.loop-dot.dot-index c.args.dots.now c.loop-dot-test.false)
