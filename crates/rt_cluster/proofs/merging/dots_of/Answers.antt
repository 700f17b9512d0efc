use Rattle.std.proofs.Common.{◌≡◌, ◌++◌, ◌∷◌, [], ◌+◌, ◌||◌, Bool, true, false, List, refl, sym, ap, ◌∙◌, take, take_all}
use Rattle.rt_cluster.specs.declared.dots.Mark.{Mark}
use Rattle.rt_cluster.specs.Operations.{is_dot, is_told}
use Rattle.rt_cluster.proofs.Putting.{told_more}
use Rattle.rt_cluster.proofs.Taking.{take_next}
use Rattle.rt_cluster.proofs.merging.dots_of.Goals as goal

or_swap : (a b : Bool) → (a || b) ≡ (b || a)
or_swap true true = refl
or_swap true false = refl
or_swap false true = refl
or_swap false false = refl

pub loop-mark-preserved : goal.loop-mark-preserved
loop-mark-preserved c =
    let marks = c.args.marks.now in
    let i = c.loop-mark.mark-index in
    let n = c.mark-item.result in
    let next : take (i + 1) marks ≡ take i marks ++ n ∷ [] =
    take_next marks i n c.loop-mark-test.true ∙ ap (λ (m : Mark). take i marks ++ m ∷ []) (sym c.mark-item.is) in
    λ d. c.in_ok-add.ensures d
    ∙ ap (λ b. is_dot d n.dot || b) (c.loop-mark.invariant d)
    ∙ or_swap (is_dot d n.dot) (is_told (take i marks) d)
    ∙ sym (told_more (take i marks) n d)
    ∙ ap (λ (ms : List Mark). is_told ms d) (sym next)

pub returns : goal.returns
returns c = λ d. c.loop-mark.invariant d
    ∙ ap (λ (ms : List Mark). is_told ms d) (take_all c.loop-mark.mark-index c.args.marks.now c.loop-mark-test.false)
