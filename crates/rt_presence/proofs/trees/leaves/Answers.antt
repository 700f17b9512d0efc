use Rattle.std.proofs.Common.{◌++◌, List, option_map, option_to_list, ap, sym, ◌∙◌, arith}
use Rattle.rt_presence.specs.declared.differences.Diff.{Diff}
use Rattle.rt_presence.specs.Trees.{Held, under}
use Rattle.rt_presence.proofs.Taken.{picked_more}
use Rattle.rt_presence.proofs.trees.leaves.Goals as goal

pub loop-difference-preserved : goal.loop-difference-preserved
loop-difference-preserved c =
    let d = c.difference-item.result in
    c.in_ok-put_held.ensures
    ∙ ap (λ (hs : List Held). hs ++ option_to_list (option_map (under d.key) d.left)) c.loop-difference.invariant
    ∙ sym (picked_more (λ (x : Diff). option_map (under x.key) x.left) c.args.differences.now
    c.loop-difference.difference-index d (omega arith) c.difference-item.is)
