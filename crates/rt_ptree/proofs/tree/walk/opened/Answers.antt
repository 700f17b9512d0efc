use Rattle.std.proofs.Common.{◌+◌, sym, subst}
use Rattle.std.proofs.lemmas.List.{take_rest}
use Rattle.rt_ptree.specs.Parts.{node_list, IsFitNode}
use Rattle.rt_ptree.proofs.Places.{IsRising-at}
use Rattle.rt_ptree.proofs.Walk.{entries_from-at}
use Rattle.rt_ptree.proofs.tree.walk.opened.Goals as goal

pub returns-clause-from : goal.returns-clause-from
returns-clause-from g c =
    let at = entries_from-at g.K.Ord.cmp (g.Q.Sought.stands_for c.args.key.now) (node_list g.C.Part.entries) _ _ _ c.place-at.ensures.within c.index-nodes-at.is c.place-at.ensures.below c.place-at.ensures.above in
    rw (take_rest c.args.nodes.now (c.place-at.result + 1), c.deref-2.ensures.value, c.deref.ensures) at

pub returns-clause-parts : goal.returns-clause-parts
returns-clause-parts g c =
    let node = c.index-nodes-at.result in
    let rising = IsRising-at g.met.K.Ord.total (node_list g.C.Part.entries) _ _ _ c.place-at.ensures.within c.index-nodes-at.is c.requires.rising in
    let fit = subst (IsFitNode g.C.Part.MOST g.C.Part.entries g.C.Part.is_fit) (sym c.index-nodes-at.is) (c.requires.fits c.place-at.result node c.place-at.ensures.within) in
    rw (c.deref-2.ensures.value, c.deref.ensures) (record { some = fit.some; fits = fit.fits; rising = rising })
