use Rattle.std.proofs.Common.{◌≡◌, Some, true, flat_map, arith}
use Rattle.std.specs.Arc.{arc_value}
use Rattle.std.specs.Ordering.{is_gt}
use Rattle.rt_ptree.specs.Change.{change_key}
use Rattle.rt_ptree.specs.Entries.{least_key}
use Rattle.rt_ptree.specs.Parts.{IsFitNode}
use Rattle.rt_ptree.proofs.Order.{changed-keeps_least}
use Rattle.rt_ptree.proofs.Places.{least-some}
use Rattle.rt_ptree.proofs.Settled.{All-one}
use Rattle.rt_ptree.proofs.node.ArcNodePart.change.Goals as goal

-- a change above the least key leaves it
pub returns-then-is_gt-clause-fits : goal.returns-then-is_gt-clause-fits
returns-then-is_gt-clause-fits g c =
    let least : least_key (flat_map g.C.Part.entries c.in-Some.node.now.parts.items) ≡ Some (arc_value c.in-Some.node.now.least) = rw c.in-Some.ensures.value c.requires.fit.least in
    let greater : is_gt (g.K.Ord.cmp (change_key c.args.change.now) (arc_value c.in-Some.node.now.least)) ≡ true = cc in
    let kept : least_key (flat_map g.C.Part.entries c.change_in.new.parts.items) ≡ Some (arc_value c.in-Some.node.now.least) =
    rw c.in_ok-was_there.ensures.entries (changed-keeps_least g.K.Ord.cmp c.args.change.now (arc_value c.in-Some.node.now.least) (flat_map g.C.Part.entries c.in-Some.node.now.parts.items) least greater) in
    All-one (IsFitNode g.C.Part.MOST g.C.Part.entries g.C.Part.is_fit) _ (record {
      some = least-some g.C.Part.entries c.change_in.new.parts.items (arc_value c.in-Some.node.now.least) kept;
      within = omega (arith, c.if-len-MOST.true, c.in_ok-was_there.ensures.len);
      fits = c.in_ok-was_there.ensures.fits;
      least = kept;
    })
