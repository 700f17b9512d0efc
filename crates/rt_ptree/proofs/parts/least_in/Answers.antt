use Rattle.rt_ptree.proofs.Places.{flat_map-at, least-append}
use Rattle.rt_ptree.proofs.parts.least_in.Goals as goal

pub returns : goal.returns
returns g c = rw (flat_map-at g.C.Part.entries c.args.parts.now 0 _ c.requires.some c.index-parts-0.is) (least-append _ _ _ c.least.ensures)
