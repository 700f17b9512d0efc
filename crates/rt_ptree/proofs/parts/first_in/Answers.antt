use Rattle.rt_ptree.proofs.Places.{flat_map-at, first-append}
use Rattle.rt_ptree.proofs.parts.first_in.Goals as goal

pub returns : goal.returns
returns g c = rw (flat_map-at g.C.Part.entries c.args.parts.now 0 _ c.requires.some c.index-parts-0.is) (first-append _ _ _ c.first.ensures)
