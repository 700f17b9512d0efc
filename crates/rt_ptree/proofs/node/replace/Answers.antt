use Rattle.rt_ptree.proofs.Places.{flat_map-halves}
use Rattle.rt_ptree.proofs.node.replace.Goals as goal

pub returns-clause-entries : goal.returns-clause-entries
returns-clause-entries g c = rw (c.in_ok-node-2.ensures.entries, c.in_ok-upper-2.ensures.entries, c.in_ok-upper.ensures.items, c.in_ok-upper.ensures.tail) (flat_map-halves g.C.Part.entries _ c.args.parts.items)
