use Rattle.std.proofs.Common.{Some, rules}
use Rattle.rt_ptree.specs.Entries.{Updates}
use Rattle.rt_cluster.specs.Index.{dot_cmp, place_cmp, place_of}
use Rattle.rt_cluster.proofs.Indexed.{put_indexed}
use Rattle.rt_cluster.proofs.places.put.Goals as goal

pub returns-clause-index : goal.returns-clause-index
returns-clause-index c =
    let marks : Updates place_cmp c.args.marks.now c.insert.new.map (place_of c.args.mark.now)
    (Some c.args.mark.now.tree) =
    search rules in
    let places : Updates dot_cmp c.args.places.now c.insert-2.new.map c.args.mark.now.dot (Some
    (place_of c.args.mark.now)) =
    search rules in
    put_indexed c.args.marks.now c.args.places.now c.requires.index c.args.mark.now c.requires.fresh c.insert.new.map
    c.insert-2.new.map marks places
