use Rattle.std.proofs.Common.{List, sym, subst}
use Rattle.rt_presence.specs.Tracks.{Tracked}
use Rattle.rt_presence.specs.Index.{IsIndexed}
use Rattle.rt_presence.proofs.Changes.{take_indexed}
use Rattle.rt_presence.proofs.maps.take.Goals as goal

pub returns-clause-index : goal.returns-clause-index
returns-clause-index c =
    subst (λ (ts : List Tracked). IsIndexed ts c.remove.new.self) (sym c.in_ok-left.ensures)
    (take_indexed c.args.tracks.now c.args.places.now c.args.place.now c.requires c.remove.new.self
    c.in_ok-remove.ensures.updates)
