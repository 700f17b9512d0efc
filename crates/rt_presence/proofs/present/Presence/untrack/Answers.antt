use Rattle.std.proofs.Common.{ℕ, List, ap, sym, ◌∙◌}
use Rattle.rt_presence.specs.Tracks.{track_of}
use Rattle.rt_presence.proofs.Changes.{none_leaves}
use Rattle.rt_presence.proofs.present.Presence.untrack.Goals as goal

pub returns-in-None-clause-ok : goal.returns-in-None-clause-ok
returns-in-None-clause-ok c =
    let now = c.args.self.now in
    none_leaves now c.args.topic.now c.args.channel
    (ap (λ (topic : List ℕ). track_of now topic c.args.channel) (sym c.in_ok-place.ensures.topic)
    ∙ ap (track_of now c.in_ok-place.place.topic) (sym c.in_ok-place.ensures.channel)
    ∙ sym c.in-None.ensures)
