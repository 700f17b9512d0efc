use Rattle.std.proofs.Common.{◌≡◌, [], map}
use Rattle.rt_presence.specs.Trees.{held_of, on_topic}
use Rattle.rt_presence.proofs.Neighbours.{all_put}
use Rattle.rt_presence.proofs.Walks.{Ahead}
use Rattle.rt_presence.proofs.present.Presence.groups_on.Given as goal

-- the tracks of the topic that are left, put behind the metas so far, are all
abbrev pub invariant-loop-track : goal.invariant-loop-track
invariant-loop-track l = record {
  ahead : Ahead l.topic l.track-iterator;
  all : all_put (map held_of (on_topic l.topic l.track-iterator)) l.groups.items
      ≡ all_put (map held_of (on_topic l.topic l.self)) [];
}
