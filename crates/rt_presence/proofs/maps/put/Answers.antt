use Rattle.std.proofs.Common.{◌≡◌, List, Some, ap, subst, refl, ◌∙◌}
use Rattle.std.specs.Arc.{arc_value}
use Rattle.std.specs.BTreeMap.{insert_entry}
use Rattle.rt_json.specs.declared.tree.Json.{Json}
use Rattle.rt_ptree.specs.Entries.{Updates}
use Rattle.rt_presence.specs.declared.tracks.TrackKey.{TrackKey}
use Rattle.rt_presence.specs.declared.tracks.Place.{Place}
use Rattle.rt_presence.specs.Tracks.{Tracked, track_cmp, place_cmp, without_channel}
use Rattle.rt_presence.specs.Index.{place_of}
use Rattle.rt_presence.proofs.Changes.{put_is, put_indexed}
use Rattle.rt_presence.proofs.maps.put.Goals as goal

pub returns-clause-ok : goal.returns-clause-ok
returns-clause-ok c =
    let t : TrackKey = arc_value c.args.track in
    let j : Json = arc_value c.args.tree in
    let tracks : List Tracked = c.args.tracks.now in
    let left : c.in_ok-changed.changed ≡ without_channel tracks t.topic t.channel =
    c.in_ok-changed.ensures
    ∙ ap (λ (q : Place). without_channel tracks q.topic q.channel) (c.deref.ensures ∙ c.requires.place) in
    c.in_ok-insert.ensures.ok
    ∙ ap (λ (ts : List Tracked). insert_entry track_cmp ts t j) left
    ∙ put_is tracks c.args.places.now (place_of t) c.requires.index t j refl

pub returns-clause-index : goal.returns-clause-index
returns-clause-index c =
    let t : TrackKey = arc_value c.args.track in
    let j : Json = arc_value c.args.tree in
    let tracks : List Tracked = c.args.tracks.now in
    let places : List (Place × TrackKey) = c.args.places.now in
    let left : c.in_ok-changed.changed ≡ without_channel tracks t.topic t.channel =
    c.in_ok-changed.ensures
    ∙ ap (λ (q : Place). without_channel tracks q.topic q.channel) (c.deref.ensures ∙ c.requires.place) in
    let moved : Updates place_cmp places c.insert-2.new.map (place_of t) (Some t) =
    subst (λ (q : Place). Updates place_cmp places c.insert-2.new.map q (Some t)) c.requires.place
    (subst (λ (u : TrackKey). Updates place_cmp places c.insert-2.new.map (arc_value c.args.place) (Some u))
    c.in_ok-held.ensures c.in_ok-insert-2.ensures.updates) in
    put_indexed tracks places (place_of t) c.requires.index t j refl c.insert.new.map c.insert-2.new.map
    (returns-clause-ok c)
    (subst (λ (ts : List Tracked). Updates track_cmp ts c.insert.new.map t (Some j)) left c.in_ok-insert.ensures.updates)
    moved
