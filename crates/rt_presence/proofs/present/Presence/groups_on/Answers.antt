use Rattle.std.proofs.Common.{◌≡◌, [], ℕ, List, map, ap, sym, subst, ◌∙◌, true, false}
use Rattle.std.specs.Str.{bytes_eq}
use Rattle.std.proofs.lemmas.Bool.{not-true, not-false}
use Rattle.rt_json.specs.declared.tree.Json.{Json}
use Rattle.rt_ptree.specs.Entries.{IsRising}
use Rattle.rt_ptree.specs.Walk.{entries_from}
use Rattle.rt_presence.specs.declared.tracks.TrackKey.{TrackKey}
use Rattle.rt_presence.specs.Tracks.{Tracked, track_cmp}
use Rattle.rt_presence.specs.Index.{least_on}
use Rattle.rt_presence.specs.Trees.{held_of, meta_object, on_topic, put_last}
use Rattle.rt_presence.proofs.Neighbours.{all_put, all_put_is}
use Rattle.rt_presence.proofs.Walks.{Ahead, ahead_from, ahead_rest, on_from, goes_on, topic_ends, keys_rise}
use Rattle.rt_presence.proofs.present.Presence.groups_on.Goals as goal
use Rattle.rt_presence.proofs.present.Presence.groups_on.Goals.{in-None, in-Some+then-ne}

pub loop-track-init : goal.loop-track-init
loop-track-init c =
    let now = c.args.self.now in
    let topic = c.args.topic.now in
    let rising : IsRising track_cmp now =
    subst (λ (ts : List Tracked). IsRising track_cmp ts) c.self.view_is c.len-len.ensures.rising in
    let walk : c.into_iter-track-iterator.result ≡ entries_from track_cmp now (least_on topic) =
    c.into_iter-track-iterator.ensures.into_iter_gives ∙ c.entries_from-track-items.ensures
    ∙ ap (λ (ts : List Tracked). entries_from track_cmp ts c.in_ok-least.least) c.self.view_is
    ∙ ap (λ (t : TrackKey). entries_from track_cmp now t) c.in_ok-least.ensures in
    record {
      ahead = subst (Ahead topic) (sym walk) (ahead_from topic now rising);
      all =
          ap (all_put (map held_of (on_topic topic c.into_iter-track-iterator.result))) c.new-groups.ensures.items
          ∙ ap (λ (ts : List Tracked). all_put (map held_of (on_topic topic ts)) []) walk
          ∙ ap (λ (ts : List Tracked). all_put (map held_of ts) []) (on_from topic now);
    }

pub loop-track-preserved : goal.loop-track-preserved
loop-track-preserved c =
    let topic = c.args.topic.now in
    let here : Tracked = (c.in-Some.track.now, c.in-Some.tree.now) in
    let behind : List Tracked = c.next.new.self in
    let groups = c.loop-track.groups.items in
    let on : bytes_eq c.in-Some.track.now.topic topic ≡ true =
    ap (λ (xs : List ℕ). bytes_eq xs topic) (sym c.get.ensures.bytes)
    ∙ ap (bytes_eq c.get.result.now) (sym c.get-in-loop-track.ensures.bytes)
    ∙ not-false _ (sym c.ne.ensures ∙ c.if-ne.false) in
    record {
      ahead = ahead_rest topic here behind (subst (Ahead topic) c.in-Some.ensures.steps c.loop-track.invariant.ahead);
      all =
          ap (all_put (map held_of (on_topic topic behind))) (c.in_ok-put_last.ensures
          ∙ ap (λ (meta : Json). put_last (c.in-Some.track.now.key, meta) groups) (c.in_ok-meta.ensures
          ∙ ap (meta_object c.in-Some.track.now.reference) c.get-in-loop-track-2.ensures))
          ∙ ap (λ (ts : List Tracked). all_put (map held_of ts) groups) (sym (goes_on topic here behind on))
          ∙ ap (λ (ts : List Tracked). all_put (map held_of (on_topic topic ts)) groups) (sym c.in-Some.ensures.steps)
          ∙ c.loop-track.invariant.all;
    }

pub returns : goal.returns
returns c =
    let now = c.args.self.now in
    let topic = c.args.topic.now in
    let left : List Tracked = c.loop-track.track-iterator in
    let groups = c.loop-track.groups.items in
    let rising : IsRising track_cmp now =
    subst (λ (ts : List Tracked). IsRising track_cmp ts) c.self.view_is c.len-len.ensures.rising in
    let over : on_topic topic left ≡ [] = elim c.match-next.branch [
      | in-None w ↦ ap (on_topic topic) w.in-None.ensures.steps.0
      | in-Some+then-ne w ↦
          let here : Tracked = (w.in-Some.track.now, w.in-Some.tree.now) in
          let off : bytes_eq w.in-Some.track.now.topic topic ≡ false =
          ap (λ (xs : List ℕ). bytes_eq xs topic) (sym w.get.ensures.bytes)
          ∙ ap (bytes_eq w.get.result.now) (sym w.get-in-loop-track.ensures.bytes)
          ∙ not-true _ (sym w.ne.ensures ∙ w.if-ne.true) in
          ap (on_topic topic) w.in-Some.ensures.steps
          ∙ topic_ends topic here c.next.new.self
          (subst (Ahead topic) w.in-Some.ensures.steps c.loop-track.invariant.ahead) off
    ] in
    ap (λ (ts : List Tracked). all_put (map held_of ts) groups) (sym over)
    ∙ c.loop-track.invariant.all
    ∙ all_put_is (map held_of (on_topic topic now)) (keys_rise topic now rising)
