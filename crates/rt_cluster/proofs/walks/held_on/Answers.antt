use Rattle.std.proofs.Common.{◌≡◌, [], ◌∷◌, ◌++◌, List, sym, ap, subst, ◌∙◌}
use Rattle.std.specs.List.{filter}
use Rattle.rt_ptree.specs.Walk.{entries_from}
use Rattle.rt_json.specs.declared.tree.Json.{Json}
use Rattle.rt_cluster.specs.declared.places.Place.{Place}
use Rattle.rt_presence.specs.Trees.{Held}
use Rattle.rt_cluster.specs.Index.{place_cmp, least_on, mark_of}
use Rattle.rt_cluster.specs.Shown.{held_of}
use Rattle.rt_cluster.proofs.Fronts.{of_topic, topic_below, topic_over}
use Rattle.rt_cluster.proofs.Blocks.{Ahead, ahead_from, ahead_rest, walk_starts, walk_goes, walk_done, walk_breaks}
use Rattle.rt_cluster.proofs.walks.held_on.Goals as goal
use Rattle.rt_cluster.proofs.walks.held_on.Goals.{in-None, in-Some+then-not-is_on}

pub loop-place-init : goal.loop-place-init
loop-place-init c =
    let walk : c.into_iter-place-iterator.result ≡ entries_from place_cmp c.args.marks.now (least_on c.args.topic.now) =
    c.into_iter-place-iterator.ensures.into_iter_gives ∙ c.entries_from-place-items.ensures
    ∙ ap (λ (p : Place). entries_from place_cmp c.args.marks.now p) c.in_ok-least.ensures in
    record {
      ahead = subst (λ (es : List (Place × Json)). Ahead place_cmp (least_on c.args.topic.now) es) (sym walk)
          (ahead_from place_cmp (least_on c.args.topic.now) c.args.marks.now c.len-len.ensures.rising);
      all = walk_starts place_cmp (least_on c.args.topic.now) (of_topic c.args.topic.now)
          (topic_below c.args.topic.now) (topic_over c.args.topic.now) (λ (e : Place
          × Json). held_of (mark_of e)) c.new-out.result.items c.new-out.ensures.items
          c.args.marks.now c.into_iter-place-iterator.result walk;
    }

pub loop-place-preserved : goal.loop-place-preserved
loop-place-preserved c =
    let here : Place × Json = (c.in-Some.place.now, c.in-Some.tree.now) in
    record {
      ahead = ahead_rest place_cmp (least_on c.args.topic.now) here c.next.new.self
          (subst (λ (es : List (Place × Json)). Ahead place_cmp (least_on c.args.topic.now) es) c.in-Some.ensures.steps
          c.loop-place.invariant.ahead);
      all = walk_goes place_cmp (least_on c.args.topic.now) (of_topic c.args.topic.now) (topic_below c.args.topic.now)
          (topic_over c.args.topic.now) (λ (e :
          Place × Json). held_of (mark_of e)) c.loop-place.out.items c.push.new.self.items here
          c.next.new.self c.loop-place.place-iterator _ c.in-Some.ensures.steps
          (sym c.is_on.ensures ∙ c.if-not-is_on.false)
          (c.in_ok-push.ensures.items ∙ ap (λ (h :
          Held). c.loop-place.out.items ++ h ∷ []) c.in_ok-held.ensures) c.loop-place.invariant.all;
    }

pub returns : goal.returns
returns c =
    let none : filter (λ (e : Place × Json). (of_topic c.args.topic.now) e.0) c.loop-place.place-iterator ≡ [] =
    elim c.match-next.branch [
      | in-None w ↦ ap (filter (λ (e : Place × Json). (of_topic c.args.topic.now) e.0)) w.in-None.ensures.steps.0
      | in-Some+then-not-is_on w ↦
          walk_breaks place_cmp (least_on c.args.topic.now) (of_topic c.args.topic.now) (topic_below c.args.topic.now)
          (topic_over c.args.topic.now) (w.in-Some.place.now, w.in-Some.tree.now) c.next.new.self
          c.loop-place.place-iterator w.in-Some.ensures.steps c.loop-place.invariant.ahead
          (sym w.is_on.ensures ∙ w.if-not-is_on.true)
    ] in
    walk_done place_cmp (least_on c.args.topic.now) (of_topic c.args.topic.now) (topic_below c.args.topic.now)
    (topic_over c.args.topic.now) (λ (e :
    Place × Json). held_of (mark_of e)) c.loop-place.out.items c.loop-place.place-iterator _ none
    c.loop-place.invariant.all
