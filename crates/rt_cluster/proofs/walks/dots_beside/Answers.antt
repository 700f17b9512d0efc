use Rattle.std.proofs.Common.{◌≡◌, [], List, sym, ap, subst, ◌∙◌}
use Rattle.std.specs.List.{filter}
use Rattle.rt_ptree.specs.Walk.{entries_from}
use Rattle.rt_json.specs.declared.tree.Json.{Json}
use Rattle.rt_cluster.specs.declared.places.Place.{Place}
use Rattle.rt_cluster.specs.Index.{place_cmp, is_beside}
use Rattle.rt_cluster.proofs.Fronts.{key_below, key_over}
use Rattle.rt_cluster.proofs.Blocks.{Ahead, ahead_from, ahead_rest, walk_starts, walk_goes, walk_done, walk_breaks}
use Rattle.rt_cluster.proofs.walks.dots_beside.Goals as goal
use Rattle.rt_cluster.proofs.walks.dots_beside.Goals.{in-None, in-Some+then-not-is_beside}

pub loop-place-init : goal.loop-place-init
loop-place-init c =
    let walk : c.into_iter-place-iterator.result ≡ entries_from place_cmp c.args.marks.now c.args.least.now =
    c.into_iter-place-iterator.ensures.into_iter_gives ∙ c.entries_from-place-items.ensures in
    record {
      ahead = subst (λ (es : List (Place × Json)). Ahead place_cmp c.args.least.now es) (sym walk)
          (ahead_from place_cmp c.args.least.now c.args.marks.now c.len-len.ensures.rising);
      all = walk_starts place_cmp c.args.least.now (is_beside c.args.least.now)
          (key_below c.args.least.now c.requires) (key_over c.args.least.now c.requires) (λ (e : Place
          × Json). e.0.dot) c.new-dots.result.items c.new-dots.ensures.items
          c.args.marks.now c.into_iter-place-iterator.result walk;
    }

pub loop-place-preserved : goal.loop-place-preserved
loop-place-preserved c =
    let here : Place × Json = (c.in-Some.place.now, c.in-Some._tree.now) in
    record {
      ahead = ahead_rest place_cmp c.args.least.now here c.next.new.self
          (subst (λ (es : List (Place × Json)). Ahead place_cmp c.args.least.now es) c.in-Some.ensures.steps
          c.loop-place.invariant.ahead);
      all = walk_goes place_cmp c.args.least.now (is_beside c.args.least.now) (key_below c.args.least.now c.requires)
          (key_over c.args.least.now c.requires) (λ (e : Place
          × Json). e.0.dot) c.loop-place.dots.items c.push.new.self.items here
          c.next.new.self c.loop-place.place-iterator _ c.in-Some.ensures.steps
          (sym c.is_beside.ensures ∙ c.if-not-is_beside.false) c.in_ok-push.ensures.items c.loop-place.invariant.all;
    }

pub returns : goal.returns
returns c =
    let none : filter (λ (e : Place × Json). (is_beside c.args.least.now) e.0) c.loop-place.place-iterator ≡ [] =
    elim c.match-next.branch [
      | in-None w ↦ ap (filter (λ (e : Place × Json). (is_beside c.args.least.now) e.0)) w.in-None.ensures.steps.0
      | in-Some+then-not-is_beside w ↦
          walk_breaks place_cmp c.args.least.now (is_beside c.args.least.now) (key_below c.args.least.now c.requires)
          (key_over c.args.least.now c.requires) (w.in-Some.place.now, w.in-Some._tree.now) c.next.new.self
          c.loop-place.place-iterator w.in-Some.ensures.steps c.loop-place.invariant.ahead
          (sym w.is_beside.ensures ∙ w.if-not-is_beside.true)
    ] in
    walk_done place_cmp c.args.least.now (is_beside c.args.least.now) (key_below c.args.least.now c.requires)
    (key_over c.args.least.now c.requires) (λ (e : Place
    × Json). e.0.dot) c.loop-place.dots.items c.loop-place.place-iterator _ none
    c.loop-place.invariant.all
