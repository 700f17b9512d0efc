use Rattle.std.proofs.Common.{◌≡◌, [], List, sym, ap, subst, ◌∙◌}
use Rattle.std.specs.List.{filter}
use Rattle.rt_ptree.specs.Walk.{entries_from}
use Rattle.rt_cluster.specs.declared.dots.Dot.{Dot}
use Rattle.rt_cluster.specs.declared.places.Place.{Place}
use Rattle.rt_cluster.specs.Operations.{dot_at}
use Rattle.rt_cluster.specs.Index.{dot_cmp}
use Rattle.rt_cluster.proofs.Fronts.{of_node, node_below, node_over}
use Rattle.rt_cluster.proofs.Blocks.{Ahead, ahead_from, ahead_rest, walk_starts, walk_goes, walk_done, walk_breaks}
use Rattle.rt_cluster.proofs.walks.dots_of_node.Goals as goal
use Rattle.rt_cluster.proofs.walks.dots_of_node.Goals.{in-None, in-Some+then-not-is_of_node}

pub loop-dot-init : goal.loop-dot-init
loop-dot-init c =
    let walk : c.into_iter-dot-iterator.result ≡ entries_from dot_cmp c.args.places.now (dot_at c.args.node 0) =
    c.into_iter-dot-iterator.ensures.into_iter_gives ∙ c.entries_from-dot-items.ensures in
    record {
      ahead = subst (λ (es : List (Dot × Place)). Ahead dot_cmp (dot_at c.args.node 0) es) (sym walk)
          (ahead_from dot_cmp (dot_at c.args.node 0) c.args.places.now c.len-len.ensures.rising);
      all = walk_starts dot_cmp (dot_at c.args.node 0) (of_node c.args.node) (node_below c.args.node)
          (node_over c.args.node) (λ (e : Dot × Place). e.0) c.new-dots.result.items c.new-dots.ensures.items
          c.args.places.now c.into_iter-dot-iterator.result walk;
    }

pub loop-dot-preserved : goal.loop-dot-preserved
loop-dot-preserved c =
    let here : Dot × Place = (c.in-Some.dot.now, c.in-Some._place.now) in
    record {
      ahead = ahead_rest dot_cmp (dot_at c.args.node 0) here c.next.new.self
          (subst (λ (es : List (Dot × Place)). Ahead dot_cmp (dot_at c.args.node 0) es) c.in-Some.ensures.steps
          c.loop-dot.invariant.ahead);
      all = walk_goes dot_cmp (dot_at c.args.node 0) (of_node c.args.node) (node_below c.args.node)
          (node_over c.args.node) (λ (e : Dot × Place). e.0) c.loop-dot.dots.items c.push.new.self.items here
          c.next.new.self c.loop-dot.dot-iterator _ c.in-Some.ensures.steps
          (sym c.is_of_node.ensures ∙ c.if-not-is_of_node.false) c.in_ok-push.ensures.items c.loop-dot.invariant.all;
    }

pub returns : goal.returns
returns c =
    let none : filter (λ (e : Dot × Place). (of_node c.args.node) e.0) c.loop-dot.dot-iterator ≡ [] =
    elim c.match-next.branch [
      | in-None w ↦ ap (filter (λ (e : Dot × Place). (of_node c.args.node) e.0)) w.in-None.ensures.steps.0
      | in-Some+then-not-is_of_node w ↦
          walk_breaks dot_cmp (dot_at c.args.node 0) (of_node c.args.node) (node_below c.args.node)
          (node_over c.args.node) (w.in-Some.dot.now, w.in-Some._place.now) c.next.new.self
          c.loop-dot.dot-iterator w.in-Some.ensures.steps c.loop-dot.invariant.ahead
          (sym w.is_of_node.ensures ∙ w.if-not-is_of_node.true)
    ] in
    walk_done dot_cmp (dot_at c.args.node 0) (of_node c.args.node) (node_below c.args.node) (node_over c.args.node) (λ
    (e : Dot × Place). e.0) c.loop-dot.dots.items c.loop-dot.dot-iterator _ none
    c.loop-dot.invariant.all
