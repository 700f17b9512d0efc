use Rattle.std.proofs.Common.{◌≡◌, ◌+◌, ◌++◌, ◌∷◌, [], ℕ, List, map, sym, ap, subst, ◌∙◌}
use Rattle.std.specs.Prelude.{Contains}
use Rattle.std.specs.List.{filter}
use Rattle.rt_cluster.specs.declared.dots.Dot.{Dot}
use Rattle.rt_cluster.specs.declared.dots.Mark.{Mark}
use Rattle.rt_cluster.specs.Operations.{Operation, is_among, is_own, last_number, dot_at, mark_at, tracked, view}
use Rattle.rt_cluster.specs.Standing.{StandFor, Stands}
use Rattle.rt_cluster.proofs.Doing.{dots_same, track_said, still_one, counted_next}
use Rattle.rt_cluster.proofs.replica.Replica.track.Goals as goal

pub returns : goal.returns
returns c =
    let here = c.args.self.now in
    let node = here.node in
    let topic = c.args.topic.now in
    let key = c.args.key.now in
    let tree = c.args.tree in
    let own : List Dot = map (λ (m : Mark). m.dot) (filter (is_own node topic key) here.live) in
    let delta = c.in_ok-delta.delta in
    let next : (known : List Operation) → Stands here known → c.made-number.result + 1 ≡ last_number node known + 1 =
    λ known stands. ap (λ n. n + 1) (c.made-number.ensures ∙ stands.counted) in
    let said : (known : List Operation) → Stands here known
    → StandFor (Contains delta.live) (is_among delta.seen) (tracked node topic key tree known ∷ []) =
    λ known stands.
    let ops = tracked node topic key tree known ∷ [] in
    let base = track_said node topic key tree known own
    (λ d. dots_same (is_own node topic key) here.live (view known) stands.sets.live_is_view d) in
    let numbered = subst (λ (n : ℕ). StandFor (Contains (mark_at (dot_at node n) topic key tree ∷ []))
    (is_among (own ++ dot_at node n ∷ [])) ops) (sym (next known stands)) base in
    let shown = subst (λ (ms : List Mark). StandFor (Contains ms)
    (is_among (own ++ dot_at node (c.made-number.result + 1) ∷ [])) ops) (sym c.in_ok-delta.ensures.live) numbered in
    subst (λ (ds : List Dot). StandFor (Contains delta.live) (is_among ds) ops)
    (sym c.in_ok-delta.ensures.seen) shown in
    let done = c.in_ok-take_in.ensures in
    record {
      ok = λ known stands one. record {
        sets = done.sets known (tracked node topic key tree known ∷ []) stands.sets (said known stands)
            (still_one node topic key tree known one);
        rising = done.rising;
        counted = done.made ∙ next known stands ∙ counted_next node topic key tree known
            ∙ ap (λ n. last_number n (tracked node topic key tree known ∷ known)) (sym done.node);
      };
      said = said;
      node = done.node;
      made = done.made ∙ ap (λ n. n + 1) c.made-number.ensures;
      err = tt;
    }
