use Rattle.std.proofs.Common.{◌↔◌, List, sym, ap, subst, ◌∙◌}
use Rattle.std.specs.Prelude.{Contains}
use Rattle.rt_cluster.specs.declared.dots.Dot.{Dot}
use Rattle.rt_cluster.specs.declared.dots.Mark.{Mark}
use Rattle.rt_cluster.specs.Operations.{is_among, view}
use Rattle.rt_cluster.specs.Standing.{Known}
use Rattle.rt_cluster.proofs.replica.Replica.whole.Goals as goal

pub returns : goal.returns
returns c =
    let live = c.new-live.ensures ∙ c.in_ok-live.ensures ∙ ap (λ (k : Known). k.live) c.self.view_is in
    λ known stands. record {
      live_is_view = λ m. subst (λ (ms : List Mark). Contains ms m ↔ Contains (view known) m) (sym live)
          (stands.sets.live_is_view m);
      seen_are_dots = λ d. ap (λ (ds : List Dot). is_among ds d) c.new-seen.ensures ∙ c.in_ok-seen.ensures d
          ∙ ap (λ (k : Known). is_among k.seen d) c.self.view_is ∙ stands.sets.seen_are_dots d;
    }
