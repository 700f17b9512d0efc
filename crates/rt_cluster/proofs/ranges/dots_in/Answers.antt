use Rattle.std.proofs.Common.{◌≡◌, ◌≤◌, ◌++◌, ℕ, List, sym, ap, subst, ◌∙◌}
use Rattle.std.specs.List.{flat_map}
use Rattle.rt_value.proofs.Plain.{AllOf}
use Rattle.rt_cluster.specs.declared.dots.Dot.{Dot}
use Rattle.rt_cluster.specs.Ranges.{range_dots}
use Rattle.rt_cluster.proofs.Fronts.{all_dots}
use Rattle.rt_cluster.proofs.RangeLists.{all_filled}
use Rattle.rt_cluster.proofs.ranges.dots_in.Goals as goal

pub loop-last-init : goal.loop-last-init
loop-last-init c =
    let all : c.into_iter-last-iterator.result ≡ c.args.ranges.now =
    c.into_iter-last-iterator.ensures.into_iter_gives ∙ c.entries_from-last-items.ensures ∙ all_dots c.args.ranges.now in
    record {
      so_far =
          ap (λ (ds : List Dot). ds ++ flat_map range_dots c.into_iter-last-iterator.result) c.new-dots.ensures.items
          ∙ ap (flat_map range_dots) all;
      filled = subst (λ (es : List (Dot × ℕ)). AllOf (λ (e : Dot × ℕ). e.1 ≤ e.0.number) es) (sym all)
          (all_filled c.args.ranges.now c.requires);
    }
