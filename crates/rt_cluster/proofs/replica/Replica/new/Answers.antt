use Rattle.std.proofs.Common.{◌↔◌, List, [], map, refl, sym, ap, subst}
use Rattle.std.specs.Prelude.{Contains}
use Rattle.std.specs.List.Sorted.{IsStrictlySortedBy}
use Rattle.rt_json.specs.declared.tree.Json.{Json}
use Rattle.rt_cluster.specs.declared.dots.Dot.{Dot}
use Rattle.rt_cluster.specs.declared.dots.Mark.{Mark}
use Rattle.rt_cluster.specs.declared.places.Place.{Place}
use Rattle.rt_cluster.specs.Operations.{is_among}
use Rattle.rt_cluster.specs.Index.{mark_of}
use Rattle.rt_cluster.specs.Shown.{mark_cmp}
use Rattle.rt_cluster.proofs.replica.Replica.new.Goals as goal

none_rise : IsStrictlySortedBy mark_cmp []
unfolding IsStrictlySortedBy
none_rise = tt

pub returns : goal.returns
returns c = record {
  stands = record {
    sets = record {
      live_is_view =
          subst (λ (es : List (Place × Json)). (m : Mark)
          → Contains (map mark_of es) m ↔ Contains [] m) (sym c.new.ensures)
          (λ m. (λ h. h, λ h. h));
      seen_are_dots = λ d. ap (λ (ds : List Dot). is_among ds d) c.new-3.ensures;
    };
    rising = subst (λ (es :
        List (Place × Json)). IsStrictlySortedBy mark_cmp (map mark_of es)) (sym c.new.ensures) none_rise;
    counted = refl;
  };
  node = refl;
}
