-- The entries of a map as marks.
use Rattle.std.proofs.Common.{◌≡◌, ◌↔◌, List, [], ◌∷◌, map, subst}
use Rattle.std.specs.Prelude.{Contains}
use Rattle.std.specs.List.{AllByRecursion}
use Rattle.std.specs.List.Sorted.{IsStrictlySortedBy}
use Rattle.std.specs.Map.{keys_of}
use Rattle.std.specs.declared.cmp.Ordering.TheVariants.{Less}
use Rattle.std.proofs.lemmas.Cmp.{eq_by_cmp_equiv}
use Rattle.std.proofs.lemmas.Map.Keys.{IsDistinct-from_sorted}
use Rattle.std.proofs.lemmas.Map.Views.{Contains-from_lookup, lookup-from_Contains, tells_apart}
use Rattle.rt_json.specs.declared.tree.Json.{Json}
use Rattle.rt_ptree.specs.Entries.{IsRising}
use Rattle.rt_value.proofs.Among.{Among, to_contains, from_contains, among_map, map_among}
use Rattle.rt_cluster.specs.declared.dots.Mark.{Mark}
use Rattle.rt_cluster.specs.declared.places.Place.{Place}
use Rattle.rt_cluster.specs.Index.{place_cmp, place_of, mark_of, Holds}
use Rattle.rt_cluster.specs.Shown.{mark_cmp}
use Rattle.rt_cluster.proofs.Indexed.{place_total, place_exact}

above : (e : Place × Json) (es : List (Place × Json)) → AllByRecursion (λ (p :
    Place). place_cmp e.0 p ≡ Less) (keys_of es)
    → AllByRecursion (λ (m : Mark). mark_cmp (mark_of e) m ≡ Less) (map mark_of es)
above e [] a = tt
above e (f ∷ es) a = (a.0, above e es a.1)

pub marks_rise : (es : List (Place × Json)) → IsRising place_cmp es → IsStrictlySortedBy mark_cmp (map mark_of es)
unfolding IsStrictlySortedBy
marks_rise [] s = tt
marks_rise (e ∷ es) s = (above e es s.0, marks_rise es s.1)

module _ (es : List (Place × Json)) (rising : IsRising place_cmp es) where
  holds_there : (m : Mark) (e : Place × Json) → Among es e → mark_of e ≡ m → Holds es m
  holds_there m e h same =
      subst (λ (n : Mark). Holds es n) same
      (lookup-from_Contains (eq_by_cmp_equiv place_total) e.0 e.1 es (IsDistinct-from_sorted place_cmp
      (keys_of es) rising)
      (to_contains es e h))

  pub holds_is : (m : Mark) → Contains (map mark_of es) m ↔ Holds es m
  holds_is m = (
    λ h. let r = among_map mark_of es m (from_contains _ _ h) in holds_there m r.0 r.1 r.2,
    λ h. to_contains _ _ (map_among mark_of es (place_of m, m.tree) (from_contains _ _
        (Contains-from_lookup (tells_apart place_exact) (place_of m) m.tree es h))),
  )
