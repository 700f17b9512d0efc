use Rattle.std.proofs.Common.{◌++◌, List, map, refl, sym, ap, subst}
use Rattle.std.specs.Prelude.{Contains}
use Rattle.rt_json.specs.declared.tree.Json.{Json}
use Rattle.rt_cluster.specs.declared.dots.Dot.{Dot}
use Rattle.rt_cluster.specs.declared.places.Place.{Place}
use Rattle.rt_cluster.specs.Operations.{is_among}
use Rattle.rt_cluster.specs.Index.{mark_of, Holds}
use Rattle.rt_cluster.specs.Standing.{Known, StandFor}
use Rattle.rt_cluster.proofs.Entries.{holds_is, marks_rise}
use Rattle.rt_cluster.proofs.Merged.{renamed}
use Rattle.rt_cluster.proofs.replica.Replica.take_in.Goals as goal

pub returns : goal.returns
returns c =
    let after = c.apply.new.marks in
    let rising = c.in_ok-apply.ensures.kept.rising in
    record {
      sets = λ known said here there one.
          let inside = subst (λ (k :
          Known). StandFor (Contains k.live) (is_among k.seen) known) (sym c.self.view_is) here in
          let held = renamed (Contains (map mark_of c.self.inside.marks)) (Holds c.self.inside.marks)
          (is_among c.self.inside.seen) known (holds_is c.self.inside.marks c.self.invariant.rising) inside in
          let copied = subst (λ (es : List (Place × Json)). StandFor (Holds es) (is_among c.in_ok-seen.seen) known)
          (sym c.in_ok-marks.ensures)
          (subst (λ (ds : List Dot). StandFor (Holds c.self.inside.marks) (is_among ds) known)
          (sym c.in_ok-seen.ensures) held) in
          renamed (Holds after) (Contains (map mark_of after)) (is_among c.apply.new.seen) (said ++ known)
          (λ m. ((holds_is after rising m).1, (holds_is after rising m).0))
          (c.in_ok-apply.ensures.stands known said copied there one);
      rising = marks_rise after rising;
      node = ap (λ (k : Known). k.node) c.self.view_is;
      made = refl;
      err = tt;
    }
