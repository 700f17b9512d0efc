use Rattle.std.proofs.Common.{◌≡◌, ◌⊎◌, ◌||◌, ◌&&◌, not, cond, Bool, true, false, List, None, refl, ap, subst, ◌∙◌}
use Rattle.std.specs.Prelude.{Contains}
use Rattle.rt_cluster.specs.declared.dots.Dot.{Dot}
use Rattle.rt_cluster.specs.declared.dots.Mark.{Mark}
use Rattle.rt_cluster.specs.declared.places.Place.{Place}
use Rattle.rt_cluster.specs.Operations.{is_among, is_told}
use Rattle.rt_cluster.specs.Index.{tree_at, Holds, HasOneADot}
use Rattle.rt_cluster.proofs.Merged.{merge_made}
use Rattle.rt_cluster.proofs.merging.apply.Goals as goal

or_true : (b : Bool) → (b || true) ≡ true
or_true true = refl
or_true false = refl

pub put_new-requires : goal.put_new-requires
put_new-requires c = record {
  index = c.in_ok-take_gone.ensures.index;
  seen = λ d h. c.requires.all_seen d (c.in_ok-take_gone.ensures.places d h);
}

pub returns : goal.returns
returns c =
    let marks = c.args.marks.now in
    let mid = c.take_gone.new.marks in
    let after = c.put_new.new.marks in
    let seen = c.args.seen.now in
    let live = c.args.delta.now.live in
    let told_seen = c.args.delta.now.seen in
    let told = c.in_ok-told.told in
    let gone : (p : Place) → tree_at mid p
    ≡ cond (is_among told_seen p.dot && not (is_told live p.dot)) None (tree_at marks p) =
    λ p. c.in_ok-take_gone.ensures.marks p
    ∙ ap (λ (ds : List Dot). cond (is_among ds p.dot && not (is_among told p.dot)) None
    (tree_at marks p)) c.get-2.ensures
    ∙ ap (λ b. cond (is_among told_seen p.dot && not b) None (tree_at marks p))
    (c.in_ok-told.ensures p.dot ∙ ap (λ (ms : List Mark). is_told ms p.dot) c.get.ensures) in
    let came : (m : Mark) → Holds after m → Holds mid m ⊎ (Contains live m × (is_among seen m.dot ≡ false)) =
    subst (λ (ms : List Mark). (m : Mark) → Holds after m → Holds mid m ⊎ (Contains ms m
    × (is_among seen m.dot ≡ false)))
    c.get-3.ensures c.in_ok-put_new.ensures.came in
    let taken : HasOneADot live → (m : Mark) → Contains live m → is_among seen m.dot ≡ false → Holds after m =
    subst (λ (ms : List Mark). HasOneADot ms → (m : Mark) → Contains ms m → is_among seen m.dot ≡ false → Holds after m)
    c.get-3.ensures c.in_ok-put_new.ensures.taken in
    let dots : (d : Dot) → is_among c.put_new.new.seen d ≡ (is_told live d || is_among seen d) =
    λ d. c.in_ok-put_new.ensures.dots d ∙ ap (λ (ms : List Mark). is_told ms d || is_among seen d) c.get-3.ensures in
    let added : (d : Dot) → is_among c.add_all.new.seen d ≡ (is_among told_seen d || is_among c.put_new.new.seen d) =
    λ d. c.in_ok-add_all.ensures d
    ∙ ap (λ (ds : List Dot). is_among ds d || is_among c.put_new.new.seen d) c.get-4.ensures in
    record {
      stands = λ known said here there one.
          merge_made marks mid after seen c.put_new.new.seen c.add_all.new.seen live told_seen gone
          c.in_ok-put_new.ensures.kept came taken dots added known said here there one;
      kept = record {
        index = c.in_ok-put_new.ensures.index;
        all_seen = λ d h. added d ∙ ap (λ b. is_among told_seen d || b) (c.in_ok-put_new.ensures.seen d h)
            ∙ or_true (is_among told_seen d);
        rising = c.len-len.ensures.rising;
      };
    }
