use Rattle.std.proofs.Common.{◌≡◌, ◌∷◌, [], List, sym, ap, subst, ◌∙◌}
use Rattle.std.specs.Prelude.{Contains}
use Rattle.rt_cluster.specs.declared.dots.Dot.{Dot}
use Rattle.rt_cluster.specs.declared.dots.Mark.{Mark}
use Rattle.rt_cluster.specs.Operations.{removes, is_among, last_number}
use Rattle.rt_cluster.specs.Standing.{StandFor}
use Rattle.rt_cluster.proofs.Doing.{removal_said}
use Rattle.rt_cluster.proofs.replica.Replica.remove.Goals as goal

pub returns : goal.returns
returns c =
    let live = c.new-live.result in
    let seen = c.new-seen.result in
    let done = c.in_ok-take_in.ensures in
    let said : (gone : List Dot) → ((d : Dot) → is_among c.args.dots.items d ≡ is_among gone d)
    → StandFor (Contains live) (is_among seen) (removes gone ∷ []) =
    λ gone same. subst (λ (ms : List Mark). StandFor (Contains ms) (is_among seen) (removes gone ∷ []))
    (sym (c.new-live.ensures ∙ c.new-none.ensures.items))
    (removal_said seen gone (λ d. ap (λ (ds : List Dot). is_among ds d) c.new-seen.ensures ∙ same d)) in
    record {
      ok = λ known gone stands one same. record {
        sets = done.sets known (removes gone ∷ []) stands.sets (said gone same) one;
        rising = done.rising;
        counted = done.made ∙ c.made-made.ensures ∙ stands.counted
            ∙ ap (λ n. last_number n (removes gone ∷ known)) (sym done.node);
      };
      said = said;
      node = done.node;
      err = tt;
    }
