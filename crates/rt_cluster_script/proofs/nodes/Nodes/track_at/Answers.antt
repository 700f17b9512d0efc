use Rattle.std.proofs.Common.{◌≡◌, false, true, Some, [], ◌∷◌, ◌++◌, sym, ap₂, subst, ◌∙◌, refl, arith}
use Rattle.std.specs.Prelude.{slice_get, slice_set}
use Rattle.std.specs.Vec.{with_item}
use Rattle.rt_cluster.specs.Operations.{tracked}
use Rattle.rt_cluster_script.specs.Script.{state_with, does}
use Rattle.rt_cluster_script.specs.Agreeing.{AllStand}
use Rattle.rt_cluster_script.proofs.Lists.{fits_missing}
use Rattle.rt_cluster_script.proofs.Fitting.{bind_is, bind_none, Makes, Tells, done, tracked_next, told_set, led_some, led_none}
use Rattle.rt_cluster_script.proofs.nodes.Nodes.track_at.Goals as goal

pub returns-in-None : goal.returns-in-None
returns-in-None c = λ st a.
    let len = c.args.self.now.replicas.ok.0 in
    let node = c.args.node in
    let none = fits_missing st.told 0 c.args.self.now.replicas.items st.nodes node a.fit
    (λ h. let w : false ≡ true = c.in-None.ensures.variant.1 (omega (arith, h, len)) in absurd (cc)) in
    led_none c.args.self.now (does st node (tracked node c.args.topic.now c.args.key.now c.args.tree))
    (bind_none (λ known. Some (state_with
    (slice_set st.nodes node (tracked node c.args.topic.now c.args.key.now c.args.tree known ∷ known))
    (st.told ++ tracked node c.args.topic.now c.args.key.now c.args.tree known ∷ []) st.shown))
    (slice_get st.nodes node) none)

pub returns-in_ok-push-in-Some : goal.returns-in_ok-push-in-Some
returns-in_ok-push-in-Some c = λ st a.
    let len = c.args.self.now.replicas.ok.0 in
    let node = c.args.node in
    let inside = c.in-Some.ensures.variant.0 refl in
    let topic = c.in_ok-topic.topic in
    let key = c.in_ok-key.key in
    let tree = c.args.tree in
    let old = c.in-Some.replica.now in
    let made = c.in_ok-delta-in-Some in
    let d = done st.told a.one c.args.self.now.replicas.items st.nodes node old c.track.new.self made.delta
    (tracked node topic key tree) a.fit (omega (arith, inside, len)) c.in-Some.ensures.value
    (tracked_next node topic key tree)
    (λ e. subst (λ n. Makes old c.track.new.self (tracked n topic key tree)) e made.ensures.ok)
    (λ e. subst (λ n. Tells old made.delta (tracked n topic key tree)) e made.ensures.said) made.ensures.node in
    led_some (record {
      replicas = with_item c.args.self.now.replicas node c.track.new.self;
      told = c.push.new.self;
      shown = c.args.self.now.shown;
    }) (does st node (tracked node c.args.topic.now c.args.key.now tree))
    (state_with (slice_set st.nodes node (tracked node topic key tree d.known ∷ d.known))
    (st.told ++ tracked node topic key tree d.known ∷ []) st.shown)
    (ap₂ (λ t k. does st node (tracked node t k tree)) (sym c.in_ok-topic.ensures) (sym c.in_ok-key.ensures)
    ∙ bind_is (λ known. Some (state_with (slice_set st.nodes node (tracked node topic key tree known ∷ known))
    (st.told ++ tracked node topic key tree known ∷ []) st.shown)) (slice_get st.nodes node) d.known d.found)
    (record {
      fit = d.fit;
      stand = subst (λ ds. AllStand ds (st.told ++ tracked node topic key tree d.known ∷ []))
          (sym c.in_ok-push-in-Some.ensures.items)
          (told_set c.args.self.now.told.items st.told made.delta (tracked node topic key tree d.known) a.stand d.said);
      one = d.one;
      shown = a.shown;
    })
