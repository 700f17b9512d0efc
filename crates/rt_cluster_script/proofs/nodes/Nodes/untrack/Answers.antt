use Rattle.std.proofs.Common.{◌≡◌, false, true, Some, [], ◌∷◌, ◌++◌, sym, ap₂, subst, ◌∙◌, refl, arith}
use Rattle.std.specs.Prelude.{slice_get, slice_set}
use Rattle.std.specs.Vec.{with_item}
use Rattle.rt_cluster.specs.Operations.{untracked, dots_where, is_own}
use Rattle.rt_cluster_script.specs.Script.{place_in, state_with, does, untracks}
use Rattle.rt_cluster_script.specs.Agreeing.{AllStand}
use Rattle.rt_cluster_script.proofs.Lists.{fits_missing}
use Rattle.rt_cluster_script.proofs.Fitting.{bind_is, bind_none, Makes, Tells, done, removal_next, told_set, led_some, led_none}
use Rattle.rt_cluster_script.proofs.nodes.Nodes.untrack.Goals as goal

pub returns-in-None : goal.returns-in-None
returns-in-None c = λ st a.
    let len = c.args.self.now.replicas.ok.0 in
    let place = c.in-Some.place in
    let none = fits_missing st.told 0 c.args.self.now.replicas.items st.nodes place.node a.fit
    (λ h. let w : false ≡ true = c.in-None.ensures.variant.1 (omega (arith, h, len)) in absurd (cc)) in
    led_none c.args.self.now (untracks st c.args.text.now)
    (bind_is (λ p. does st p.0 (untracked p.0 p.1.0 p.1.1)) (place_in c.args.text.now)
    (place.node, (place.topic.now, place.rest.now)) c.in-Some.ensures
    ∙ bind_none (λ known. Some (state_with
    (slice_set st.nodes place.node (untracked place.node place.topic.now place.rest.now known ∷ known))
    (st.told ++ untracked place.node place.topic.now place.rest.now known ∷ []) st.shown))
    (slice_get st.nodes place.node) none)

pub returns : goal.returns
returns c = λ st a.
    let len = c.args.self.now.replicas.ok.0 in
    let place = c.in-Some.place in
    let inside = c.in-Some-get_mut.ensures.variant.0 refl in
    let topic = c.in_ok-topic.topic in
    let key = c.in_ok-key.key in
    let old = c.in-Some-get_mut.replica.now in
    let made = c.in_ok-delta-in-Some-get_mut in
    let d = done st.told a.one c.args.self.now.replicas.items st.nodes place.node old c.untrack.new.self made.delta
    (untracked place.node topic key) a.fit (omega (arith, inside, len)) c.in-Some-get_mut.ensures.value
    (λ known. removal_next place.node known (dots_where (is_own place.node topic key) known))
    (λ e. subst (λ n. Makes old c.untrack.new.self (untracked n topic key)) e made.ensures.ok)
    (λ e. subst (λ n. Tells old made.delta (untracked n topic key)) e made.ensures.said) made.ensures.node in
    led_some (record {
      replicas = with_item c.args.self.now.replicas place.node c.untrack.new.self;
      told = c.push.new.self;
      shown = c.args.self.now.shown;
    }) (untracks st c.args.text.now)
    (state_with (slice_set st.nodes place.node (untracked place.node topic key d.known ∷ d.known))
    (st.told ++ untracked place.node topic key d.known ∷ []) st.shown)
    (bind_is (λ p. does st p.0 (untracked p.0 p.1.0 p.1.1)) (place_in c.args.text.now)
    (place.node, (place.topic.now, place.rest.now)) c.in-Some.ensures
    ∙ ap₂ (λ t k. does st place.node (untracked place.node t k)) (sym c.in_ok-topic.ensures) (sym c.in_ok-key.ensures)
    ∙ bind_is (λ known. Some (state_with (slice_set st.nodes place.node (untracked place.node topic key known ∷ known))
    (st.told ++ untracked place.node topic key known ∷ []) st.shown)) (slice_get st.nodes place.node) d.known d.found)
    (record {
      fit = d.fit;
      stand = subst (λ ds. AllStand ds (st.told ++ untracked place.node topic key d.known ∷ []))
          (sym c.in_ok-push-in-Some-get_mut.ensures.items)
          (told_set c.args.self.now.told.items st.told made.delta (untracked place.node topic key d.known) a.stand d.said);
      one = d.one;
      shown = a.shown;
    })
