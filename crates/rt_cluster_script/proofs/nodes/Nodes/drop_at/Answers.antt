use Rattle.std.proofs.Common.{◌≡◌, false, true, Some, [], ◌∷◌, ◌++◌, sym, subst, ◌∙◌, refl, arith}
use Rattle.std.specs.Prelude.{◌==◌, slice_get, slice_set}
use Rattle.std.specs.Vec.{with_item}
use Rattle.rt_cluster.specs.Operations.{dropped, dots_where}
use Rattle.rt_cluster_script.specs.Script.{state_with, does, dropped_by}
use Rattle.rt_cluster_script.specs.Agreeing.{AllStand}
use Rattle.rt_cluster_script.proofs.Lists.{fits_missing, fits_there}
use Rattle.rt_cluster_script.proofs.Fitting.{bind_is, bind_none, bind_never, done, removal_next, told_set, led_some, led_none}
use Rattle.rt_cluster_script.proofs.nodes.Nodes.drop_at.Goals as goal

pub returns-then-other-len : goal.returns-then-other-len
returns-then-other-len c = λ st a.
    let len = c.args.self.now.replicas.ok.0 in
    led_none c.args.self.now (dropped_by st c.args.node c.args.other)
    (bind_none (λ _. does st c.args.node (dropped c.args.other)) (slice_get st.nodes c.args.other)
    (fits_missing st.told 0 c.args.self.now.replicas.items st.nodes c.args.other a.fit
    (λ h. let e = c.len.ensures in let t = c.if-other-len.true in omega (arith, h, len, e, t))))

pub returns-in-None : goal.returns-in-None
returns-in-None c = λ st a.
    let len = c.args.self.now.replicas.ok.0 in
    let node = c.args.node in
    let none = fits_missing st.told 0 c.args.self.now.replicas.items st.nodes node a.fit
    (λ h. let w : false ≡ true = c.in-None.ensures.variant.1 (omega (arith, h, len)) in absurd (cc)) in
    led_none c.args.self.now (dropped_by st node c.args.other)
    (bind_never (λ _. does st node (dropped c.args.other)) (slice_get st.nodes c.args.other)
    (λ _. bind_none (λ known. Some (state_with (slice_set st.nodes node (dropped c.args.other known ∷ known))
    (st.told ++ dropped c.args.other known ∷ []) st.shown)) (slice_get st.nodes node) none))

pub returns-in_ok-push-in-Some : goal.returns-in_ok-push-in-Some
returns-in_ok-push-in-Some c = λ st a.
    let len = c.args.self.now.replicas.ok.0 in
    let node = c.args.node in
    let other = c.args.other in
    let inside = c.in-Some.ensures.variant.0 refl in
    let old = c.in-Some.replica.now in
    let made = c.in_ok-delta-in-Some in
    let there = fits_there st.told 0 c.args.self.now.replicas.items st.nodes other a.fit
    (let e = c.len.ensures in let t = c.if-other-len.false in omega (arith, len, e, t)) in
    let d = done st.told a.one c.args.self.now.replicas.items st.nodes node old c.drop_node.new.self made.delta
    (dropped other) a.fit (omega (arith, inside, len)) c.in-Some.ensures.value
    (λ known. removal_next node known (dots_where (λ m. other == m.dot.node) known))
    (λ e. made.ensures.ok) (λ e. made.ensures.said) made.ensures.node in
    led_some (record {
      replicas = with_item c.args.self.now.replicas node c.drop_node.new.self;
      told = c.push.new.self;
      shown = c.args.self.now.shown;
    }) (dropped_by st node other)
    (state_with (slice_set st.nodes node (dropped other d.known ∷ d.known)) (st.told ++ dropped other d.known ∷ []) st.shown)
    (bind_is (λ _. does st node (dropped other)) (slice_get st.nodes other) there.0 there.1
    ∙ bind_is (λ known. Some (state_with (slice_set st.nodes node (dropped other known ∷ known))
    (st.told ++ dropped other known ∷ []) st.shown)) (slice_get st.nodes node) d.known d.found)
    (record {
      fit = d.fit;
      stand = subst (λ ds. AllStand ds (st.told ++ dropped other d.known ∷ [])) (sym c.in_ok-push-in-Some.ensures.items)
          (told_set c.args.self.now.told.items st.told made.delta (dropped other d.known) a.stand d.said);
      one = d.one;
      shown = a.shown;
    })
