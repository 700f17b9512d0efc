use Rattle.std.proofs.Common.{◌≡◌, get_or, false, true, Some, [], ◌∷◌, ap, ◌∙◌, refl, arith}
use Rattle.std.specs.Prelude.{slice_get, slice_set}
use Rattle.std.specs.Vec.{with_item}
use Rattle.rt_cluster_script.specs.Script.{state_with, learns, given}
use Rattle.rt_cluster_script.proofs.Lists.{fits_missing, told_missing, told_found, among_one}
use Rattle.rt_cluster_script.proofs.Fitting.{bind_is, bind_none, bind_never, past, within, learned_fit, led_none, led_some}
use Rattle.rt_cluster_script.proofs.nodes.Nodes.give_to.Goals as goal

pub returns-in_default : goal.returns-in_default
returns-in_default c = λ st a.
    led_none c.args.self.now (given st c.args.operation c.args.node)
    (bind_none (λ o. learns st c.args.node (o ∷ [])) (slice_get st.told c.args.operation)
    (told_missing c.args.self.now.told.items st.told c.args.operation a.stand
    (past c.args.operation c.args.self.now.told.items c.deref.result.now c.in_default.ensures.lookup.0 c.deref.ensures.value)))

pub returns-in-None : goal.returns-in-None
returns-in-None c = λ st a.
    let len = c.args.self.now.replicas.ok.0 in
    let none = fits_missing st.told 0 c.args.self.now.replicas.items st.nodes c.args.node a.fit
    (λ h. let w : false ≡ true = c.in-None.ensures.variant.1 (omega (arith, h, len)) in absurd (cc)) in
    led_none c.args.self.now (given st c.args.operation c.args.node)
    (bind_never (λ o. learns st c.args.node (o ∷ [])) (slice_get st.told c.args.operation)
    (λ o. bind_none (λ known. Some (state_with (slice_set st.nodes c.args.node (o ∷ known)) st.told st.shown))
    (slice_get st.nodes c.args.node) none))

pub returns-in_ok-merge-in-Some-get_mut : goal.returns-in_ok-merge-in-Some-get_mut
returns-in_ok-merge-in-Some-get_mut c = λ st a.
    let len = c.args.self.now.replicas.ok.0 in
    let place = c.in-Some-get_mut.ensures.variant.0 refl in
    let o = told_found c.args.self.now.told.items st.told c.args.operation c.in-Some.delta.now a.stand
    (within c.args.operation c.args.self.now.told.items c.deref.result.now c.in-Some.ensures.lookup.0 c.deref.ensures.value)
    (c.in-Some.ensures.lookup.1 ∙ ap (λ l. get_or l c.args.operation c.in-Some.delta.now) c.deref.ensures.value) in
    let l = learned_fit st.told a.one c.args.self.now.replicas.items st.nodes c.args.node c.in-Some-get_mut.replica.now
    c.merge.new.self (o.0 ∷ []) c.in-Some.delta.now a.fit (omega (arith, place, len)) c.in-Some-get_mut.ensures.value
    o.2 (among_one st.told o.0 o.3) c.in_ok-merge-in-Some-get_mut.ensures.ok c.in_ok-merge-in-Some-get_mut.ensures.node in
    led_some (record {
      replicas = with_item c.args.self.now.replicas c.args.node c.merge.new.self;
      told = c.args.self.now.told;
      shown = c.args.self.now.shown;
    }) (given st c.args.operation c.args.node)
    (state_with (slice_set st.nodes c.args.node (o.0 ∷ l.0)) st.told st.shown)
    (bind_is (λ q. learns st c.args.node (q ∷ [])) (slice_get st.told c.args.operation) o.0 o.1
    ∙ bind_is (λ known. Some (state_with (slice_set st.nodes c.args.node (o.0 ∷ known)) st.told st.shown))
    (slice_get st.nodes c.args.node) l.0 l.1)
    (record { fit = l.2; stand = a.stand; one = a.one; shown = a.shown })
