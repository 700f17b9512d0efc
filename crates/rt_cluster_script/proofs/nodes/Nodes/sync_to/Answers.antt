use Rattle.std.proofs.Common.{◌≡◌, get_or, false, true, Some, ◌++◌, ap, ◌∙◌, refl, arith}
use Rattle.std.specs.Prelude.{slice_get, slice_set}
use Rattle.std.specs.Vec.{with_item}
use Rattle.rt_cluster_script.specs.Script.{state_with, learns, synced}
use Rattle.rt_cluster_script.proofs.Lists.{fits_missing, fits_found}
use Rattle.rt_cluster_script.proofs.Fitting.{bind_is, bind_none, bind_never, past, within, learned_fit, led_none, led_some}
use Rattle.rt_cluster_script.proofs.nodes.Nodes.sync_to.Goals as goal

pub returns-in_default : goal.returns-in_default
returns-in_default c = λ st a.
    led_none c.args.self.now (synced st c.args.from c.args.to)
    (bind_none (λ said. learns st c.args.to said) (slice_get st.nodes c.args.from)
    (fits_missing st.told 0 c.args.self.now.replicas.items st.nodes c.args.from a.fit
    (past c.args.from c.args.self.now.replicas.items c.deref.result.now c.in_default.ensures.lookup.0 c.deref.ensures.value)))

pub returns-in-None : goal.returns-in-None
returns-in-None c = λ st a.
    let len = c.args.self.now.replicas.ok.0 in
    let none = fits_missing st.told 0 c.args.self.now.replicas.items st.nodes c.args.to a.fit
    (λ h. let w : false ≡ true = c.in-None.ensures.variant.1 (omega (arith, h, len)) in absurd (cc)) in
    led_none c.args.self.now (synced st c.args.from c.args.to)
    (bind_never (λ said. learns st c.args.to said) (slice_get st.nodes c.args.from)
    (λ said. bind_none (λ known. Some (state_with (slice_set st.nodes c.args.to (said ++ known)) st.told st.shown))
    (slice_get st.nodes c.args.to) none))

pub returns : goal.returns
returns c = λ st a.
    let len = c.args.self.now.replicas.ok.0 in
    let place = c.in-Some-get_mut.ensures.variant.0 refl in
    let source = fits_found st.told 0 c.args.self.now.replicas.items st.nodes c.args.from c.in-Some.source.now a.fit
    (within c.args.from c.args.self.now.replicas.items c.deref.result.now c.in-Some.ensures.lookup.0 c.deref.ensures.value)
    (c.in-Some.ensures.lookup.1 ∙ ap (λ l. get_or l c.args.from c.in-Some.source.now) c.deref.ensures.value) in
    let l = learned_fit st.told a.one c.args.self.now.replicas.items st.nodes c.args.to c.in-Some-get_mut.replica.now
    c.merge.new.self source.0 c.in_ok-delta.delta a.fit (omega (arith, place, len)) c.in-Some-get_mut.ensures.value
    (c.in_ok-delta.ensures source.0 source.2.stands) source.2.kept
    c.in_ok-merge-in-Some-get_mut.ensures.ok c.in_ok-merge-in-Some-get_mut.ensures.node in
    led_some (record {
      replicas = with_item c.args.self.now.replicas c.args.to c.merge.new.self;
      told = c.args.self.now.told;
      shown = c.args.self.now.shown;
    }) (synced st c.args.from c.args.to)
    (state_with (slice_set st.nodes c.args.to (source.0 ++ l.0)) st.told st.shown)
    (bind_is (λ said. learns st c.args.to said) (slice_get st.nodes c.args.from) source.0 source.1
    ∙ bind_is (λ known. Some (state_with (slice_set st.nodes c.args.to (source.0 ++ known)) st.told st.shown))
    (slice_get st.nodes c.args.to) l.0 l.1)
    (record { fit = l.2; stand = a.stand; one = a.one; shown = a.shown })
