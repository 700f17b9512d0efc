use Rattle.std.proofs.Common.{◌≡◌, ◌∷◌, [], ◌++◌, get_or, Some, ap, ap₂, ◌∙◌}
use Rattle.std.specs.Prelude.{slice_get}
use Rattle.std.specs.Fmt.{decimal}
use Rattle.rt_json.specs.declared.tree.Json.{Json}
use Rattle.rt_json.specs.Written.{written}
use Rattle.rt_cluster.specs.Shown.{presence}
use Rattle.rt_cluster_script.specs.Script.{state_with, shown, shown_line}
use Rattle.rt_cluster_script.proofs.Lists.{fits_missing, fits_found, one_sub}
use Rattle.rt_cluster_script.proofs.Fitting.{bind_is, bind_none, past, within, led_none, led_some}
use Rattle.rt_cluster_script.proofs.nodes.Nodes.show_at.Goals as goal

pub returns-in_default : goal.returns-in_default
returns-in_default c = λ st a.
    led_none c.args.self.now (shown st c.args.node c.args.topic.now)
    (bind_none (λ known. Some (state_with st.nodes st.told (st.shown ++ shown_line c.args.node c.args.topic.now known)))
    (slice_get st.nodes c.args.node)
    (fits_missing st.told 0 c.args.self.now.replicas.items st.nodes c.args.node a.fit
    (past c.args.node c.args.self.now.replicas.items c.deref.result.now c.in_default.ensures.lookup.0 c.deref.ensures.value)))

pub returns : goal.returns
returns c = λ st a.
    let found = fits_found st.told 0 c.args.self.now.replicas.items st.nodes c.args.node c.in-Some.replica.now a.fit
    (within c.args.node c.args.self.now.replicas.items c.deref.result.now c.in-Some.ensures.lookup.0 c.deref.ensures.value)
    (c.in-Some.ensures.lookup.1 ∙ ap (λ l. get_or l c.args.node c.in-Some.replica.now) c.deref.ensures.value) in
    let topic = c.args.topic.now in
    let tree : c.in_ok-tree.tree ≡ presence found.0 topic =
    c.in_ok-tree.ensures.shown found.0 found.2.stands (one_sub found.0 st.told found.2.kept a.one)
    ∙ ap (presence found.0) c.in_ok-name.ensures in
    let line : c.in_ok-line.line.items ≡ shown_line c.args.node topic found.0 =
    c.in_ok-line.ensures
    ∙ ap (λ (t : Json). decimal c.args.node ++ 32 ∷ topic ++ 32 ∷ written t ++ 10 ∷ []) tree in
    led_some _ (shown st c.args.node topic)
    (state_with st.nodes st.told (st.shown ++ shown_line c.args.node topic found.0))
    (bind_is (λ known. Some (state_with st.nodes st.told (st.shown ++ shown_line c.args.node topic known)))
    (slice_get st.nodes c.args.node) found.0 found.1)
    (record {
      fit = a.fit;
      stand = a.stand;
      one = a.one;
      shown = c.in_ok-extend_from_slice.ensures.items ∙ ap₂ (λ x y. x ++ y) a.shown (c.as_slice.ensures.value ∙ line);
    })
