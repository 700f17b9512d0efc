use Rattle.std.proofs.Common.{◌≡◌, ◌⊎◌, inl, inr, ◌==◌, ◌<◌, length, false, sym, ap, ◌∙◌, arith}
use Rattle.std.specs.Vec.{vec_len}
use Rattle.rt_lines.specs.Words.{number_in}
use Rattle.rt_cluster_script.specs.Script.{begins, begun}
use Rattle.rt_cluster_script.proofs.Beginning.{as_many, not_begun}
use Rattle.rt_cluster_script.proofs.Fitting.{bind_is, led_none}
use Rattle.rt_cluster_script.proofs.nodes.Nodes.begin.Goals as goal

pub returns-then-not-is_empty : goal.returns-then-not-is_empty
returns-then-not-is_empty c = λ st a.
    let len = c.args.self.now.replicas.ok.0 in
    let many = as_many st.told 0 c.args.self.now.replicas.items st.nodes a.fit in
    let same : length st.nodes ≡ vec_len c.args.self.now.replicas = omega (arith, len, many) in
    let some : c.is_empty.result ≡ false → (length st.nodes == 0) ≡ false =
    λ e. ap (λ n. n == 0) same ∙ sym c.is_empty.ensures ∙ e in
    let why : ((length st.nodes == 0) ≡ false) ⊎ ((c.in-Some.count ≡ 0) ⊎ (16 < c.in-Some.count)) =
    elim c.then-not-is_empty.either [
      | inl e ↦ inl (some e)
      | inr (inl t) ↦ inr (inl t.1)
      | inr (inr t) ↦ inr (inr t.2)
    ] in
    led_none c.args.self.now (begins st c.args.text.now)
    (bind_is (begun st) (number_in c.args.text.now) c.in-Some.count (sym c.number_of.ensures ∙ c.in-Some.is)
    ∙ not_begun st c.in-Some.count why)
