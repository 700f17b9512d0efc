use Rattle.std.proofs.Common.{ℕ, List, ◌∙◌, ap, sym, arith, Some}
use Rattle.rt_json.specs.declared.tree.named.Member.{Member}
use Rattle.std.specs.Str.{bytes_eq}
use Rattle.rt_json.proofs.Lookups.{last_at}
use Rattle.rt_json.proofs.lookup.last_named.Goals as goal

pub returns-then-eq : goal.returns-then-eq
returns-then-eq c =
    let name = c.args.name.now in
    let e = ap (λ (m : Member). bytes_eq m.name name) c.index-members-at.is ∙ ap (λ (xs : List ℕ). bytes_eq xs name) (sym c.get.ensures.bytes) ∙ sym c.eq.ensures ∙ c.if-eq.true in
    last_at name c.args.members.now c.loop-at.at _ c.index-members-at.result c.index-members-at-then-eq.result (omega arith) (omega arith) c.index-members-at.is c.index-members-at-then-eq.is c.loop-at.invariant.none e
    ∙ ap (λ (m : Member). Some m.value) c.index-members-at-then-eq.is
