use Rattle.std.proofs.Common.{ap, sym, ◌∙◌, subst, List}
use Rattle.std.specs.Prelude.{map, IfOk}
use Rattle.std.proofs.Common.{◌≡◌}
use Rattle.rt_json.specs.declared.tree.named.Member.{Member}
use Rattle.rt_json.specs.Lookup.{members_of}
use Rattle.rt_json.proofs.Lookups.{object_members}
use Rattle.rt_token.specs.Claims.{claim_of_member, last_of_each}
use Rattle.rt_token.proofs.claims.members_in.Goals as goal

pub returns-in-Object : goal.returns-in-Object
returns-in-Object c =
    let is = ap members_of c.in-Object.is ∙ object_members c.in-Object.members ∙ sym c.get.ensures in
    subst (λ (ms : List Member). IfOk c.claims_in.result (λ claims. claims ≡ map claim_of_member (last_of_each ms))) (sym is) c.claims_in.ensures
