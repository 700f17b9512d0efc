use Rattle.std.proofs.Common.{◌≡◌, Option, None, Some, subst, sym}
use Rattle.std.specs.Prelude.{MatchOption}
use Rattle.rt_json.specs.declared.tree.Json.{Json}
use Rattle.rt_json.proofs.Lookups.{member_is}
use Rattle.rt_json.proofs.lookup.member.Goals as goal

pub returns-in-Object : goal.returns-in-Object
returns-in-Object c =
    let is = member_is c.args.tree.now c.args.name.now c.in-Object.members c.get.result.now c.in-Object.is c.get.ensures in
    subst (λ (o : Option Json). MatchOption c.last_named.result (o ≡ None) (λ found. o ≡ Some found.now)) (sym is) c.last_named.ensures
