use Rattle.std.proofs.Common.{◌≡◌, ◌++◌, List, ap, sym, subst, ◌∙◌, OnOk, filter}
use Rattle.rt_json.specs.declared.tree.named.Member.{Member}
use Rattle.rt_json.specs.Lookup.{members_of}
use Rattle.rt_presence.specs.Trees.{is_kept}
use Rattle.rt_json.proofs.Lookups.{object_members}
use Rattle.rt_presence.proofs.trees.put_tree.Goals as goal

pub returns-in-Object : goal.returns-in-Object
returns-in-Object c =
    let same = c.get.ensures ∙ sym (ap members_of c.in-Object.is ∙ object_members c.in-Object.members) in
    subst (λ (ms : List Member). OnOk c.put_members.result (c.put_members.new.out.items ≡ c.args.out.now.items
    ++ filter is_kept ms)) same c.put_members.ensures
