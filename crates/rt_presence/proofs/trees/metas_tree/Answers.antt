use Rattle.std.proofs.Common.{ℕ, List, ap, map, reverse, ◌∙◌}
use Rattle.rt_json.specs.declared.tree.Json.{Json}
use Rattle.rt_json.specs.declared.tree.named.Member.{Member}
use Rattle.rt_json.specs.declared.tree.Json.TheVariants as j
use Rattle.rt_presence.specs.Trees.{metas_member}
use Rattle.rt_presence.proofs.Groups.{members_are}
use Rattle.rt_presence.proofs.trees.metas_tree.Goals as goal

pub returns : goal.returns
returns c =
    ap (λ (ms : List Member). j.Object ms)
    (c.new.ensures ∙ c.in_ok-members.ensures
    ∙ ap (map (λ (g : List ℕ × List Json). metas_member g.0 (reverse g.1))) c.in_ok-groups.ensures
    ∙ members_are c.args.held.items)
