use Rattle.std.proofs.Common.{ℕ, List, ap, sym, ◌∙◌}
use Rattle.rt_change.specs.Binding.{is_empty}
use Rattle.rt_bind.proofs.Bounds.{is_change, has_none}
use Rattle.rt_bind.proofs.binding.bound_from.Goals as goal

pub returns : goal.returns
returns c =
    is_change c.args.number c.args.table.now c.args.given c.args.verb c.in-Ok.parts _ _ _ _
    (sym c.in-Ok.is ∙ c.in_ok-parts.ensures)
    (c.is_empty-has_key.ensures ∙ has_none c.get.result.now ∙ ap (λ (l : List (List ℕ)). is_empty l) c.get.ensures)
    c.in_ok-moment.ensures c.in_ok-new_trees.ensures.0 c.in_ok-new_trees.ensures.1
