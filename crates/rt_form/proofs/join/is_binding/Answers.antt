use Rattle.std.proofs.Common.{◌++◌, length, ◌==◌, ap, ◌∙◌}
use Rattle.rt_json.specs.declared.tree.Json.TheVariants as j
use Rattle.rt_form.specs.Messages.{wanted_binding}
use Rattle.rt_form.proofs.Equal.{behind_three, empty_of, members_twice}
use Rattle.rt_form.proofs.join.is_binding.Goals as goal

pub returns-in-Some : goal.returns-in-Some
returns-in-Some c = (
  (λ t. c.in-Some.ensures ∙ ap (λ r. j.Object (wanted_binding c.args.table.now ++ r))
      (empty_of _ _ c.is_empty.ensures t)),
  (λ h. c.is_empty.ensures ∙ ap (λ r. length r == 0) (behind_three (members_twice _ _ _ c.in-Some.ensures h))),
)
