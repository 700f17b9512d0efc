use Rattle.std.proofs.Common.{◌∷◌, [], ap, ◌∙◌}
use Rattle.rt_json.specs.declared.tree.Json.TheVariants as j
use Rattle.rt_json.specs.Trees.{field}
use Rattle.rt_form.proofs.Equal.{first_twice, members_twice}
use Rattle.std.proofs.Common.{codes}
use Rattle.rt_form.proofs.join.is_payload.Goals as goal

pub returns-in-Some : goal.returns-in-Some
returns-in-Some c = (
  (λ t. c.in-Some.ensures ∙ ap (λ v. j.Object (field (codes "config") v ∷ [])) (c.is_config.ensures.0 t)),
  (λ h. c.is_config.ensures.1 (first_twice _ _ _ _ _ _ (members_twice _ _ _ c.in-Some.ensures c.in-Some.ensures)
      (members_twice _ _ _ c.in-Some.ensures h)).0),
)
