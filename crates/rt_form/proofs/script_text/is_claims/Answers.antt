use Rattle.std.proofs.Common.{◌∷◌, [], ap, ◌∙◌}
use Rattle.rt_json.specs.declared.tree.Json.TheVariants as j
use Rattle.rt_json.specs.Trees.{field}
use Rattle.rt_form.proofs.Equal.{first_twice, members_twice}
use Rattle.std.proofs.Common.{codes}
use Rattle.rt_form.proofs.script_text.is_claims.Goals as goal

pub returns-in-Some : goal.returns-in-Some
returns-in-Some c = (
  (λ t. c.in-Some.ensures ∙ ap (λ v. j.Object (field (codes "role") v ∷ [])) (c.is_text.ensures.0 t)),
  (λ h. c.is_text.ensures.1 (first_twice _ _ _ _ _ _ (members_twice _ _ _ c.in-Some.ensures c.in-Some.ensures)
      (members_twice _ _ _ c.in-Some.ensures h)).0),
)
