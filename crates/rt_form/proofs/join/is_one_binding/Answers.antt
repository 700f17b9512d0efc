use Rattle.std.proofs.Common.{◌∷◌, [], ap, ◌∙◌}
use Rattle.rt_json.specs.declared.tree.Json.TheVariants as j
use Rattle.rt_form.proofs.Equal.{items_twice, one_head}
use Rattle.rt_form.proofs.join.is_one_binding.Goals as goal

pub returns-in-Some : goal.returns-in-Some
returns-in-Some c = (
  (λ t. c.in-Some.ensures ∙ ap (λ v. j.List (v ∷ [])) (c.is_binding.ensures.0 t)),
  (λ h. c.is_binding.ensures.1 (one_head (items_twice _ _ _ c.in-Some.ensures h))),
)
