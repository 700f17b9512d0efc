use Rattle.std.proofs.Common.{sym, ap, refl, ◌∙◌, subst}
use Rattle.rt_json.specs.declared.tree.Json.{Json}
use Rattle.rt_json.specs.declared.tree.Json.TheVariants as j
use Rattle.rt_form.specs.Script.{HasKeyName}
use Rattle.rt_form.proofs.Equal.{items_twice, one_head, two_twice, untrue}
use Rattle.rt_form.proofs.insert.is_key.Goals as goal

pub returns-in-Some : goal.returns-in-Some
returns-in-Some c =
    let P : Json → Type 0 = λ n. HasKeyName c.args.tree.now n in (
      (λ t. subst P (c.is_text.ensures.0 t ∙ ap j.Text c.get.ensures.bytes) c.in-Some.ensures),
      (λ h. c.is_text.ensures.1 ((two_twice _ _ _ _ _ _ _ refl
          (one_head (items_twice _ _ _ c.in-Some.ensures.is h.is))).0 ∙ ap j.Text (sym c.get.ensures.bytes))),
    )

pub returns-in-None : goal.returns-in-None
returns-in-None c = ((λ t. untrue t), (λ h. absurd (c.in-None.ensures _ h)))
