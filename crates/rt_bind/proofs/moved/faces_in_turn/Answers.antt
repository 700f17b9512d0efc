use Rattle.std.proofs.Common.{List, Option, ap, ◌∙◌}
use Rattle.rt_json.specs.declared.tree.Json.{Json}
use Rattle.rt_bind.specs.Straight.{faces_with}
use Rattle.rt_bind.proofs.Straight.{turn_none, turn_next}
use Rattle.rt_bind.proofs.moved.faces_in_turn.Goals as goal

pub loop-field-init : goal.loop-field-init
loop-field-init c = c.in_ok-faces.ensures.items ∙ turn_none c.args.columns.now

pub loop-field-preserved : goal.loop-field-preserved
loop-field-preserved c =
    c.in_ok-push_face.ensures
    ∙ ap (λ (l : List (Option Json)). faces_with c.args.columns.now l c.in-Some.field) c.loop-field.invariant
    ∙ turn_next c.args.columns.now c.loop-field.yielded c.in-Some.field
