use Rattle.std.proofs.Common.{ℕ, Bool, cond, List, Option, None, ap, ◌∙◌}
use Rattle.std.specs.HashMap.{get_by_text}
use Rattle.std.proofs.lemmas.Map.Text.{hash_map_updates_text}
use Rattle.rt_names.proofs.numbers.taken.Goals as goal

pub returns-in-Some-clause-others : goal.returns-in-Some-clause-others
returns-in-Some-clause-others c = λ s apart.
    let old = c.args.schemas.now in
    let removed = hash_map_updates_text c.args.schema.now old c.remove.new.self None c.in-Some.ensures.updates s in
    removed ∙ ap (λ (b : Bool). cond b None (get_by_text old s)) apart
