use Rattle.std.proofs.Common.{◌++◌, [], ◌∷◌, ℕ, List, ap, sym, ◌∙◌, arith}
use Rattle.std.proofs.lemmas.List.FromFn.{map-range_with_len_more}
use Rattle.rt_value.specs.declared.value.Value.{Value}
use Rattle.rt_private.specs.Asked.{use_of}
use Rattle.rt_private.specs.Rights.{value_asked}
use Rattle.rt_private.proofs.row.values.Goals as goal

pub loop-column-preserved : goal.loop-column-preserved
loop-column-preserved c =
    let value : ℕ → Value = value_asked c.args.messages.now c.args.topic.now (use_of c.args.asked) in
    let i = c.loop-column.column in
    c.in_ok-push.ensures.items
    ∙ ap (λ (v : Value). c.loop-column.values.items ++ v ∷ []) c.in_ok-value.ensures
    ∙ ap (λ (vs : List Value). vs ++ value i ∷ []) c.loop-column.invariant
    ∙ sym (map-range_with_len_more value 0 i i (omega arith))
