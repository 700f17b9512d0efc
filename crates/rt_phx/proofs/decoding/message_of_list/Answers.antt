use Rattle.std.proofs.Common.{Option, ap, sym, ◌∙◌}
use Rattle.rt_value.specs.Choice.{◌>>=◌}
use Rattle.rt_phx.specs.declared.parts.Parts.{Parts}
use Rattle.rt_phx.specs.Parts.{message_of_parts}
use Rattle.rt_phx.proofs.Reading.{list_result}
use Rattle.rt_phx.proofs.decoding.message_of_list.Goals as goal

pub returns-in_err-in_five-in-List : goal.returns-in_err-in_five-in-List
returns-in_err-in_five-in-List c =
    list_result _ _ _ _ _ c.in-List.is c.into_inner.ensures c.in_five.ensures
    (c.from_residual.ensures ∙ ap (λ (o : Option Parts). o >>= message_of_parts) (sym c.in_err-in_five-in-List.was))

pub returns-in-List : goal.returns-in-List
returns-in-List c =
    list_result _ _ _ _ _ c.in-List.is c.into_inner.ensures c.in_five.ensures
    (c.message.ensures ∙ ap (λ (o : Option Parts). o >>= message_of_parts) (sym c.in_ok-in_five-in-List.was))
