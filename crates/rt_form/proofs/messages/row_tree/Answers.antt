use Rattle.std.proofs.Common.{◌∙◌, ap, arith}
use Rattle.rt_json.specs.declared.tree.Json.TheVariants as j
use Rattle.rt_form.proofs.Rows.{next_member, all_members}
use Rattle.rt_form.proofs.messages.row_tree.Goals as goal

pub loop-i-preserved : goal.loop-i-preserved
loop-i-preserved c =
    next_member c.args.columns.now c.args.values.now c.loop-i.i _ _ c.index-columns-i.result _ c.index-values-i.result
    c.in_ok-value.value (omega arith) (omega arith) c.loop-i.invariant c.index-values-i.is c.get.ensures.bytes
    c.in_ok-value.ensures c.in_ok-put.ensures

pub returns : goal.returns
returns c = c.object_tree.ensures ∙ ap j.Object (c.loop-i.invariant
    ∙ all_members c.args.columns.now c.args.values.now c.loop-i.i (omega arith))
