use Rattle.std.proofs.Common.{◌≡◌, ◌++◌, map, drop}
use Rattle.std.specs.Prelude.{option_map}
use Rattle.rt_policy.specs.declared.expr.Expr.{Expr}
use Rattle.rt_policy.specs.InnerTable.{reading_at}
use Rattle.rt_policy.specs.Resolution.{meaning_in}
use Rattle.rt_policy.proofs.resolution.+meaning.Given as goal

-- the meanings so far, with those of the parts that are left
abbrev pub invariant-meanings-loop-part : goal.invariant-meanings-loop-part
invariant-meanings-loop-part l =
    let meaning = λ (e : Expr). meaning_in l.scope e (option_map reading_at l.at) in
    l.meanings.items ++ map meaning (drop l.part-index l.parts) ≡ map meaning l.parts
