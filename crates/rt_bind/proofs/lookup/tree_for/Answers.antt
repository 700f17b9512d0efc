use Rattle.rt_bind.proofs.Names.{from_first, from_second, from_none}
use Rattle.rt_bind.proofs.lookup.tree_for.Goals as goal

pub returns-in-Some : goal.returns-in-Some
returns-in-Some c =
    from_first c.args.first.now c.args.second.now c.args.column.now c.in-Some.field.now c.in-Some.ensures

pub returns-in-Some-field_named : goal.returns-in-Some-field_named
returns-in-Some-field_named c =
    from_second c.args.first.now c.args.second.now c.args.column.now c.in-Some-field_named.field.now
    c.in_default.ensures c.in-Some-field_named.ensures

pub returns-in-None : goal.returns-in-None
returns-in-None c =
    from_none c.args.first.now c.args.second.now c.args.column.now c.in_default.ensures c.in-None.ensures
