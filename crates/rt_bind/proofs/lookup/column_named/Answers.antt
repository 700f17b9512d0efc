use Rattle.std.proofs.Common.{sym, ◌∙◌}
use Rattle.rt_bind.proofs.Names.{column_at}
use Rattle.rt_bind.proofs.lookup.column_named.Goals as goal

pub returns-then-eq : goal.returns-then-eq
returns-then-eq c =
    sym (column_at c.args.name.now c.args.table.now.columns c.get.result.now c.args.at c.in-Some.column.now
    c.get.ensures c.requires c.in-Some.ensures.lookup.3.0 c.in-Some.ensures.lookup.1 (sym c.eq.ensures ∙ c.if-eq.true))
