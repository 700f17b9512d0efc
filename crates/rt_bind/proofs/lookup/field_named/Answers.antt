use Rattle.std.proofs.Common.{sym, ◌∙◌}
use Rattle.rt_bind.proofs.Names.{field_at}
use Rattle.rt_bind.proofs.lookup.field_named.Goals as goal

pub returns-then-eq : goal.returns-then-eq
returns-then-eq c =
    sym (field_at c.args.name.now c.args.fields.now c.args.at c.in-Some.field.now c.requires
    c.in-Some.ensures.lookup.3.0 c.in-Some.ensures.lookup.1 (sym c.eq.ensures ∙ c.if-eq.true))
