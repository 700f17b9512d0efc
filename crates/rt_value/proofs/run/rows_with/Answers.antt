use Rattle.std.proofs.Common.{map, ap, sym, ◌∙◌}
use Rattle.rt_value.specs.Lent.{key_of, value_of}
use Rattle.rt_value.specs.Prefix.{rows_beginning, stands_from}
use Rattle.rt_value.specs.Rows.{rows_from}
use Rattle.rt_value.proofs.Prefixes.{only_onward, onward_walk, stands_first}
use Rattle.rt_value.proofs.run.rows_with.Goals as goal

pub invariant_of-result : goal.invariant_of-result
invariant_of-result g c =
    let rows = g.D.Db.rows c.args.db.now c.args.table in
    ap (stands_from (key_of c.args.values.now)) c.first_from.ensures ∙ stands_first (key_of c.args.values.now) rows

pub returns : goal.returns
returns g c =
    let rows = g.D.Db.rows c.args.db.now c.args.table in
    let values = map value_of c.args.values.now in
    let rising = g.met.D.Db.rising c.args.db.now c.args.table in
    ap (λ o. rows_beginning values (rows_from o rows)) c.first_from.ensures
    ∙ ap (rows_beginning values) (sym (onward_walk (key_of c.args.values.now) rows rising))
    ∙ only_onward values rows
