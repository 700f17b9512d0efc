use Rattle.std.proofs.Common.{ap, sym, ◌∙◌, ◌∷◌, arith, length, ◌<◌}
use Rattle.std.specs.Option.{option_copied}
use Rattle.rt_value.specs.Rows.{rows_from}
use Rattle.rt_value.proofs.Walks.{from_next}
use Rattle.rt_value.proofs.db.WalkIterator.next.Goals as goal

pub returns-clause-steps : goal.returns-clause-steps
returns-clause-steps g c =
    let w = c.self.inside in
    let rows = g.D.Db.rows w.db.now w.table in
    let row = c.in_ok-row.row.now in
    sym c.self.view_is
    ∙ ap (λ o. rows_from (option_copied o) rows) c.in_ok-row.was
    ∙ ap (λ ys. row ∷ ys) (from_next row.key rows (g.met.D.Db.rising w.db.now w.table) ∙ ap (λ o. rows_from o rows) (sym c.after-self-inside.ensures))

pub returns-clause-goes : goal.returns-clause-goes
returns-clause-goes g c =
    let w = c.self.inside in
    let rows = g.D.Db.rows w.db.now w.table in
    let shorter : length (rows_from (option_copied c.after-self-inside.result) rows) < length c.args.self.now =
    omega (arith, ap length (returns-clause-steps g c)) in
    record { on = λ _. (tt, tt, shorter); keeps = tt; rests = λ _. tt }
