use Rattle.std.proofs.Common.{◌≡◌, true, false, map, ap, sym, ◌∙◌, ◌∷◌, arith, length, ◌<◌}
use Rattle.std.specs.Option.{option_copied}
use Rattle.rt_value.specs.Lent.{key_of, value_of}
use Rattle.rt_value.specs.Prefix.{is_from, is_with, rows_beginning, stands_from}
use Rattle.rt_value.specs.Rows.{rows_from}
use Rattle.rt_value.proofs.Prefixes.{run_ends, run_steps, stands_next}
use Rattle.rt_value.proofs.run.RunIterator.next.Goals as goal

pub returns-then-not-begin_key-clause-steps : goal.returns-then-not-begin_key-clause-steps
returns-then-not-begin_key-clause-steps g c =
    let r = c.self.inside in
    let rows = g.D.Db.rows r.db.now r.table in
    let values = map value_of r.values.now in
    let row = c.in_ok-row.row.now in
    let onward : is_from (key_of r.values.now) row ≡ true = ap (λ o. stands_from (key_of r.values.now) (option_copied o)) (sym c.in_ok-row.was) ∙ c.self.invariant in
    let apart : is_with values row ≡ false = cc in
    let none = sym c.self.view_is ∙ ap (λ o. rows_beginning values (rows_from (option_copied o) rows)) c.in_ok-row.was ∙ run_ends values row rows onward apart in
    (none, none)

pub invariant_of-self : goal.invariant_of-self
invariant_of-self g c =
    let r = c.self.inside in
    let rows = g.D.Db.rows r.db.now r.table in
    let row = c.in_ok-row.row.now in
    let onward : is_from (key_of r.values.now) row ≡ true = ap (λ o. stands_from (key_of r.values.now) (option_copied o)) (sym c.in_ok-row.was) ∙ c.self.invariant in
    ap (stands_from (key_of r.values.now)) c.after-self-inside.ensures ∙ stands_next (key_of r.values.now) row rows onward

pub returns-clause-steps : goal.returns-clause-steps
returns-clause-steps g c =
    let r = c.self.inside in
    let rows = g.D.Db.rows r.db.now r.table in
    let values = map value_of r.values.now in
    let row = c.in_ok-row.row.now in
    let here : is_with values row ≡ true = cc in
    sym c.self.view_is
    ∙ ap (λ o. rows_beginning values (rows_from (option_copied o) rows)) c.in_ok-row.was
    ∙ run_steps values row rows (g.met.D.Db.rising r.db.now r.table) here
    ∙ ap (λ o. row ∷ rows_beginning values (rows_from o rows)) (sym c.after-self-inside.ensures)

pub returns-clause-goes : goal.returns-clause-goes
returns-clause-goes g c =
    let r = c.self.inside in
    let rows = g.D.Db.rows r.db.now r.table in
    let values = map value_of r.values.now in
    let shorter : length (rows_beginning values (rows_from (option_copied c.after-self-inside.result) rows)) < length c.args.self.now =
    omega (arith, ap length (returns-clause-steps g c)) in
    record { on = λ _. (tt, tt, shorter); keeps = tt; rests = λ _. tt }
