use Rattle.std.proofs.Common.{◌&&◌, ◌<◌, ◌^◌, sym, arith}
use Rattle.std.specs.Str.{bytes_eq}
use Rattle.rt_catalog.specs.declared.catalog.Column.{Column}
use Rattle.rt_catalog.proofs.Found.{number_within}
use Rattle.rt_private.specs.Rights.{is_text, text_column}
use Rattle.rt_private.proofs.Finds.{fits_is}
use Rattle.rt_private.proofs.finding.text_column.Goals as goal

pub returns-clause-exact : goal.returns-clause-exact
returns-clause-exact c few =
    let n = c.in_ok-text_place.field-0 in
    let within = number_within (λ (e : Column). bytes_eq e.name c.args.name.now && is_text e.kind)
    c.args.table.now.columns n (sym c.in_ok-text_place.ensures) in
    fits_is c.number.result n (text_column c.args.table.now c.args.name.now) c.number.ensures
    (sym c.in_ok-text_place.ensures) (let less : n < 2 ^ 32 = omega (arith, within, few) in less)
