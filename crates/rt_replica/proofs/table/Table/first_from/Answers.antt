use Rattle.std.proofs.Common.{List, slice_get, sym, ap, ◌∙◌}
use Rattle.rt_value.specs.declared.row.Key.{Key}
use Rattle.rt_value.specs.declared.row.Row.{Row}
use Rattle.rt_value.specs.Lent.{key_of}
use Rattle.rt_value.specs.Prefix.{rows_onward}
use Rattle.rt_replica.specs.Keyed.{rows_of}
use Rattle.rt_replica.proofs.Keyed.{onward-rows}
use Rattle.rt_replica.proofs.table.Table.first_from.Goals as goal

pub returns-in-Some : goal.returns-in-Some
returns-in-Some c =
    let key = key_of c.args.values.now in
    let entries = sym c.entries_from.ensures ∙ c.in-Some.ensures.steps in
    sym (ap (λ (l : List Row). slice_get (rows_onward key l) 0) (sym c.self.view_is)
    ∙ ap (λ (l : List Row). slice_get l 0) (onward-rows key c.self.inside.rows c.self.invariant.keyed)
    ∙ ap (λ (l : List (Key × Row)). slice_get (rows_of l) 0) entries)

pub returns-in-None : goal.returns-in-None
returns-in-None c =
    let key = key_of c.args.values.now in
    let entries = sym c.entries_from.ensures ∙ c.in-None.ensures.steps.0 in
    sym (ap (λ (l : List Row). slice_get (rows_onward key l) 0) (sym c.self.view_is)
    ∙ ap (λ (l : List Row). slice_get l 0) (onward-rows key c.self.inside.rows c.self.invariant.keyed)
    ∙ ap (λ (l : List (Key × Row)). slice_get (rows_of l) 0) entries)
