use Rattle.std.proofs.Common.{◌≡◌, drop}
use Rattle.std.specs.List.{list_any}
use Rattle.std.specs.Str.{bytes_eq}
use Rattle.rt_bind.specs.Apart.{column_names}
use Rattle.rt_bind.proofs.apart.has_column.Given as goal

abbrev pub invariant-loop-column : goal.invariant-loop-column
invariant-loop-column l =
    list_any (bytes_eq l.name) (column_names (drop l.column-index l.columns))
    ≡ list_any (bytes_eq l.name) (column_names l.columns)
