use Rattle.std.proofs.Common.{◌≡◌, drop}
use Rattle.std.specs.List.{list_any, filter_map}
use Rattle.std.specs.Str.{bytes_eq}
use Rattle.rt_change.specs.Binding.{name_at}
use Rattle.rt_bind.proofs.keys.is_key_name.Given as goal

abbrev pub invariant-loop-column : goal.invariant-loop-column
invariant-loop-column l =
    list_any (bytes_eq l.name) (filter_map (name_at l.table) (drop l.column-index l.column-items))
    ≡ list_any (bytes_eq l.name) (filter_map (name_at l.table) l.column-items)
