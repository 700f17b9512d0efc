use Rattle.std.proofs.Common.{◌≡◌, drop}
use Rattle.std.specs.List.{list_any, list_all, filter_map}
use Rattle.std.specs.Str.{bytes_eq}
use Rattle.rt_change.specs.Binding.{name_at}
use Rattle.rt_bind.proofs.keys.has_key_names.Given as goal

abbrev pub invariant-loop-column : goal.invariant-loop-column
invariant-loop-column l =
    list_all (λ n. list_any (bytes_eq n) l.names) (filter_map (name_at l.table) (drop l.column-index l.column-items))
    ≡ list_all (λ n. list_any (bytes_eq n) l.names) (filter_map (name_at l.table) l.column-items)
