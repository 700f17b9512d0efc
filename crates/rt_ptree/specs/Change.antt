-- What a change makes of the entries of a map.
use Rattle.std.specs.Prelude.{List}
use Rattle.std.specs.Arc.{arc_value}
use Rattle.std.specs.BTreeMap.{insert_entry}
use Rattle.std.specs.declared.cmp.Ordering.{Ordering}
use Rattle.rt_ptree.specs.declared.change.Change.{Change}
use Rattle.rt_ptree.specs.declared.change.Change.TheVariants.{Put, Take}
use Rattle.rt_ptree.specs.Entries.{without_key}

-- the key at which it is made
abbrev pub change_key : {K V : Type 0} → Change K V → K
change_key (Put e) = arc_value e.now.key
change_key (Take k) = k.now

-- the entries with it made
abbrev pub changed : {K V : Type 0} → (K → K → Ordering) → Change K V → List (K × V) → List (K × V)
changed cmp (Put e) es = insert_entry cmp es (arc_value e.now.key) (arc_value e.now.value)
changed cmp (Take k) es = without_key cmp es k.now
