-- What is shown where nothing was cut.
use Rattle.std.specs.Prelude.{◌≡◌, List, []}
use Rattle.rt_entry.specs.declared.answer.Item.{Item}
use Rattle.rt_entry.specs.Machine.{shown}

-- without a cut, all that is due is shown
abbrev pub UncutIsDue : Type 0
UncutIsDue = (items : List Item) → shown items [] ≡ items
