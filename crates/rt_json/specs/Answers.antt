-- What reading answers.
use Rattle.std.specs.Prelude.{◌≡◌, ℕ, ◌⊎◌, List, Option, Some, None, Result, Ok, Err}
use Rattle.rt_json.specs.Grammar.{IsJson, IsBadAt, IsTooDeepAt}
use Rattle.rt_json.specs.declared.tree.Json.{Json}
use Rattle.rt_json.specs.declared.fault.JsonFault.{JsonFault}
use Rattle.rt_json.specs.declared.fault.JsonFault.TheVariants as fault

-- the fault is that of the bytes
abbrev pub IsFaultOf : List ℕ → JsonFault → Type 0
IsFaultOf bytes (fault.Bad at) = IsBadAt bytes at
IsFaultOf bytes (fault.TooDeep at) = IsTooDeepAt bytes at
IsFaultOf bytes fault.NoMemory = Unit {0}

-- it is this tree, or this fault, unless memory ran out
abbrev pub IsTree : Result Json JsonFault → Json → Type 0
IsTree (Ok found) tree = found ≡ tree
IsTree (Err fault.NoMemory) tree = Unit {0}
IsTree (Err _) tree = ⊥

abbrev pub IsBad : Result Json JsonFault → ℕ → Type 0
IsBad (Err (fault.Bad place)) at = place ≡ at
IsBad (Err fault.NoMemory) at = Unit {0}
IsBad _ at = ⊥

abbrev pub IsTooDeep : Result Json JsonFault → ℕ → Type 0
IsTooDeep (Err (fault.TooDeep place)) at = place ≡ at
IsTooDeep (Err fault.NoMemory) at = Unit {0}
IsTooDeep _ at = ⊥

-- it is the tree that is computed, and there is none behind a fault
abbrev pub IsComputed : Option Json → Result Json JsonFault → Type 0
IsComputed computed (Ok tree) = computed ≡ Some tree
IsComputed computed (Err fault.NoMemory) = Unit {0}
IsComputed computed (Err _) = computed ≡ None

-- each text is a tree or has a fault
abbrev pub HasAnswer : List ℕ → Type 0
HasAnswer bytes = ((tree : Json) × IsJson bytes tree) ⊎ (((at : ℕ) × IsBadAt bytes at) ⊎ ((at : ℕ) × IsTooDeepAt bytes at))
