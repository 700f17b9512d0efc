-- What calls answer, where memory may run out.
use Rattle.std.specs.Prelude.{◌≡◌, Option, Some, None, Result, Ok, Err}
use Rattle.rt_token.specs.declared.fault.TokenFault.{TokenFault}
use Rattle.rt_token.specs.declared.fault.TokenFault.TheVariants.{NoMemory, Shape}

-- the answer is that of the definition, unless memory ran out
abbrev pub IsAnswer : {A : Type 0} → Result A TokenFault → Result A TokenFault → Type 0
IsAnswer defined (Ok x) = defined ≡ Ok x
IsAnswer defined (Err NoMemory) = Unit {0}
IsAnswer defined (Err fault) = defined ≡ Err fault

-- the answer is the value that there is, and else `Shape`, unless memory ran out
abbrev pub IsValueOrShape : {A : Type 0} → Option A → Result A TokenFault → Type 0
IsValueOrShape value (Ok x) = value ≡ Some x
IsValueOrShape value (Err NoMemory) = Unit {0}
IsValueOrShape value (Err Shape) = value ≡ None
IsValueOrShape value (Err _) = ⊥
