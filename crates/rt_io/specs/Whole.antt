-- What reading all and writing all do.
use Rattle.std.specs.Prelude.{◌≡◌, ℕ, ◌<◌, ◌≤◌, List, [], ◌++◌, length, take, Option, Some, None, IfSome}
use Rattle.rt_io.specs.Streams.{Rose, Puts}
use Rattle.rt_io.specs.declared.whole.ReadAllFault.{ReadAllFault}
use Rattle.rt_io.specs.declared.whole.ReadAllFault.TheVariants.{NoMemory, ReadFault, TooLong}

-- all bytes up to the end, no more than the limit
abbrev pub ReadsAll : Option (List ℕ) → Option (List ℕ) → ℕ → List ℕ → Type 0
ReadsAll old new limit bytes = (length bytes ≤ limit) × IfSome old (λ left. (bytes ≡ left) × (new ≡ Some []))

-- some first bytes of what was left were taken
abbrev pub TakesFront : Option (List ℕ) → Option (List ℕ) → Type 0
TakesFront (Some left) new = (front : List ℕ) × (rest : List ℕ) × (left ≡ front ++ rest) × (new ≡ Some rest)
TakesFront None new = Unit {0}

-- when each fault comes, and that the count of faults is what it was where the source didn't fail
abbrev pub ReadAllCause : Option (List ℕ) → ℕ → ℕ → ℕ → ReadAllFault → Type 0
ReadAllCause old before now limit NoMemory = now ≡ before
ReadAllCause old before now limit ReadFault = Rose before now
ReadAllCause old before now limit (TooLong most) = (most ≡ limit) × IfSome old (λ left. limit < length left)
    × (now ≡ before)

-- some first bytes were put
abbrev pub PutsFront : Option (List ℕ) → Option (List ℕ) → List ℕ → Type 0
PutsFront old new bytes = (n : ℕ) × (n ≤ length bytes) × Puts old new (take n bytes)
