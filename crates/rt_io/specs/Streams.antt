-- What one call of a source or a sink does, whatever stands behind it.
use Rattle.std.specs.Prelude.{◌≡◌, ℕ, ◌+◌, ◌-◌, ◌^◌, ◌<◌, ◌≤◌, min, List, [], ◌++◌, length, take, drop, Option, Some}
use Rattle.std.specs.Prelude.{None}
use Rattle.rt_io.specs.declared.source.Read.{Read}
use Rattle.rt_io.specs.declared.source.Read.TheVariants as r
use Rattle.rt_io.specs.declared.sink.Wrote.{Wrote}
use Rattle.rt_io.specs.declared.sink.Wrote.TheVariants as w

-- a count rose, or stands at the greatest number of its type
abbrev pub Rose : ℕ → ℕ → Type 0
Rose before now = min (before + 1) (2 ^ 64 - 1) ≤ now

-- The first n bytes that were left stand at the beginning of the buffer. None of them, for a buffer with room, is the
-- end.
abbrev pub Takes : Option (List ℕ) → Option (List ℕ) → ℕ → List ℕ → Type 0
Takes (Some left) new n buf = (n ≤ length left) × (take n buf ≡ take n left) × (new ≡ Some (drop n left))
    × (n ≡ 0 → 0 < length buf → left ≡ [])
Takes None new n buf = Unit {0}

abbrev pub ReadTakes : Option (List ℕ) → Option (List ℕ) → Read → List ℕ → Type 0
ReadTakes old new (r.Bytes n) buf = (n ≤ length buf) × Takes old new n buf
ReadTakes old new r.Failed buf = new ≡ old

-- an answer with bytes leaves the count of faults, and a fault is counted
abbrev pub ReadCause : ℕ → ℕ → Read → Type 0
ReadCause before now (r.Bytes n) = now ≡ before
ReadCause before now r.Failed = (before ≤ now) × Rose before now

-- the bytes stand behind those that were held
abbrev pub Puts : Option (List ℕ) → Option (List ℕ) → List ℕ → Type 0
Puts (Some held) new bytes = new ≡ Some (held ++ bytes)
Puts None new bytes = Unit {0}

abbrev pub WritePuts : Option (List ℕ) → Option (List ℕ) → Wrote → List ℕ → Type 0
WritePuts old new (w.Bytes n) piece = (n ≤ length piece) × (0 < length piece → 0 < n) × Puts old new (take n piece)
WritePuts old new w.Failed piece = new ≡ old

-- as of a read
abbrev pub WriteCause : ℕ → ℕ → Wrote → Type 0
WriteCause before now (w.Bytes n) = now ≡ before
WriteCause before now w.Failed = (before ≤ now) × Rose before now
