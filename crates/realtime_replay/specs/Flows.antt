-- What sources and sinks did in a call.
use Rattle.std.specs.Prelude.{◌≡◌, ◌⊎◌, ℕ, ◌<◌, List, length, Option, IfSome}
use Rattle.rt_io.specs.Streams.{Rose}
use Rattle.rt_io.specs.Whole.{ReadsAll}
use Rattle.realtime_replay.specs.declared.status.Status.{Status}
use Rattle.realtime_replay.specs.declared.status.Status.TheVariants as s

-- A source or a sink in a call: what it had left, or had taken, at the call and at the return, and how often it had
-- failed.
pub record Flow : Type 0 where
  pub before : Option (List ℕ)
  pub after : Option (List ℕ)
  pub failed : ℕ
  pub failed_after : ℕ

abbrev pub flow : Option (List ℕ) → Option (List ℕ) → ℕ → ℕ → Flow
flow before after failed failed_after =
    record { before = before; after = after; failed = failed; failed_after = failed_after }

abbrev pub HasFailed : Flow → Type 0
HasFailed f = Rose f.failed f.failed_after

abbrev pub IsUntouched : Flow → Type 0
IsUntouched f = f.after ≡ f.before

-- the most bytes of a source
abbrev pub most_bytes : ℕ
most_bytes = 67108864

abbrev pub IsTooLong : Flow → Type 0
IsTooLong f = IfSome f.before (λ bytes. most_bytes < length bytes)

-- the text is all that the source had left, and it was read to its end
abbrev pub Gave : Flow → List ℕ → Type 0
Gave f text = ReadsAll f.before f.after most_bytes text

-- the status is this one, or memory ran out
abbrev pub IsStatus : Status → Status → Type 0
IsStatus status result = (result ≡ status) ⊎ (result ≡ s.NoMemory)
