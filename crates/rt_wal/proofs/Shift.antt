-- Moving a date and time of day by an offset.
use Rattle.std.proofs.Common.{◌≡◌, ℤ, pos, neg_ℤ, ◌-ℤ◌, ◌*ℤ◌, ◌+ℤ◌, arith}
use Rattle.std.proofs.lemmas.Int.{ints}
use Rattle.jiff.specs.Types.{DateTime}
use Rattle.jiff.specs.Words.{civil_nanos, IsCivilNanos, nanos_of_seconds}
use Rattle.jiff.proofs.Family.{civil_nanos_injective, epoch_day_injective}

pub can_shift : (n m d off : ℤ) → d ≡ off *ℤ pos 1_000_000_000 → m ≡ n -ℤ nanos_of_seconds off → IsCivilNanos m → IsCivilNanos (n +ℤ neg_ℤ d)
can_shift n m d off e f h = (omega (arith, ints), omega (arith, ints))

pub same_year : (a b : DateTime) → civil_nanos a ≡ civil_nanos b → a.date.year ≡ b.date.year
same_year a b e = (epoch_day_injective a.date b.date (civil_nanos_injective a b e).0).0
