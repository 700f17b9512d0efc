-- How the tokens of a text are answered. Want of memory tells nothing of the text.
use Rattle.std.specs.Prelude.{ℕ, List, ⊤}
use Rattle.rt_sql.specs.declared.fault.SqlFault.{SqlFault}
use Rattle.rt_sql.specs.declared.fault.SqlFault.TheVariants.{BadToken, NoMemory}
use Rattle.rt_sql.specs.Cut.{IsUncut}

-- the place that a fault names
abbrev pub NamesUncut : List ℕ → SqlFault → Type 0
NamesUncut text (BadToken at) = IsUncut text at
NamesUncut text NoMemory = ⊤
