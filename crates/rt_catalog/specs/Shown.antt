-- How a refusal of a catalogue is shown, and how much stands in one.
use Rattle.std.specs.Prelude.{ℕ, ◌==◌, ◌+◌, List, ◌++◌, codes, count_by, take, reverse, length, true, false, [], ◌∷◌}
use Rattle.std.specs.Fmt.{decimal}
use Rattle.rt_catalog.specs.declared.fault.Why.{Why}
use Rattle.rt_catalog.specs.declared.fault.Why.TheVariants as why
use Rattle.rt_catalog.specs.Lists.{Lists}

abbrev pub why_text : Why → List ℕ
why_text why.Syntax = codes "syntax"
why_text why.Twice = codes "twice"
why_text why.UnknownName = codes "unknown name"
why_text why.OpaqueKey = codes "opaque key"
why_text why.BadType = codes "type"
why_text why.Ring = codes "ring"
why_text why.HiddenColumn = codes "hidden column"
why_text (why.Limit n) = codes "limit " ++ decimal n

-- lines end at LF, and both are counted from 1
abbrev pub line_of : List ℕ → ℕ → ℕ
line_of text at = count_by (λ b. b == 10) (take at text) + 1

-- how many bytes stand behind the last LF
abbrev pub bytes_in_line : List ℕ → ℕ
bytes_in_line [] = 0
bytes_in_line (b ∷ bytes) = elim (b == 10) [ true ↦ 0 | false ↦ bytes_in_line bytes + 1 ]

abbrev pub column_of : List ℕ → ℕ → ℕ
column_of text at = bytes_in_line (reverse (take at text)) + 1

-- how much is written, before anything is inherited
abbrev pub check_line : Lists → List ℕ
check_line l =
    codes "tables " ++ decimal (length l.tables) ++ codes " roles " ++ decimal (length l.roles)
    ++ codes " grants " ++ decimal (length l.grants) ++ codes " policies " ++ decimal (length l.policies)
