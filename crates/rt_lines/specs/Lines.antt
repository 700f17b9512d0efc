-- The lines of a script's text.
use Rattle.std.specs.Prelude.{ℕ, ◌==◌, Bool, true, if◌then◌else◌, List, [], ◌∷◌, ◌++◌}
use Rattle.rt_wal.specs.Records.{without_last}

-- empty lines and lines that begin with `#` are passed over
abbrev pub is_passed_over : List ℕ → Bool
is_passed_over [] = true
is_passed_over (b ∷ line) = b == 35

-- what stands behind the last LF is a line where it isn't empty
abbrev pub last_line : List ℕ → List (List ℕ)
last_line [] = []
last_line (b ∷ line) = (b ∷ line) ∷ []

-- Lines end at LF, the last LF may be missing, and a CR before an LF is dropped. The first list is what was gone over of
-- the line.
abbrev pub lines_from : List ℕ → List ℕ → List (List ℕ)
lines_from line [] = last_line line
lines_from line (b ∷ bytes) =
    (if b == 10 then without_last 13 line ∷ lines_from [] bytes else lines_from (line ++ b ∷ []) bytes)

abbrev pub lines_of : List ℕ → List (List ℕ)
lines_of bytes = lines_from [] bytes
