-- The numbers of the statuses, and their lines on the error stream.
use Rattle.std.specs.Prelude.{◌⊎◌, ℕ, List, [], ◌++◌, codes}
use Rattle.std.specs.Fmt.{decimal}
use Rattle.rt_io.specs.Streams.{Puts}
use Rattle.rt_io.specs.Whole.{PutsFront}
use Rattle.realtime_replay.specs.Flows.{Flow, HasFailed}
use Rattle.realtime_replay.specs.declared.status.Status.{Status}
use Rattle.realtime_replay.specs.declared.status.Status.TheVariants as s

-- the program's exit status
abbrev pub number_of : Status → ℕ
number_of s.Ok = 0
number_of s.Usage = 2
number_of (s.Refused line) = 4
number_of s.ReadFault = 5
number_of s.WriteFault = 6
number_of s.NoMemory = 7
number_of s.TooLong = 8
number_of s.NotBuilt = 13

-- the line of a status on the error stream, none where the run ended well
abbrev pub line_of : Status → List ℕ
line_of s.Ok = []
line_of s.Usage =
    codes "usage: realtime-replay replay|audit CATALOGUE SCRIPT, check CATALOGUE, gen N, cluster SCRIPT\n"
line_of (s.Refused line) = codes "script: line " ++ decimal line ++ codes ": form\n"
line_of s.ReadFault = codes "read fault\n"
line_of s.WriteFault = codes "write fault\n"
line_of s.NoMemory = codes "out of memory\n"
line_of s.TooLong = codes "too long\n"
line_of s.NotBuilt = codes "not built\n"

-- the error stream was given the bytes, or it failed and was given some first of them
abbrev pub Said : Flow → List ℕ → Type 0
Said err bytes = Puts err.before err.after bytes ⊎ (HasFailed err × PutsFront err.before err.after bytes)
