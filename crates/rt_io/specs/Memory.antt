-- What a source and a sink in memory are, and what one call of each does.
use Rattle.std.specs.Prelude.{ℕ, ◌+◌, ◌-◌, ◌^◌, ◌==◌, min, Bool, ◌||◌, ◌&&◌, nat_lt, if◌then◌else◌, List, [], ◌++◌}
use Rattle.std.specs.Prelude.{length, take, drop}
use Rattle.std.specs.List.{list_any}
use Rattle.rt_io.specs.declared.source.Read.{Read}
use Rattle.rt_io.specs.declared.source.Read.TheVariants as r
use Rattle.rt_io.specs.declared.sink.Wrote.{Wrote}
use Rattle.rt_io.specs.declared.sink.Wrote.TheVariants as w

-- one more, up to the greatest number of the count
abbrev pub counted : ℕ → ℕ
counted n = min (n + 1) (2 ^ 64 - 1)

-- the call of this number is to fail
abbrev pub is_listed : List ℕ → ℕ → Bool
is_listed failing call = list_any (λ n. n == call) failing

-- a source: the bytes left, the numbers of the calls that are to fail, how many calls were made, and how many failed
pub record Tape : Type 0 where
  pub left : List ℕ
  pub failing : List ℕ
  pub calls : ℕ
  pub faults : ℕ

abbrev pub full_tape : List ℕ → List ℕ → Tape
full_tape bytes failing = record { left = bytes; failing = failing; calls = 0; faults = 0 }

-- how many bytes a read into so much room takes
abbrev pub count_read : Tape → ℕ → ℕ
count_read tape room = min (length tape.left) room

abbrev pub read_of : Tape → ℕ → Read
read_of tape room = if is_listed tape.failing tape.calls then r.Failed else r.Bytes (count_read tape room)

abbrev pub tape_after : Tape → ℕ → Tape
tape_after tape room =
    if is_listed tape.failing tape.calls
    then record { left = tape.left; failing = tape.failing; calls = counted tape.calls; faults = counted tape.faults }
    else record {
      left = drop (count_read tape room) tape.left;
      failing = tape.failing;
      calls = counted tape.calls;
      faults = tape.faults;
    }

-- a sink: the bytes that it took, how many it has room for in all, and as of a source
pub record Shelf : Type 0 where
  pub held : List ℕ
  pub room : ℕ
  pub failing : List ℕ
  pub calls : ℕ
  pub faults : ℕ

abbrev pub empty_shelf : ℕ → List ℕ → Shelf
empty_shelf room failing = record { held = []; room = room; failing = failing; calls = 0; faults = 0 }

-- how many bytes of a piece a write takes
abbrev pub count_written : Shelf → List ℕ → ℕ
count_written shelf piece = min (length piece) (shelf.room - length shelf.held)

-- a write fails where its call is listed, and where no room is left for any byte of the piece
abbrev pub write_fails : Shelf → List ℕ → Bool
write_fails shelf piece = is_listed shelf.failing shelf.calls
    || (nat_lt 0 (length piece) && (count_written shelf piece == 0))

abbrev pub write_of : Shelf → List ℕ → Wrote
write_of shelf piece = if write_fails shelf piece then w.Failed else w.Bytes (count_written shelf piece)

abbrev pub shelf_after : Shelf → List ℕ → Shelf
shelf_after shelf piece =
    if write_fails shelf piece
    then record {
      held = shelf.held;
      room = shelf.room;
      failing = shelf.failing;
      calls = counted shelf.calls;
      faults = counted shelf.faults;
    }
    else record {
      held = shelf.held ++ take (count_written shelf piece) piece;
      room = shelf.room;
      failing = shelf.failing;
      calls = counted shelf.calls;
      faults = shelf.faults;
    }
