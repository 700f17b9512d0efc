-- The record that a line is, or the first reason why it is none.
use Rattle.std.specs.Prelude.{◌≡◌, ℕ, ◌-◌, ◌==◌, Bool, false, if◌then◌else◌, List, length, take, slice_get, Option, Some, None, IsSome}
use Rattle.std.specs.Option.{option_map_or}
use Rattle.rt_json.specs.declared.tree.Json.{Json}
use Rattle.rt_json.specs.Grammar.{IsJson}
use Rattle.rt_wal.specs.declared.records.Record.{Record}
use Rattle.rt_wal.specs.declared.faults.RecordWhy.{RecordWhy}
use Rattle.rt_wal.specs.declared.faults.RecordWhy.TheVariants as why
use Rattle.rt_wal.specs.declared.faults.WalFault.{WalFault}
use Rattle.rt_wal.specs.declared.faults.WalFault.TheVariants.{BadRecord, NoMemory}
use Rattle.rt_wal.specs.Shapes.{shape_of}
use Rattle.rt_wal.specs.Times.{IsTimeIn}

abbrev pub ends_in : ℕ → List ℕ → Bool
ends_in byte bytes = option_map_or (λ last. last == byte) (slice_get bytes (length bytes - 1)) false

-- the bytes without the byte at their end, if it stands there
abbrev pub without_last : ℕ → List ℕ → List ℕ
without_last byte bytes = if ends_in byte bytes then take (length bytes - 1) bytes else bytes

-- A line without its end, which is an LF, and a CR before that. The last line of a text may have no end: then a CR is a byte of the line.
abbrev pub content_of : List ℕ → List ℕ
content_of line = if ends_in 10 line then without_last 13 (without_last 10 line) else line

-- the text, a line without its end, is JSON, with the members of a record and a commit time
pub record IsRecordText (text : List ℕ) (entry : Record) : Type 0 where
  pub tree : Json
  pub is_json : IsJson text tree
  pub shape : shape_of (length text) tree ≡ Some (record entry { moment = None })
  pub time : IsTimeIn tree entry.moment

-- each reason comes only where none before it applies
abbrev pub IsRefusedText : List ℕ → RecordWhy → Type 0
IsRefusedText text why.Json = (tree : Json) → IsJson text tree → ⊥
IsRefusedText text why.Shape = (tree : Json) × IsJson text tree × (shape_of (length text) tree ≡ None)
IsRefusedText text why.Time =
    (tree : Json) × IsJson text tree × IsSome (shape_of (length text) tree) × ((moment : Option (List ℕ)) → IsTimeIn tree moment → ⊥)

abbrev pub IsTextFault : List ℕ → WalFault → Type 0
IsTextFault text (BadRecord reason) = IsRefusedText text reason
IsTextFault text NoMemory = Unit {0}

abbrev pub IsRecord : List ℕ → Record → Type 0
IsRecord line entry = IsRecordText (content_of line) entry

abbrev pub IsFault : List ℕ → WalFault → Type 0
IsFault line fault = IsTextFault (content_of line) fault

-- why a text is no tree
abbrev pub IsTreeFault : List ℕ → WalFault → Type 0
IsTreeFault text (BadRecord why.Json) = (tree : Json) → IsJson text tree → ⊥
IsTreeFault text (BadRecord _) = ⊥
IsTreeFault text NoMemory = Unit {0}
