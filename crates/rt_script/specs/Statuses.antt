-- How a run of either program ends: the number that it exits with, the line on the error stream, and for a replay what
-- brings each about. And the lines of the commands that print counts.
use Rattle.std.specs.Prelude.{◌≡◌, ℕ, ◌/◌, ◌%◌, List, [], ◌∷◌, ◌++◌, codes, length}
use Rattle.std.specs.Fmt.{decimal}
use Rattle.std.specs.List.{flat_map, sum_by}
use Rattle.sha2.specs.Sha256.{sha256}
use Rattle.rt_catalog.specs.declared.catalog.Catalog.{Catalog}
use Rattle.rt_catalog.specs.declared.fault.Why.{Why}
use Rattle.rt_catalog.specs.declared.fault.CatalogFault.TheVariants.{Refused}
use Rattle.rt_catalog.specs.Catalogue.{IsCatalogue, IsFault}
use Rattle.rt_catalog.specs.Shown as catalog
use Rattle.rt_catalog.specs.Shown.{line_of, column_of, check_line}
use Rattle.rt_entry.specs.Story.{every_slot}
use Rattle.rt_entry.specs.Machine.{World, spent, rows_full}
use Rattle.rt_script.specs.declared.fault.LineWhy.{LineWhy}
use Rattle.rt_script.specs.declared.script.Script.{Script}
use Rattle.rt_script.specs.Reading.{IsScript, IsBadLine, why_text}
use Rattle.rt_script.specs.Running.{IsRun, ends, breaks, printed}
use Rattle.rt_script.specs.Generate.{hex_digit}

-- the one runs scripts, the other serves a stream
pub data Program : Type 0 where
  replaying serving : Program

-- How a run ends. A refusal of the catalogue stands at a line and a column in bytes, a refused line is one of the script
-- or of the stream; all are counted from 1. Where the journal has as many inputs as it may, a script tells by which line, and a stream doesn't.
pub data Upshot : Type 0 where
  ok usage read_fault write_fault no_memory too_long doors_fault spawn_fault inputs_spent : Upshot
  catalogue_refused : ℕ → ℕ → Why → Upshot
  line_refused : ℕ → LineWhy → Upshot
  rows_full_at inputs_spent_at : ℕ → Upshot

abbrev pub status_number : Upshot → ℕ
status_number ok = 0
status_number usage = 2
status_number (catalogue_refused line column reason) = 3
status_number (line_refused line reason) = 4
status_number read_fault = 5
status_number write_fault = 6
status_number no_memory = 7
status_number too_long = 8
status_number (rows_full_at line) = 9
status_number doors_fault = 10
status_number inputs_spent = 11
status_number (inputs_spent_at line) = 11
status_number spawn_fault = 12

abbrev pub usage_text : Program → List ℕ
usage_text replaying = codes "realtime-replay replay|audit CATALOGUE SCRIPT, check CATALOGUE, gen N, cluster SCRIPT"
usage_text serving = codes "realtime-served CATALOGUE WAL ADDRESS SECRET"

-- what a program takes its lines from
abbrev pub source_text : Program → List ℕ
source_text replaying = codes "script"
source_text serving = codes "stream"

-- what stands on the error stream, without the line feed behind it; nothing where the run ended well
abbrev pub error_text : Program → Upshot → List ℕ
error_text program ok = []
error_text program usage = codes "usage: " ++ usage_text program
error_text program (catalogue_refused line column reason) =
    codes "catalogue: " ++ decimal line ++ codes ":" ++ decimal column ++ codes ": " ++ catalog.why_text reason
error_text program (line_refused line reason) =
    source_text program ++ codes ": line " ++ decimal line ++ codes ": " ++ why_text reason
error_text program read_fault = codes "read fault"
error_text program write_fault = codes "write fault"
error_text program no_memory = codes "out of memory"
error_text program too_long = codes "too long"
error_text program (rows_full_at line) = codes "rows full: line " ++ decimal line
error_text program doors_fault = codes "doors fault"
error_text program inputs_spent = codes "inputs spent"
error_text program (inputs_spent_at line) = codes "inputs spent: line " ++ decimal line
error_text program spawn_fault = codes "spawn fault"

-- what a source gave: its whole text, or a fault before its end, or more bytes than are read
pub data Given : Type 0 where
  text : List ℕ → Given
  fails exceeds : Given

-- a catalogue's source gave the text of a catalogue
pub record Gives (given : Given) (c : Catalog) : Type 0 where
  pub bytes : List ℕ
  pub whole : given ≡ text bytes
  pub is : IsCatalogue bytes c

-- and a script's source gave the text of a script over it
pub record GivesBoth (catalogue lines : Given) (c : Catalog) (script : Script) : Type 0 where
  pub first : Gives catalogue c
  pub bytes : List ℕ
  pub whole : lines ≡ text bytes
  pub is : IsScript c bytes script

-- How a replay of what the two sources gave ends, and with which bytes on the output: the catalogue is read and loaded,
-- the script is read, its lines are, and then they run. Nothing is put out unless the run came to its end. Want of
-- memory and a fault of the output may come in place of it.
pub data Replays (catalogue lines : Given) : Upshot → List ℕ → Type 0 where
  catalogue_fails : catalogue ≡ fails → Replays catalogue lines read_fault []
  catalogue_exceeds : catalogue ≡ exceeds → Replays catalogue lines too_long []
  refuses : {bytes : List ℕ} {reason : Why} (at : ℕ) → catalogue ≡ text bytes → IsFault bytes (Refused at reason)
      → Replays catalogue lines (catalogue_refused (line_of bytes at) (column_of bytes at) reason) []
  script_fails : {c : Catalog} → Gives catalogue c → lines ≡ fails → Replays catalogue lines read_fault []
  script_exceeds : {c : Catalog} → Gives catalogue c → lines ≡ exceeds → Replays catalogue lines too_long []
  refuses_line : {c : Catalog} {bytes : List ℕ} {line : ℕ} {reason : LineWhy} → Gives catalogue c
      → lines ≡ text bytes → IsBadLine c bytes line reason → Replays catalogue lines (line_refused line reason) []
  fills_rows : {c : Catalog} {script : Script} {line : ℕ} → GivesBoth catalogue lines c script
      → IsRun c script (breaks line rows_full) → Replays catalogue lines (rows_full_at line) []
  spends_inputs : {c : Catalog} {script : Script} {line : ℕ} → GivesBoth catalogue lines c script
      → IsRun c script (breaks line spent) → Replays catalogue lines (inputs_spent_at line) []
  runs : {c : Catalog} {script : Script} {w : World} → GivesBoth catalogue lines c script → IsRun c script (ends w)
      → Replays catalogue lines ok (printed w)

-- What a `check` of what the catalogue's source gave ends with, and what it puts out: how much the text says, before
-- members are given what their groups have.
pub record IsCounted (bytes line : List ℕ) : Type 0 where
  pub c : Catalog
  pub is : IsCatalogue bytes c
  pub shown : line ≡ check_line is.lists ++ 10 ∷ []

pub data Checks (catalogue : Given) : Upshot → List ℕ → Type 0 where
  check_fails : catalogue ≡ fails → Checks catalogue read_fault []
  check_exceeds : catalogue ≡ exceeds → Checks catalogue too_long []
  check_refuses : {bytes : List ℕ} {reason : Why} (at : ℕ) → catalogue ≡ text bytes → IsFault bytes (Refused at reason)
      → Checks catalogue (catalogue_refused (line_of bytes at) (column_of bytes at) reason) []
  counts : {bytes line : List ℕ} → catalogue ≡ text bytes → IsCounted bytes line → Checks catalogue ok line

-- bytes in hexadecimal, with small letters
abbrev pub hex_of : ℕ → List ℕ
hex_of b = hex_digit (b / 16) ∷ hex_digit (b % 16) ∷ []

abbrev pub digest_text : List ℕ → List ℕ
digest_text bytes = flat_map hex_of (sha256 bytes)

abbrev pub given_count : World → ℕ
given_count w = sum_by (λ slot. length (w.slots slot).given) every_slot

abbrev pub gen_text : ℕ → List ℕ → List ℕ
gen_text messages bytes =
    codes "polls 1000 changes 10000 messages " ++ decimal messages ++ codes " sha256 " ++ digest_text bytes ++ 10 ∷ []

-- what `gen` prints of the world in which the generated run ended: how many items the slots were given, and the digest
-- of the bytes that a replay prints
abbrev pub gen_line : World → List ℕ
gen_line w = gen_text (given_count w) (printed w)
