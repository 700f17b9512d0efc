-- How a run that serves a stream ends, and what brings it about: the catalogue, the stream's lines with their polls, and
-- what else the run meets. A stream alone ends in one way; where several things are met, the run tells any of them.
use Rattle.std.specs.Prelude.{◌≡◌, ◌≢◌, ℕ, ◌+◌, ◌==◌, nat_lt, Bool, true, false, List, [], ◌∷◌, ◌++◌, length, Some, Ok, Err}
use Rattle.std.specs.List.{list_any, sum_by}
use Rattle.rt_value.specs.Edits.{TableEdit}
use Rattle.rt_wal.specs.declared.records.Record.{Record}
use Rattle.rt_wal.specs.declared.faults.RecordWhy.{RecordWhy}
use Rattle.rt_wal.specs.Records.{content_of, IsRecord, IsRefusedText}
use Rattle.rt_wal.specs.Batches.{is_blank, ends_batch}
use Rattle.rt_catalog.specs.declared.catalog.Catalog.{Catalog}
use Rattle.rt_catalog.specs.declared.fault.Why.{Why}
use Rattle.rt_catalog.specs.declared.fault.CatalogFault.TheVariants.{Refused}
use Rattle.rt_catalog.specs.Catalogue.{IsFault}
use Rattle.rt_catalog.specs.Shown.{line_of, column_of}
use Rattle.rt_change.specs.declared.change.Change.{Change}
use Rattle.rt_change.specs.declared.change.Bound.{Bound}
use Rattle.rt_change.specs.declared.change.Bound.TheVariants as bound
use Rattle.rt_change.specs.declared.fault.ChangeFault.{ChangeFault}
use Rattle.rt_change.specs.Binding.{change_of}
use Rattle.rt_entry.specs.declared.input.Input.TheVariants.{Poll}
use Rattle.rt_entry.specs.Story.{edits_of, tables_of}
use Rattle.rt_script.specs.declared.fault.LineWhy.{LineWhy}
use Rattle.rt_script.specs.declared.fault.LineWhy.TheVariants as why
use Rattle.rt_script.specs.Reading.{why_of}
use Rattle.rt_script.specs.Statuses.{Upshot, Given, Gives, text, fails, exceeds, ok, read_fault, too_long, line_refused}
use Rattle.rt_script.specs.Statuses.{rows_full_at, doors_fault, spawn_fault, inputs_spent, catalogue_refused}
use Rattle.rt_script.specs.Statuses.{status_number}

-- how many changes end a batch at a commit, and how many rows the tables hold
pub record Limits : Type 0 where
  pub changes : ℕ
  pub rows : ℕ

-- The edits of the polls, newest first; the records and the changes of the batch that has not ended; and the number of the
-- line of its last record.
pub record Reader : Type 0 where
  pub edits : List TableEdit
  pub batch : List Record
  pub changes : List Change
  pub last : ℕ

abbrev pub fresh : Reader
fresh = record { edits = []; batch = []; changes = []; last = 0 }

abbrev pub changes_in : Bound → List Change
changes_in (bound.Change ch) = ch ∷ []
changes_in bound.Skip = []

-- with the record of a line
abbrev pub with_record : Reader → ℕ → Record → Bound → Reader
with_record st number r b =
    record st { batch = st.batch ++ r ∷ []; changes = st.changes ++ changes_in b; last = number }

-- the batch is polled
abbrev pub polled : Reader → Reader
polled st = record st { edits = edits_of (Poll st.changes) ++ st.edits; batch = []; changes = [] }

abbrev pub after_record : Bool → Reader → Reader
after_record false st = st
after_record true st = polled st

-- at the stream's end the records that are left are a batch, where there are any
abbrev pub at_last : Reader → Reader
at_last st = elim st.batch [ [] ↦ st | r ∷ rs ↦ polled st ]

-- the tables would hold more rows than they may
abbrev pub is_full : Catalog → Limits → Reader → Bool
is_full c limits st = nat_lt limits.rows (sum_by length (tables_of c st.edits))

-- a line leads from one state to the next: a blank one changes nothing, another one's record ends its batch or doesn't
pub data Reads (c : Catalog) (limits : Limits) (st : Reader) (number : ℕ) (line : List ℕ) : Reader → Type 0 where
  is_passed : is_blank line ≡ true → Reads c limits st number line st
  is_read : {r : Record} {b : Bound} → is_blank line ≡ false → IsRecord line r → change_of c r ≡ Ok b
      → Reads c limits st number line (after_record (ends_batch limits.changes st.batch r) (with_record st number r b))

-- or it is refused
pub data Refuses (c : Catalog) (line : List ℕ) : LineWhy → Type 0 where
  is_none : (reason : RecordWhy) → is_blank line ≡ false → IsRefusedText (content_of line) reason → Refuses c line why.Record
  is_unbound : {r : Record} {e : ChangeFault} {reason : LineWhy} → is_blank line ≡ false → IsRecord line r
      → change_of c r ≡ Err e → why_of e ≡ Some reason → Refuses c line reason

-- behind the last line that was read: the end, a fault, or a line of more bytes than are read
pub data Behind : Type 0 where
  an_end a_fault a_long_line : Behind

abbrev pub end_upshot : Catalog → Limits → Reader → Upshot
end_upshot c limits st = elim (is_full c limits (at_last st)) [ true ↦ rows_full_at st.last | false ↦ ok ]

abbrev pub behind_upshot : Catalog → Limits → Reader → Behind → Upshot
behind_upshot c limits st an_end = end_upshot c limits st
behind_upshot c limits st a_fault = read_fault
behind_upshot c limits st a_long_line = too_long

-- how the lines from a number on end, and what stands behind them
pub data EndsIn (c : Catalog) (limits : Limits) (behind : Behind) : Reader → ℕ → List (List ℕ) → Upshot → Type 0 where
  no_more : {st : Reader} {number : ℕ} → EndsIn c limits behind st number [] (behind_upshot c limits st behind)
  refuses_it : {st : Reader} {number : ℕ} {line : List ℕ} {lines : List (List ℕ)} {reason : LineWhy}
      → Refuses c line reason → EndsIn c limits behind st number (line ∷ lines) (line_refused number reason)
  fills_it : {st next : Reader} {number : ℕ} {line : List ℕ} {lines : List (List ℕ)}
      → Reads c limits st number line next → is_full c limits next ≡ true
      → EndsIn c limits behind st number (line ∷ lines) (rows_full_at number)
  goes_on : {st next : Reader} {number : ℕ} {line : List ℕ} {lines : List (List ℕ)} {upshot : Upshot}
      → Reads c limits st number line next → is_full c limits next ≡ false
      → EndsIn c limits behind next (number + 1) lines upshot → EndsIn c limits behind st number (line ∷ lines) upshot

-- What a run met: what the catalogue's source gave, the stream's lines and what stood behind them, and whether a door
-- or the spawner failed, or the journal had as many inputs as it may when another was taken.
pub record Met : Type 0 where
  pub catalogue : Given
  pub lines : List (List ℕ)
  pub behind : Behind
  pub doors_failed : Bool
  pub spawner_failed : Bool
  pub inputs_refused : Bool

abbrev pub Streams : Met → Limits → Catalog → Upshot → Type 0
Streams met limits c upshot = EndsIn c limits met.behind fresh 1 met.lines upshot

-- How a run that met this ends. Want of memory may come in place of it.
pub data Serves (met : Met) (limits : Limits) : Upshot → Type 0 where
  catalogue_fails : met.catalogue ≡ fails → Serves met limits read_fault
  catalogue_exceeds : met.catalogue ≡ exceeds → Serves met limits too_long
  refuses : {bytes : List ℕ} {reason : Why} (at : ℕ) → met.catalogue ≡ text bytes → IsFault bytes (Refused at reason)
      → Serves met limits (catalogue_refused (line_of bytes at) (column_of bytes at) reason)
  doors_fail : {c : Catalog} → Gives met.catalogue c → met.doors_failed ≡ true → Serves met limits doors_fault
  spawner_fails : {c : Catalog} → Gives met.catalogue c → met.spawner_failed ≡ true → Serves met limits spawn_fault
  spends : {c : Catalog} → Gives met.catalogue c → met.inputs_refused ≡ true → Serves met limits inputs_spent
  stream_stops : {c : Catalog} {upshot : Upshot} → Gives met.catalogue c → Streams met limits c upshot → upshot ≢ ok
      → Serves met limits upshot
  ends : {c : Catalog} → Gives met.catalogue c → Streams met limits c ok → met.doors_failed ≡ false
      → met.spawner_failed ≡ false → met.inputs_refused ≡ false → Serves met limits ok

-- a stream's lines, with what stands behind them, end in one way
abbrev pub StreamsEndOnce : Type 0
StreamsEndOnce =
    (c : Catalog) (limits : Limits) (behind : Behind) (st : Reader) (number : ℕ) (lines : List (List ℕ)) (a b : Upshot)
    → EndsIn c limits behind st number lines a → EndsIn c limits behind st number lines b → a ≡ b

-- the statuses with which a server ends, want of memory and wrong words aside: never a fault of writing
abbrev pub served_statuses : List ℕ
served_statuses = 0 ∷ 3 ∷ 4 ∷ 5 ∷ 8 ∷ 9 ∷ 10 ∷ 11 ∷ 12 ∷ []

abbrev pub is_served : Upshot → Bool
is_served upshot = list_any (λ n. n == status_number upshot) served_statuses

abbrev pub ServedStatuses : Type 0
ServedStatuses = (met : Met) (limits : Limits) (upshot : Upshot) → Serves met limits upshot → is_served upshot ≡ true
