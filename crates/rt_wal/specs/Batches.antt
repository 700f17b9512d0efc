-- The one cut of a stream's lines into batches.
use Rattle.std.specs.Prelude.{◌≡◌, ℕ, ◌+◌, ◌<◌, ◌≤◌, ◌==◌, Bool, true, false, not, ◌&&◌, nat_le, IsTrue, List, [], ◌∷◌, ◌++◌, length, filter, All, refl}
use Rattle.std.specs.List.{AllZip, flat_map}
use Rattle.std.specs.Coded.{Coded, code_by, coded×, coded_ℕ, coded_list}
use Rattle.rt_wal.specs.declared.records.Record.{Record}
use Rattle.rt_wal.specs.declared.records.Action.{Action}
use Rattle.rt_wal.specs.declared.records.Action.TheVariants.{Commit}
use Rattle.rt_wal.specs.declared.batching.Batching.{Batching}
use Rattle.rt_wal.specs.declared.batching.Batching.TheVariants.{Batch, More}
use Rattle.rt_wal.specs.Records.{without_last, IsRecord}

-- a line that is empty, or a CR alone, with or without an LF behind it
abbrev pub is_blank : List ℕ → Bool
is_blank line = length (without_last 13 (without_last 10 line)) == 0

abbrev pub is_commit : Action → Bool
is_commit Commit = true
is_commit _ = false

-- the records of the lines, one for each that isn't blank
abbrev pub AreRecords : List (List ℕ) → List Record → Type 0
AreRecords lines records = AllZip IsRecord (filter (λ l. not (is_blank l)) lines) records

-- each commit among them comes before so many records are there
abbrev pub IsOpen : ℕ → List Record → Type 0
IsOpen max records =
    (front : List Record) (entry : Record) (rest : List Record) → records ≡ front ++ entry ∷ rest → IsTrue (is_commit entry.action)
    → length front + 1 < max

-- a batch ends with its first commit at which it has so many records or more
pub record IsWhole (max : ℕ) (batch : List Record) : Type 0 where
  pub front : List Record
  pub last : Record
  pub parts : batch ≡ front ++ last ∷ []
  pub open_before : IsOpen max front
  pub is_commit : IsTrue (is_commit last.action)
  pub enough : max ≤ length batch

-- the records are whole batches, and then the records of a batch that has not ended
pub record IsCutSoFar (max : ℕ) (records : List Record) (whole : List (List Record)) (rest : List Record) : Type 0 where
  pub parts : records ≡ flat_map (λ b. b) whole ++ rest
  pub each : All (IsWhole max) whole
  pub is_open : IsOpen max rest

-- the records that are left at the end are a batch, where there are any
abbrev pub last_batch : List Record → List (List Record)
last_batch [] = []
last_batch (r ∷ rs) = (r ∷ rs) ∷ []

-- the batches of a stream's records
pub record IsCut (max : ℕ) (records : List Record) (batches : List (List Record)) : Type 0 where
  pub whole : List (List Record)
  pub rest : List Record
  pub so_far : IsCutSoFar max records whole rest
  pub ended : batches ≡ whole ++ last_batch rest

-- what a batcher waits with
pub record Waiting : Type 0 where
  pub max : ℕ
  pub records : List Record

-- it is stored as the pair of its fields
abbrev pub waiting_code : Coded Record → Coded Waiting
waiting_code code =
    code_by (ℕ × List Record) (coded× coded_ℕ (coded_list code)) (λ w. (w.max, w.records)) (λ p. record { max = p.0; records = p.1 }) (λ _. refl)

-- the batches that were given of these lines, and the records that wait, are the lines' cut so far
pub record HasCut (lines : List (List ℕ)) (given : List (List Record)) (waiting : Waiting) : Type 0 where
  pub records : List Record
  pub are_records : AreRecords lines records
  pub so_far : IsCutSoFar waiting.max records given waiting.records

-- the batches are the lines' cut
pub record IsCutOfLines (max : ℕ) (lines : List (List ℕ)) (batches : List (List Record)) : Type 0 where
  pub records : List Record
  pub are_records : AreRecords lines records
  pub cut : IsCut max records batches

abbrev pub batches_in : Batching → List (List Record)
batches_in (Batch records) = records ∷ []
batches_in More = []

-- the record ends the batch of those before it
abbrev pub ends_batch : ℕ → List Record → Record → Bool
ends_batch max before entry = is_commit entry.action && nat_le max (length before + 1)

abbrev pub IsNext : Waiting → Record → Batching → Waiting → Type 0
IsNext old entry (Batch records) new =
    (ends_batch old.max old.records entry ≡ true) × (records ≡ old.records ++ entry ∷ []) × (new ≡ record old { records = [] })
IsNext old entry More new = (ends_batch old.max old.records entry ≡ false) × (new ≡ record old { records = old.records ++ entry ∷ [] })

-- what a line gives: a blank one nothing, another one its record's batch where the record ends it
pub data TakesLine (old : Waiting) (line : List ℕ) (answer : Batching) (new : Waiting) : Type 0 where
  blank : is_blank line ≡ true → answer ≡ More → new ≡ old → TakesLine old line answer new
  taken : (entry : Record) → is_blank line ≡ false → IsRecord line entry → IsNext old entry answer new → TakesLine old line answer new
