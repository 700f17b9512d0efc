-- The commit time of a record.
use Rattle.std.specs.Prelude.{◌≡◌, ℕ, ◌+◌, ◌-◌, ◌*◌, ◌%◌, ◌^◌, ◌≤◌, ◌⊎◌, ℤ, pos, ◌-ℤ◌, ◌≤ℤ◌, Bool, false, ◌==◌, if◌then◌else◌, List, ◌∷◌, ◌++◌, length, codes, Option, Some, None, MatchOption}
use Rattle.jiff.specs.Types.{DateTime}
use Rattle.jiff.specs.Words.{civil_nanos, nanos_of_seconds, datetime_text, signed}
use Rattle.jiff_fmt.specs.Text.{pad2}
use Rattle.rt_json.specs.declared.tree.Json.{Json, out-Json}
use Rattle.rt_json.specs.declared.tree.Json.TheOpen.{Json-F}
use Rattle.rt_json.specs.declared.tree.named.Member.{Member}
use Rattle.rt_json.specs.Lookup.{member_of}
use Rattle.rt_wal.specs.declared.faults.RecordWhy.TheVariants as why
use Rattle.rt_wal.specs.declared.faults.WalFault.{WalFault}
use Rattle.rt_wal.specs.declared.faults.WalFault.TheVariants.{BadRecord, NoMemory}

-- the bytes of a date and a time of day with so many places of the second
abbrev pub civil_length : ℕ → ℕ
civil_length places = if places == 0 then 19 else 20 + places

-- `2024-01-02 03:04:05`, then up to six places of the second after a dot: all that it has. The year is 1 or later
pub record IsCivilText (text : List ℕ) (local : DateTime) : Type 0 where
  pub places : ℕ
  pub few : places ≤ 6
  pub written : text ≡ datetime_text false 32 (Some places) local
  pub whole : local.time.subsec_nanosecond % 10 ^ (9 - places) ≡ 0
  pub year : pos 1 ≤ℤ local.date.year

-- `05:30`, or `05` for whole hours
abbrev pub IsClockText : List ℕ → ℕ → ℕ → Type 0
IsClockText text hours minutes = (text ≡ pad2 hours ++ 58 ∷ pad2 minutes) ⊎ ((text ≡ pad2 hours) × (minutes ≡ 0))

-- `-` west of UTC, and `+` elsewhere
abbrev pub sign_of : Bool → ℕ
sign_of is_west = if is_west then 45 else 43

-- a sign and the clock text of at most 15:59, with the offset's seconds east of UTC
pub record IsOffsetText (text : List ℕ) (seconds : ℤ) : Type 0 where
  pub is_west : Bool
  pub hours : ℕ
  pub minutes : ℕ
  pub clock : List ℕ
  pub parts : text ≡ sign_of is_west ∷ clock
  pub written : IsClockText clock hours minutes
  pub hours_in : hours ≤ 15
  pub minutes_in : minutes ≤ 59
  pub value : seconds ≡ signed is_west (hours * 3600 + minutes * 60)

-- what a clock at UTC shows when one at the offset shows `local`, in the year 1 or later
abbrev pub IsUtc : DateTime → ℤ → DateTime → Type 0
IsUtc local seconds utc = (civil_nanos utc ≡ civil_nanos local -ℤ nanos_of_seconds seconds) × (pos 1 ≤ℤ utc.date.year)

-- the instant of a date, a time of day and an offset
pub record IsInstantOf (civil offset : List ℕ) (utc : DateTime) : Type 0 where
  pub local : DateTime
  pub seconds : ℤ
  pub is_civil : IsCivilText civil local
  pub is_offset : IsOffsetText offset seconds
  pub is_utc : IsUtc local seconds utc

pub record IsInstant (text : List ℕ) (utc : DateTime) : Type 0 where
  pub civil : List ℕ
  pub offset : List ℕ
  pub parts : text ≡ civil ++ offset
  pub instant : IsInstantOf civil offset utc

-- no last bytes, so many, are an offset behind a date and a time of day
abbrev pub HasNoInstantAt : List ℕ → ℕ → Type 0
HasNoInstantAt text size =
    (civil offset : List ℕ) (utc : DateTime) → text ≡ civil ++ offset → length offset ≡ size → IsInstantOf civil offset utc → ⊥

-- `2024-01-02T03:04:05.678Z`, with the milliseconds truncated
abbrev pub utc_text : DateTime → List ℕ
utc_text utc = datetime_text false 84 (Some 3) utc ++ codes "Z"

-- how the time that a text names is printed
abbrev pub IsMoment : List ℕ → List ℕ → Type 0
IsMoment text moment = (utc : DateTime) × IsInstant text utc × (moment ≡ utc_text utc)

abbrev pub IsTimeAt : Json-F Json Member → Option (List ℕ) → Type 0
IsTimeAt Json-F.Null moment = moment ≡ None
IsTimeAt (Json-F.Text text) moment = MatchOption moment ⊥ (IsMoment text)
IsTimeAt _ moment = ⊥

-- none where there is no `timestamp`, or null
abbrev pub IsTimeIn : Json → Option (List ℕ) → Type 0
IsTimeIn tree moment = MatchOption (member_of tree (codes "timestamp")) (moment ≡ None) (λ t. IsTimeAt (out-Json t) moment)

-- why there is no commit time
abbrev pub IsTimeFault : Json → WalFault → Type 0
IsTimeFault tree (BadRecord why.Time) = (moment : Option (List ℕ)) → IsTimeIn tree moment → ⊥
IsTimeFault tree (BadRecord _) = ⊥
IsTimeFault tree NoMemory = Unit {0}
