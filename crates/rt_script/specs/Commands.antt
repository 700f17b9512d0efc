-- The lines of a script, each by the one way in which it is written. Numbers are decimal, and one blank stands between words.
use Rattle.std.specs.Prelude.{◌≡◌, ℕ, ◌==◌, ◌≤◌, ◌<◌, ◌^◌, Bool, true, false, ◌&&◌, nat_lt, List, [], ◌∷◌, ◌++◌, codes, length, ⊤}
use Rattle.std.specs.Fmt.{decimal}
use Rattle.std.specs.Char.{is_ascii_alphanumeric}
use Rattle.std.specs.List.{list_all, list_any, before_first}
use Rattle.std.specs.Str.{bytes_eq}
use Rattle.rt_phx.specs.declared.message.Version.{Version}
use Rattle.rt_phx.specs.declared.message.Version.TheVariants.{V1, V2}
use Rattle.rt_entry.specs.declared.input.Settings.{Settings}

pub data Command : Type 0 where
  -- settings
  workers capacity lane inlet rows inputs max_record_bytes : ℕ → Command
  secret : List ℕ → Command
  schedule_manual : Command
  -- a name, and the bytes of claims
  token : List ℕ → List ℕ → Command
  open_ : ℕ → Version → List ℕ → Command
  frame : ℕ → List ℕ → Command
  gone : ℕ → Command
  -- a slot, and the bytes of claims and messages
  post : ℕ → List ℕ → Command
  wal : List ℕ → Command
  poll : Command
  tick : ℕ → Command
  stop : Command
  -- in a manual schedule alone
  take_ : ℕ → Command
  feed clock : Command
  send work push pop : ℕ → Command
  drain : Command

abbrev pub version_text : Version → List ℕ
version_text V1 = codes "1.0.0"
version_text V2 = codes "2.0.0"

-- a word and a number
abbrev pub with_number : List ℕ → ℕ → List ℕ
with_number word n = word ++ 32 ∷ decimal n

-- the line of a command
abbrev pub spelling : Command → List ℕ
spelling (workers n) = with_number (codes "workers") n
spelling (capacity n) = with_number (codes "capacity") n
spelling (lane n) = with_number (codes "lane") n
spelling (inlet n) = with_number (codes "inlet") n
spelling (rows n) = with_number (codes "rows") n
spelling (inputs n) = with_number (codes "inputs") n
spelling (max_record_bytes n) = with_number (codes "max_record_bytes") n
spelling (secret text) = codes "secret " ++ text
spelling schedule_manual = codes "schedule manual"
spelling (token name claims) = codes "token " ++ name ++ 32 ∷ claims
spelling (open_ slot version claims) = with_number (codes "open") slot ++ 32 ∷ version_text version ++ 32 ∷ claims
spelling (frame slot text) = with_number (codes "frame") slot ++ 32 ∷ text
spelling (gone slot) = with_number (codes "gone") slot
spelling (post slot text) = with_number (codes "post") slot ++ 32 ∷ text
spelling (wal record_) = codes "wal " ++ record_
spelling poll = codes "poll"
spelling (tick moment) = with_number (codes "tick") moment
spelling stop = codes "stop"
spelling (take_ slot) = with_number (codes "take") slot
spelling feed = codes "feed"
spelling clock = codes "clock"
spelling (send l) = with_number (codes "send") l
spelling (work l) = with_number (codes "work") l
spelling (push slot) = with_number (codes "push") slot
spelling (pop slot) = with_number (codes "pop") slot
spelling drain = codes "drain"

-- the range of a number
abbrev pub Within : ℕ → ℕ → ℕ → Type 0
Within low high n = (low ≤ n) × (n ≤ high)

abbrev pub is_name : List ℕ → Bool
is_name name = nat_lt 0 (length name) && list_all is_ascii_alphanumeric name

-- the arguments are in their ranges, where a lane is one of the settings' workers
abbrev pub IsInRange : Settings → Command → Type 0
IsInRange s (workers n) = Within 1 16 n
IsInRange s (capacity n) = Within 1 4096 n
IsInRange s (lane n) = Within 1 4096 n
IsInRange s (inlet n) = Within 1 4096 n
IsInRange s (rows n) = Within 1 1000000 n
IsInRange s (inputs n) = Within 1 4294967295 n
IsInRange s (max_record_bytes n) = Within 1 67108864 n
IsInRange s (secret text) = 0 < length text
IsInRange s (token name claims) = is_name name ≡ true
IsInRange s (open_ slot version claims) = slot ≤ 255
IsInRange s (frame slot text) = slot ≤ 255
IsInRange s (gone slot) = slot ≤ 255
IsInRange s (post slot text) = slot ≤ 255
IsInRange s (tick moment) = moment < 2 ^ 64
IsInRange s (take_ slot) = slot ≤ 255
IsInRange s (push slot) = slot ≤ 255
IsInRange s (pop slot) = slot ≤ 255
IsInRange s (send l) = l < s.workers
IsInRange s (work l) = l < s.workers
IsInRange s _ = ⊤

abbrev pub setting_words : List (List ℕ)
setting_words =
    codes "workers" ∷ codes "capacity" ∷ codes "lane" ∷ codes "inlet" ∷ codes "rows" ∷ codes "inputs" ∷ codes "max_record_bytes" ∷ codes "secret"
    ∷ codes "schedule" ∷ []

abbrev pub first_word : List ℕ → List ℕ
first_word line = before_first (λ b. b == 32) line

abbrev pub is_setting_word : List ℕ → Bool
is_setting_word word = list_any (bytes_eq word) setting_words

abbrev pub is_setting : Command → Bool
is_setting c = is_setting_word (first_word (spelling c))

-- only where the schedule is written out
abbrev pub is_manual : Command → Bool
is_manual (take_ slot) = true
is_manual feed = true
is_manual clock = true
is_manual (send l) = true
is_manual (work l) = true
is_manual (push slot) = true
is_manual (pop slot) = true
is_manual drain = true
is_manual _ = false
