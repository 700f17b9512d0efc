-- What a script of several nodes does and shows, line by line. What nodes know and tell are lists of operations.
use Rattle.std.specs.Prelude.{◌≡◌, ℕ, ◌+◌, ◌==◌, nat_le, true, false, ◌&&◌, IsUtf8, List, [], ◌∷◌, ◌++◌, codes, replicate, slice_get, slice_set, length, Option, Some, None, Result, Ok, Err}
use Rattle.std.specs.Fmt.{decimal}
use Rattle.std.specs.Str.{bytes_eq}
use Rattle.rt_value.specs.Choice.{◌>>=◌, first_case, some_if}
use Rattle.rt_json.specs.Machine.{tree_of}
use Rattle.rt_json.specs.Written.{written}
use Rattle.rt_lines.specs.Lines.{is_passed_over, lines_of}
use Rattle.rt_lines.specs.Words.{parted, number_in}
use Rattle.rt_cluster.specs.Operations.{Operation, tracked, untracked, dropped}
use Rattle.rt_cluster.specs.Shown.{presence}
use Rattle.rt_cluster_script.specs.declared.fault.ClusterFault.{ClusterFault}
use Rattle.rt_cluster_script.specs.declared.fault.ClusterFault.TheVariants as fault

-- what each node knows, the operations in the order of their lines, and what was shown
pub record State : Type 0 where
  pub nodes : List (List Operation)
  pub told : List Operation
  pub shown : List ℕ

abbrev pub start : State
start = record { nodes = []; told = []; shown = [] }

abbrev pub state_with : List (List Operation) → List Operation → List ℕ → State
state_with nodes told shown = record { nodes = nodes; told = told; shown = shown }

-- so many nodes that know nothing, where there is none yet; nothing is told then
abbrev pub begun : State → ℕ → Option State
begun st count =
    some_if ((length st.nodes == 0) && (nat_le 1 count && nat_le count 16))
    (state_with (replicate count []) [] st.shown)

-- a node makes an operation of what it knows
abbrev pub does : State → ℕ → (List Operation → Operation) → Option State
does st node operation =
    slice_get st.nodes node >>= λ known.
    Some (state_with (slice_set st.nodes node (operation known ∷ known)) (st.told ++ operation known ∷ []) st.shown)

-- a node is told operations
abbrev pub learns : State → ℕ → List Operation → Option State
learns st node said =
    slice_get st.nodes node >>= λ known. Some (state_with (slice_set st.nodes node (said ++ known)) st.told st.shown)

abbrev pub dropped_by : State → ℕ → ℕ → Option State
dropped_by st node other = slice_get st.nodes other >>= λ _. does st node (dropped other)

-- the operation of the K-th operation line, from 0 on
abbrev pub given : State → ℕ → ℕ → Option State
given st operation node = slice_get st.told operation >>= λ o. learns st node (o ∷ [])

abbrev pub synced : State → ℕ → ℕ → Option State
synced st from_ to = slice_get st.nodes from_ >>= λ said. learns st to said

-- the node, the topic and its state, with blanks between them
abbrev pub shown_line : ℕ → List ℕ → List Operation → List ℕ
shown_line node topic known = decimal node ++ 32 ∷ topic ++ 32 ∷ written (presence known topic) ++ 10 ∷ []

abbrev pub shown : State → ℕ → List ℕ → Option State
shown st node topic =
    slice_get st.nodes node >>= λ known.
    Some (state_with st.nodes st.told (st.shown ++ shown_line node topic known))

-- a number and what stands behind it; two numbers; a number, a word and what stands behind them
abbrev pub node_in : List ℕ → Option (ℕ × List ℕ)
node_in text = parted text >>= λ p. number_in p.0 >>= λ n. Some (n, p.1)

abbrev pub pair_in : List ℕ → Option (ℕ × ℕ)
pair_in text = node_in text >>= λ p. number_in p.1 >>= λ n. Some (p.0, n)

abbrev pub place_in : List ℕ → Option (ℕ × (List ℕ × List ℕ))
place_in text = node_in text >>= λ p. parted p.1 >>= λ q. Some (p.0, (q.0, q.1))

-- `nodes N`, `track n TOPIC KEY TREE`, `untrack n TOPIC KEY`, `drop n m`, `give K n`, `sync a b`, `show n TOPIC`, each
-- behind its word
abbrev pub begins : State → List ℕ → Option State
begins st text = number_in text >>= λ count. begun st count

abbrev pub tracks : State → List ℕ → Option State
tracks st text =
    place_in text >>= λ p. parted p.1.1 >>= λ q. tree_of q.1 >>= λ tree. does st p.0 (tracked p.0 p.1.0 q.0 tree)

abbrev pub untracks : State → List ℕ → Option State
untracks st text = place_in text >>= λ p. does st p.0 (untracked p.0 p.1.0 p.1.1)

abbrev pub drops : State → List ℕ → Option State
drops st text = pair_in text >>= λ p. dropped_by st p.0 p.1

abbrev pub gives : State → List ℕ → Option State
gives st text = pair_in text >>= λ p. given st p.0 p.1

abbrev pub syncs : State → List ℕ → Option State
syncs st text = pair_in text >>= λ p. synced st p.0 p.1

abbrev pub shows : State → List ℕ → Option State
shows st text = node_in text >>= λ p. shown st p.0 p.1

abbrev pub step_by : State → List ℕ → List ℕ → Option State
step_by st verb rest =
    first_case (
    (bytes_eq verb (codes "nodes"), begins st rest)
    ∷ (bytes_eq verb (codes "track"), tracks st rest)
    ∷ (bytes_eq verb (codes "untrack"), untracks st rest)
    ∷ (bytes_eq verb (codes "drop"), drops st rest)
    ∷ (bytes_eq verb (codes "give"), gives st rest)
    ∷ (bytes_eq verb (codes "sync"), syncs st rest)
    ∷ (bytes_eq verb (codes "show"), shows st rest)
    ∷ []) None

-- the state behind a line, and none where it is no line
abbrev pub step : State → List ℕ → Option State
step st line = parted line >>= λ p. step_by st p.0 p.1

-- what a line of a text leads to: lines that are passed over change nothing, and what isn't UTF-8 is no line
pub data Reads (st : State) (line : List ℕ) : Option State → Type 0 where
  passed : is_passed_over line ≡ true → Reads st line (Some st)
  read : {next : Option State} → is_passed_over line ≡ false → IsUtf8 line → step st line ≡ next → Reads st line next
  unread : is_passed_over line ≡ false → (IsUtf8 line → ⊥) → Reads st line None

-- lines from a number on: all are taken, or the first that is none is refused, by its number
pub data Ends : State → ℕ → List (List ℕ) → Result (List ℕ) ℕ → Type 0 where
  at_end : {st : State} {number : ℕ} → Ends st number [] (Ok st.shown)
  refused : {st : State} {number : ℕ} {line : List ℕ} {lines : List (List ℕ)} → Reads st line None
      → Ends st number (line ∷ lines) (Err number)
  goes_on : {st next : State} {number : ℕ} {line : List ℕ} {lines : List (List ℕ)} {r : Result (List ℕ) ℕ}
      → Reads st line (Some next) → Ends next (number + 1) lines r → Ends st number (line ∷ lines) r

-- what the script of a text shows, and its first refused line
abbrev pub Shows : List ℕ → List ℕ → Type 0
Shows text bytes = Ends start 1 (lines_of text) (Ok bytes)

abbrev pub Refuses : List ℕ → ℕ → Type 0
Refuses text line = Ends start 1 (lines_of text) (Err line)

-- what a fault tells
abbrev pub IsFault : List ℕ → ClusterFault → Type 0
IsFault text fault.NoMemory = Unit {0}
IsFault text (fault.Refused line) = Refuses text line
