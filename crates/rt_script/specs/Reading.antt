-- The script of a text: each line in turn, or the first line that is refused, with the reason.
use Rattle.std.specs.Prelude.{◌≡◌, ℕ, ◌==◌, ◌+◌, nat_lt, nat_le, nat_eq, zero, suc, Bool, true, false, ◌&&◌, not, ◌||◌, List, [], ◌∷◌, ◌++◌, codes, length, drop, take_while, find, Option, Some, None, option_map, is_some, Result, Ok, Err}
use Rattle.std.specs.Char.{is_ascii_alphanumeric}
use Rattle.std.specs.List.{list_any, starts_with}
use Rattle.std.specs.Str.{bytes_eq}
use Rattle.rt_value.specs.declared.claims.Claims.{Claims}
use Rattle.rt_value.specs.Choice.{◌>>=◌, some_if}
use Rattle.rt_json.specs.declared.tree.Json.{Json}
use Rattle.rt_json.specs.Lookup.{member_of}
use Rattle.rt_json.specs.Machine.{tree_of}
use Rattle.rt_wal.specs.declared.records.Record.{Record}
use Rattle.rt_wal.specs.declared.faults.RecordWhy.{RecordWhy}
use Rattle.rt_wal.specs.Records.{IsRecordText, IsRefusedText}
use Rattle.rt_lines.specs.Lines.{is_passed_over, lines_of}
use Rattle.rt_token.specs.declared.fault.TokenFault.{TokenFault}
use Rattle.rt_token.specs.Claims.{claims_in_tree}
use Rattle.rt_token.specs.Tokens.{signed_token}
use Rattle.rt_phx.specs.Posts.{postings_of}
use Rattle.rt_catalog.specs.declared.catalog.Catalog.{Catalog}
use Rattle.rt_change.specs.declared.change.Change.{Change}
use Rattle.rt_change.specs.declared.change.Bound.{Bound}
use Rattle.rt_change.specs.declared.change.Bound.TheVariants as bound
use Rattle.rt_change.specs.declared.fault.ChangeFault.{ChangeFault}
use Rattle.rt_change.specs.declared.fault.ChangeFault.TheVariants as fault
use Rattle.rt_change.specs.Binding.{change_of}
use Rattle.rt_entry.specs.declared.input.Input.{Input}
use Rattle.rt_entry.specs.declared.input.Input.TheVariants.{Opened, Frame, Gone, Post, Poll, Tick, Stop}
use Rattle.rt_entry.specs.declared.input.Settings.{Settings}
use Rattle.rt_entry.specs.declared.input.Step.{Step}
use Rattle.rt_entry.specs.declared.input.Step.TheVariants.{Arrive, Feed, Take, TakeFeed, TakeClock, Send, Work, Push, Pop}
use Rattle.rt_script.specs.declared.script.Act.{Act}
use Rattle.rt_script.specs.declared.script.Act.TheVariants.{One, Drain}
use Rattle.rt_script.specs.declared.script.Line.{Line}
use Rattle.rt_script.specs.declared.script.Script.{Script}
use Rattle.rt_script.specs.declared.fault.LineWhy.{LineWhy}
use Rattle.rt_script.specs.declared.fault.LineWhy.TheVariants as why
use Rattle.rt_script.specs.Commands as command
use Rattle.rt_script.specs.Commands.{Command, spelling, IsInRange, is_setting, is_setting_word, first_word, is_manual}

abbrev pub default_settings : Settings
default_settings =
    record {
      workers = 1;
      capacity = 256;
      lane = 64;
      inlet = 64;
      rows = 1000000;
      inputs = 4294967295;
      max_record = 1048576;
      secret = codes "realtime";
    }

-- what the lines before say
pub record State : Type 0 where
  pub settings : Settings
  pub manual : Bool
  -- the words of the settings that were given
  pub given : List (List ℕ)
  -- whether a line that is no setting came
  pub begun : Bool
  -- names and texts
  pub tokens : List (List ℕ × List ℕ)
  -- the changes kept for the next poll, and whether there is a record for it, perhaps one that is passed over
  pub kept : List Change
  pub waiting : Bool
  -- the greatest tick
  pub clock : ℕ
  pub steps : List Line

abbrev pub start : State
start =
    record {
      settings = default_settings;
      manual = false;
      given = [];
      begun = false;
      tokens = [];
      kept = [];
      waiting = false;
      clock = 0;
      steps = [];
    }

-- a setting after another line
abbrev pub is_late : State → List ℕ → Bool
is_late st line = st.begun && is_setting_word (first_word line)

-- a setting twice, or a manual line without `schedule manual`
abbrev pub is_misplaced : State → Command → Bool
is_misplaced st k = (is_setting k && list_any (bytes_eq (first_word (spelling k))) st.given) || (is_manual k && not st.manual)

-- the line is the command's, in its ranges and in its place
pub record IsCommand (st : State) (line : List ℕ) (k : Command) : Type 0 where
  pub timely : is_late st line ≡ false
  pub is : line ≡ spelling k
  pub ranges : IsInRange st.settings k
  pub placed : is_misplaced st k ≡ false

abbrev pub token_named : State → List ℕ → Option (List ℕ)
token_named st name = option_map (λ t. t.1) (find (λ t. bytes_eq t.0 name) st.tokens)

-- what stands behind `${`: a name of letters and digits, `}`, and the rest
abbrev pub reference_in : List ℕ → Option (List ℕ × List ℕ)
reference_in bytes =
    let name = take_while is_ascii_alphanumeric bytes in
    let rest = drop (length name) bytes in
    some_if (nat_lt 0 (length name) && begins_with 125 rest) (name, drop 1 rest)
  where
    begins_with : ℕ → List ℕ → Bool
    begins_with b [] = false
    begins_with b (c ∷ more) = c == b

abbrev pub reference_at : List ℕ → Option (List ℕ × List ℕ)
reference_at bytes = elim (starts_with nat_eq bytes (codes "${")) [ true ↦ reference_in (drop 2 bytes) | false ↦ None ]

-- each ${NAME} replaced by the token's text, which isn't looked at again; none where a name is unknown
abbrev pub substituted_within : ℕ → State → List ℕ → Option (List ℕ)
substituted_within zero st bytes = Some bytes
substituted_within (suc n) st [] = Some []
substituted_within (suc n) st (b ∷ bytes) =
    elim (reference_at (b ∷ bytes)) [
      | Some r ↦ token_named st r.0 >>= λ text. option_map (λ more. text ++ more) (substituted_within n st r.1)
      | None ↦ option_map (λ more. b ∷ more) (substituted_within n st bytes)
    ]

abbrev pub substituted : State → List ℕ → Option (List ℕ)
substituted st text = substituted_within (length text) st text

abbrev pub or_why : {A : Type 0} → LineWhy → Option A → Result A LineWhy
or_why reason None = Err reason
or_why reason (Some x) = Ok x

infixl 10 ◌>>◌
abbrev pub ◌>>◌ : {A B : Type 0} → Result A LineWhy → (A → Result B LineWhy) → Result B LineWhy
(Ok x) >> f = f x
(Err e) >> f = Err e

abbrev pub claims_of_tree : Result Claims TokenFault → Option Claims
claims_of_tree (Ok claims) = Some claims
claims_of_tree (Err e) = None

abbrev pub claims_in : List ℕ → Option Claims
claims_in bytes = tree_of bytes >>= λ tree. claims_of_tree (claims_in_tree tree)

-- the claims of a tree
abbrev pub post_claims : Json → Option Claims
post_claims tree = claims_of_tree (claims_in_tree tree)

-- a post: an object with claims, which may be refused, and with messages
abbrev pub post_in : ℕ → List ℕ → Result Input LineWhy
post_in slot text =
    or_why why.Form (tree_of text) >> λ tree.
    or_why why.Form (member_of tree (codes "claims")) >> λ claims.
    or_why why.Form (postings_of tree) >> λ messages.
    or_why why.Claims (post_claims claims) >> λ found.
    Ok (Post slot found messages)

abbrev pub with_setting : State → Command → Settings → State
with_setting st k settings = record st { settings = settings; given = first_word (spelling k) ∷ st.given }

-- a line with an act
abbrev pub with_act : ℕ → Act → State → State
with_act number act st = record st { steps = st.steps ++ record { number = number; step = act } ∷ []; begun = true }

abbrev pub with_step : ℕ → Step → State → State
with_step number x st = with_act number (One x) st

abbrev pub with_token : State → List ℕ → List ℕ → State
with_token st name claims = record st { tokens = (name, signed_token st.settings.secret claims) ∷ st.tokens; begun = true }

-- a poll of the changes kept
abbrev pub with_poll : ℕ → State → State
with_poll number st = with_step number (Feed (Poll st.kept)) (record st { kept = []; waiting = false })

abbrev pub with_bound : State → Bound → State
with_bound st (bound.Change ch) = record st { kept = st.kept ++ ch ∷ []; waiting = true; begun = true }
with_bound st bound.Skip = record st { waiting = true; begun = true }

abbrev pub with_tick : ℕ → ℕ → State → State
with_tick number moment st = with_step number (Feed (Tick moment)) (record st { clock = moment })

abbrev pub token_state : State → List ℕ → List ℕ → Result State LineWhy
token_state st name claims =
    or_why why.Claims (tree_of claims) >> λ _.
    or_why why.Token (some_if (not (is_some (token_named st name))) name) >> λ _.
    Ok (with_token st name claims)

-- what the lines up to a command say, or the reason against it; a record is read by `Takes` and `Refuses` below
abbrev pub state_after : State → ℕ → Command → Option (Result State LineWhy)
state_after st number (command.workers n) =
    Some (Ok (with_setting st (command.workers n) (record st.settings { workers = n })))
state_after st number (command.capacity n) =
    Some (Ok (with_setting st (command.capacity n) (record st.settings { capacity = n })))
state_after st number (command.lane n) = Some (Ok (with_setting st (command.lane n) (record st.settings { lane = n })))
state_after st number (command.inlet n) =
    Some (Ok (with_setting st (command.inlet n) (record st.settings { inlet = n })))
state_after st number (command.rows n) = Some (Ok (with_setting st (command.rows n) (record st.settings { rows = n })))
state_after st number (command.inputs n) =
    Some (Ok (with_setting st (command.inputs n) (record st.settings { inputs = n })))
state_after st number (command.max_record_bytes n) =
    Some (Ok (with_setting st (command.max_record_bytes n) (record st.settings { max_record = n })))
state_after st number (command.secret text) =
    Some (Ok (with_setting st (command.secret text) (record st.settings { secret = text })))
state_after st number command.schedule_manual = Some (Ok (record (with_setting st command.schedule_manual st.settings) { manual = true }))
state_after st number (command.token name claims) = Some (token_state st name claims)
state_after st number (command.open_ slot version claims) =
    Some (or_why why.Claims (claims_in claims) >> λ found. Ok (with_step number (Arrive (Opened slot version found)) st))
state_after st number (command.frame slot text) =
    Some (or_why why.Token (substituted st text) >> λ bytes. Ok (with_step number (Arrive (Frame slot bytes)) st))
state_after st number (command.gone slot) = Some (Ok (with_step number (Arrive (Gone slot)) st))
state_after st number (command.post slot text) = Some (post_in slot text >> λ i. Ok (with_step number (Arrive i) st))
state_after st number (command.wal record_) = None
state_after st number command.poll = Some (Ok (with_poll number st))
state_after st number (command.tick moment) =
    Some (or_why why.Clock (some_if (nat_le st.clock moment) moment) >> λ _. Ok (with_tick number moment st))
state_after st number command.stop = Some (Ok (with_step number (Feed Stop) st))
state_after st number (command.take_ slot) = Some (Ok (with_step number (Take slot) st))
state_after st number command.feed = Some (Ok (with_step number TakeFeed st))
state_after st number command.clock = Some (Ok (with_step number TakeClock st))
state_after st number (command.send l) = Some (Ok (with_step number (Send l) st))
state_after st number (command.work l) = Some (Ok (with_step number (Work l) st))
state_after st number (command.push slot) = Some (Ok (with_step number (Push slot) st))
state_after st number (command.pop slot) = Some (Ok (with_step number (Pop slot) st))
state_after st number command.drain = Some (Ok (with_act number Drain st))

-- the line of this number leads from one state to the next
pub data Takes (c : Catalog) (st : State) (number : ℕ) (line : List ℕ) : State → Type 0 where
  passes : is_passed_over line ≡ true → Takes c st number line st
  reads : {k : Command} {next : State} → is_passed_over line ≡ false → IsCommand st line k → state_after st number k ≡ Some (Ok next)
      → Takes c st number line next
  -- a record is kept for the next poll, as the change that it is bound to
  keeps : {bytes : List ℕ} {r : Record} {b : Bound}
      → IsCommand st line (command.wal bytes) → IsRecordText bytes r → change_of c r ≡ Ok b → Takes c st number line (with_bound st b)

-- the reason of a fault; want of memory is none
abbrev pub why_of : ChangeFault → Option LineWhy
why_of fault.KeyDiffers = Some why.Key
why_of (fault.ColumnUnknown name) = Some why.Column
why_of (fault.BadValue name) = Some why.Value
why_of fault.NoMemory = None

-- the line is refused, for the first reason that applies
pub data Refuses (c : Catalog) (st : State) (number : ℕ) (line : List ℕ) : LineWhy → Type 0 where
  late : is_late st line ≡ true → Refuses c st number line why.Late
  no_command : is_passed_over line ≡ false → is_late st line ≡ false → ((k : Command) → IsCommand st line k → ⊥) → Refuses c st number line why.Form
  no_meaning : {k : Command} {reason : LineWhy} → IsCommand st line k → state_after st number k ≡ Some (Err reason)
      → Refuses c st number line reason
  no_record : {bytes : List ℕ} (reason : RecordWhy) → IsCommand st line (command.wal bytes) → IsRefusedText bytes reason
      → Refuses c st number line why.Record
  unbound : {bytes : List ℕ} {r : Record} {e : ChangeFault} {reason : LineWhy}
      → IsCommand st line (command.wal bytes) → IsRecordText bytes r → change_of c r ≡ Err e → why_of e ≡ Some reason
      → Refuses c st number line reason

-- all lines from a number on, one after another
pub data TakesAll (c : Catalog) : State → ℕ → List (List ℕ) → State → Type 0 where
  no_line : {st : State} {number : ℕ} → TakesAll c st number [] st
  next_line : {st mid last : State} {number : ℕ} {line : List ℕ} {lines : List (List ℕ)}
      → Takes c st number line mid → TakesAll c mid (number + 1) lines last → TakesAll c st number (line ∷ lines) last

-- records that still wait at the end have one more poll, on the line after the last
abbrev pub with_last_poll : ℕ → State → State
with_last_poll number st = elim st.waiting [ true ↦ with_poll number st | false ↦ st ]

abbrev pub script_of : State → Script
script_of st = record { settings = st.settings; manual = st.manual; steps = st.steps }

-- the text is the script
pub record IsScript (c : Catalog) (bytes : List ℕ) (s : Script) : Type 0 where
  pub last : State
  pub lines : TakesAll c start 1 (lines_of bytes) last
  pub is : s ≡ script_of (with_last_poll (length (lines_of bytes) + 1) last)

-- the first refused line, counted from 1, and its reason
pub record IsBadLine (c : Catalog) (bytes : List ℕ) (number : ℕ) (reason : LineWhy) : Type 0 where
  pub before : List (List ℕ)
  pub line : List ℕ
  pub rest : List (List ℕ)
  pub parts : lines_of bytes ≡ before ++ line ∷ rest
  pub count : number ≡ length before + 1
  pub last : State
  pub taken : TakesAll c start 1 before last
  pub refused : Refuses c last number line reason

abbrev pub why_text : LineWhy → List ℕ
why_text why.Late = codes "late"
why_text why.Form = codes "form"
why_text why.Claims = codes "claims"
why_text why.Token = codes "token"
why_text why.Clock = codes "clock"
why_text why.Record = codes "record"
why_text why.Key = codes "key"
why_text why.Column = codes "column"
why_text why.Value = codes "value"
