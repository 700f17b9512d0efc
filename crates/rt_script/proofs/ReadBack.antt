-- A line is one command at most: each is read back from its spelling.
use Rattle.std.proofs.Common.{◌≡◌, ℕ, ◌<◌, ◌≤◌, ◌^◌, Bool, true, false, List, [], ◌∷◌, ◌++◌, refl, sym, ap, ap₂, ◌∙◌}
use Rattle.std.proofs.Common.{arith, append_assoc}
use Rattle.std.specs.Prelude.{◌&&◌, codes, length, nat_lt}
use Rattle.std.specs.Char.{is_ascii_alphanumeric}
use Rattle.std.specs.Fmt.{decimal}
use Rattle.std.specs.List.{list_all}
use Rattle.std.specs.Str.{bytes_eq}
use Rattle.std.specs.Str.Parse.{digits_value}
use Rattle.rt_phx.specs.declared.message.Version.{Version}
use Rattle.rt_phx.specs.declared.message.Version.TheVariants.{V1, V2}
use Rattle.rt_entry.specs.declared.input.Settings.{Settings}
use Rattle.rt_script.specs.Commands.{Command, spelling, version_text, IsInRange, is_name}
use Rattle.rt_script.specs.Commands.{workers, capacity, lane, inlet, rows, inputs, max_record_bytes, secret}
use Rattle.rt_script.specs.Commands.{schedule_manual, token, open_, frame, gone, post, wal, poll, tick, stop, take_}
use Rattle.rt_script.specs.Commands.{feed, clock, send, work, push, pop, drain}
use Rattle.rt_script.specs.Reading.{State, IsCommand}
use Rattle.rt_script.proofs.Blanks.{word_of, rest_of, word_before, rest_behind, decimal_unbroken}
use Rattle.rt_script.proofs.Blanks.{decimal_value, name_unbroken}

abbrev number : List ℕ → ℕ
number bytes = digits_value 10 bytes

abbrev version_in : List ℕ → Version
version_in word = elim (bytes_eq word (codes "1.0.0")) [ true ↦ V1 | false ↦ V2 ]

-- a word, and the command that is made of what stands behind it
record Form : Type 0 where
  word : List ℕ
  make : List ℕ → Command

abbrev numbered : List ℕ → (ℕ → Command) → Form
numbered word make = record { word = word; make = λ rest. make (number rest) }

abbrev alone : List ℕ → Command → Form
alone word it = record { word = word; make = λ rest. it }

abbrev behind_slot : (ℕ → List ℕ → Command) → List ℕ → Command
behind_slot make rest = make (number (word_of rest)) (rest_of rest)

abbrev opened : ℕ → List ℕ → Command
opened slot rest = open_ slot (version_in (word_of rest)) (rest_of rest)

unfoldable forms : List Form
forms =
    numbered (codes "workers") workers
    ∷ numbered (codes "capacity") capacity
    ∷ numbered (codes "lane") lane
    ∷ numbered (codes "inlet") inlet
    ∷ numbered (codes "rows") rows
    ∷ numbered (codes "inputs") inputs
    ∷ numbered (codes "max_record_bytes") max_record_bytes
    ∷ record { word = codes "secret"; make = secret }
    ∷ alone (codes "schedule") schedule_manual
    ∷ record { word = codes "token"; make = λ rest. token (word_of rest) (rest_of rest) }
    ∷ record { word = codes "open"; make = behind_slot opened }
    ∷ record { word = codes "frame"; make = behind_slot frame }
    ∷ numbered (codes "gone") gone
    ∷ record { word = codes "post"; make = behind_slot post }
    ∷ record { word = codes "wal"; make = wal }
    ∷ numbered (codes "tick") tick
    ∷ alone (codes "stop") stop
    ∷ numbered (codes "take") take_
    ∷ alone (codes "feed") feed
    ∷ alone (codes "clock") clock
    ∷ numbered (codes "send") send
    ∷ numbered (codes "work") work
    ∷ numbered (codes "push") push
    ∷ numbered (codes "pop") pop
    ∷ alone (codes "drain") drain
    ∷ []

unfoldable command_in : List Form → List ℕ → List ℕ → Command
command_in [] word rest = poll
command_in (f ∷ fs) word rest = elim (bytes_eq word f.word) [ true ↦ f.make rest | false ↦ command_in fs word rest ]

unfoldable read : List ℕ → Command
read line = command_in forms (word_of line) (rest_of line)

-- a slot and what stands behind it
slotted : (make : ℕ → List ℕ → Command) (slot : ℕ) (rest : List ℕ) → slot < 2 ^ 64
    → behind_slot make (decimal slot ++ 32 ∷ rest) ≡ make slot rest
slotted make slot rest small =
    ap₂ make (ap number (word_before (decimal slot) rest (decimal_unbroken slot small)) ∙ decimal_value slot small)
    (rest_behind (decimal slot) rest (decimal_unbroken slot small))

version_read : (v : Version) (rest : List ℕ) → version_in (word_of (version_text v ++ 32 ∷ rest)) ≡ v
unfolding word_of
version_read V1 rest = refl
version_read V2 rest = refl

version_passed : (v : Version) (rest : List ℕ) → rest_of (version_text v ++ 32 ∷ rest) ≡ rest
unfolding rest_of
version_passed V1 rest = refl
version_passed V2 rest = refl

name_parts : (name : List ℕ) → is_name name ≡ true → list_all is_ascii_alphanumeric name ≡ true
name_parts name e = second (nat_lt 0 (length name)) e
  where
    second : (some : Bool) → (some && list_all is_ascii_alphanumeric name) ≡ true
        → list_all is_ascii_alphanumeric name ≡ true
    second true e = e
    second false e = absurd cc

low : (n m : ℕ) → n ≤ m → m < 2 ^ 64 → n < 2 ^ 64
low n m a b = omega (arith, a, b)

-- what is spelled is read back, where the lanes are few
reads : (s : Settings) (k : Command) → s.workers ≤ 16 → IsInRange s k → read (spelling k) ≡ k
unfolding read command_in forms word_of rest_of
reads s (workers n) few (a, b) = ap workers (decimal_value n (low n 16 b (omega arith)))
reads s (capacity n) few (a, b) = ap capacity (decimal_value n (low n 4096 b (omega arith)))
reads s (lane n) few (a, b) = ap lane (decimal_value n (low n 4096 b (omega arith)))
reads s (inlet n) few (a, b) = ap inlet (decimal_value n (low n 4096 b (omega arith)))
reads s (rows n) few (a, b) = ap rows (decimal_value n (low n 1000000 b (omega arith)))
reads s (inputs n) few (a, b) = ap inputs (decimal_value n (low n 4294967295 b (omega arith)))
reads s (max_record_bytes n) few (a, b) = ap max_record_bytes (decimal_value n (low n 67108864 b (omega arith)))
reads s (secret text) few r = refl
reads s schedule_manual few r = refl
reads s (token name claims) few r =
    let u = name_unbroken name (name_parts name r) in
    ap₂ token (word_before name claims u) (rest_behind name claims u)
reads s (open_ slot version claims) few r =
    ap (behind_slot opened) (append_assoc (decimal slot) (32 ∷ version_text version) (32 ∷ claims))
    ∙ slotted opened slot (version_text version ++ 32 ∷ claims) (low slot 255 r (omega arith))
    ∙ ap₂ (open_ slot) (version_read version claims) (version_passed version claims)
reads s (frame slot text) few r = slotted frame slot text (low slot 255 r (omega arith))
reads s (gone slot) few r = ap gone (decimal_value slot (low slot 255 r (omega arith)))
reads s (post slot text) few r = slotted post slot text (low slot 255 r (omega arith))
reads s (wal bytes) few r = refl
reads s poll few r = refl
reads s (tick moment) few r = ap tick (decimal_value moment r)
reads s stop few r = refl
reads s (take_ slot) few r = ap take_ (decimal_value slot (low slot 255 r (omega arith)))
reads s feed few r = refl
reads s clock few r = refl
reads s (send l) few r = ap send (decimal_value l (omega (arith, few, r)))
reads s (work l) few r = ap work (decimal_value l (omega (arith, few, r)))
reads s (push slot) few r = ap push (decimal_value slot (low slot 255 r (omega arith)))
reads s (pop slot) few r = ap pop (decimal_value slot (low slot 255 r (omega arith)))
reads s drain few r = refl

-- so a line is one command at most
pub one_command : (st : State) (line : List ℕ) (a b : Command) → st.settings.workers ≤ 16
    → IsCommand st line a → IsCommand st line b → a ≡ b
one_command st line a b few x y =
    sym (reads st.settings a few x.ranges) ∙ ap read (sym x.is ∙ y.is) ∙ reads st.settings b few y.ranges
