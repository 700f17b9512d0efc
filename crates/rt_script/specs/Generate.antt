-- The generated run: a catalogue, and a script of 64 slots and 1000 polls that a number decides.
use Rattle.std.specs.Prelude.{ℕ, zero, suc, ◌==◌, ◌+◌, ◌*◌, ◌/◌, ◌%◌, ◌^◌, nat_lt, Bool, true, false, List, [], ◌∷◌, ◌++◌, codes}
use Rattle.std.specs.Fmt.{decimal}
use Rattle.std.specs.List.{flat_map, range_with_len}

abbrev pub generated_catalogue : List ℕ
generated_catalogue =
    codes "create table g (id int4 primary key, owner uuid, tag int4); create role authenticated; grant select on g to authenticated; alter table g enable row level security; create policy own on g using (auth.uid() = owner);"

-- a draw below m is what the next state has above its low 33 bits, modulo m
abbrev pub next_state : ℕ → ℕ
next_state x = (x * 6364136223846793005 + 1442695040888963407) % 2 ^ 64

abbrev pub draw : ℕ → ℕ → ℕ
draw m x = (x / 2 ^ 33) % m

abbrev pub hex_digit : ℕ → ℕ
hex_digit n = elim (nat_lt n 10) [ true ↦ 48 + n | false ↦ 87 + n ]

-- the uuid of a number below 256
abbrev pub uuid_text : ℕ → List ℕ
uuid_text n = codes "00000000-0000-4000-8000-0000000000" ++ hex_digit (n / 16) ∷ hex_digit (n % 16) ∷ []

abbrev pub is_even : ℕ → Bool
is_even n = n % 2 == 0

abbrev pub open_line : ℕ → List ℕ
open_line slot =
    codes "open " ++ decimal slot ++ (elim (is_even slot) [ true ↦ codes " 1.0.0 " | false ↦ codes " 2.0.0 " ])
    ++ codes "{\"role\":\"authenticated\",\"sub\":\"" ++ uuid_text slot ++ codes "\"}\n"

abbrev pub join_payload : ℕ → List ℕ
join_payload slot =
    codes "{\"config\":{\"presence\":{\"enabled\":false},\"postgres_changes\":[{\"event\":\"*\",\"schema\":\"public\",\"table\":\"g\",\"filter\":\"tag=eq."
    ++ decimal (slot % 8) ++ codes "\"}]}}"

abbrev pub join_text : ℕ → List ℕ
join_text slot =
    elim (is_even slot) [
      | true ↦ codes "{\"topic\":\"realtime:g\",\"event\":\"phx_join\",\"payload\":" ++ join_payload slot ++ codes ",\"ref\":\"1\"}"
      | false ↦ codes "[\"1\",\"1\",\"realtime:g\",\"phx_join\"," ++ join_payload slot ++ codes "]"
    ]

abbrev pub join_line : ℕ → List ℕ
join_line slot = codes "frame " ++ decimal slot ++ 32 ∷ join_text slot ++ 10 ∷ []

abbrev pub fields_text : ℕ → ℕ → ℕ → List ℕ
fields_text id owner tag =
    codes "[{\"name\":\"id\",\"type\":\"integer\",\"value\":" ++ decimal id ++ codes "},{\"name\":\"owner\",\"type\":\"uuid\",\"value\":\"" ++ uuid_text owner
    ++ codes "\"},{\"name\":\"tag\",\"type\":\"integer\",\"value\":" ++ decimal tag ++ codes "}]"

-- two kinds of four are inserts, one is an update, one a delete
abbrev pub action_text : ℕ → List ℕ
action_text kind = elim (nat_lt kind 2) [ true ↦ codes "I" | false ↦ elim (kind == 2) [ true ↦ codes "U" | false ↦ codes "D" ] ]

abbrev pub list_name : ℕ → List ℕ
list_name kind = elim (nat_lt kind 3) [ true ↦ codes "columns" | false ↦ codes "identity" ]

abbrev pub record_line : ℕ → ℕ → ℕ → ℕ → List ℕ
record_line kind id owner tag =
    codes "wal {\"action\":\"" ++ action_text kind ++ codes "\",\"schema\":\"public\",\"table\":\"g\",\"" ++ list_name kind ++ codes "\":" ++ fields_text id owner tag
    ++ codes ",\"pk\":[{\"name\":\"id\",\"type\":\"integer\"}]}\n"

-- the kind, the id, the owner and the tag are drawn in this order
abbrev pub drawn_line : ℕ → List ℕ
drawn_line x =
    let a = next_state x in let b = next_state a in let c = next_state b in let d = next_state c in
    record_line (draw 4 a) (draw 500 b) (draw 64 c) (draw 8 d)

abbrev pub state_after : ℕ → ℕ → ℕ
state_after zero x = x
state_after (suc n) x = state_after n (next_state x)

abbrev pub drawn_lines : ℕ → ℕ → List ℕ
drawn_lines zero x = codes "poll\n"
drawn_lines (suc n) x = drawn_line x ++ drawn_lines n (state_after 4 x)

-- polls of ten records
abbrev pub drawn_polls : ℕ → ℕ → List ℕ
drawn_polls zero x = []
drawn_polls (suc n) x = drawn_lines 10 x ++ drawn_polls n (state_after 40 x)

abbrev pub slots : List ℕ
slots = range_with_len 0 64

unfoldable pub generated_script : ℕ → List ℕ
generated_script number = codes "workers 4\n" ++ flat_map open_line slots ++ flat_map join_line slots ++ drawn_polls 1000 number
