-- The one spelling of a tree: no blanks, the members in order.
use Rattle.std.specs.Prelude.{ℕ, zero, suc, ◌+◌, ◌/◌, ◌%◌, ◌==◌, ◌||◌, nat_lt, if◌then◌else◌, List, [], ◌∷◌, ◌++◌, flat_map, codes}
use Rattle.rt_json.specs.declared.tree.named.Member.{Member}
use Rattle.rt_json.specs.declared.tree.Json.{Json, Null, Bool as Truth, Num, Text, List', Object', Row_of-Json, end_of-Json, more_of-Json, Row_of-Member, end_of-Member, more_of-Member}

-- a hexadecimal digit in lower case
abbrev pub hex_digit : ℕ → ℕ
hex_digit n = if nat_lt n 10 then 48 + n else 87 + n

-- a byte of a text as it is written
unfoldable pub written_byte : ℕ → List ℕ
written_byte b =
    if (b == 34) || (b == 92) then 92 ∷ b ∷ [] else
    (if b == 8 then codes "\\b" else
    (if b == 9 then codes "\\t" else
    (if b == 10 then codes "\\n" else
    (if b == 12 then codes "\\f" else
    (if b == 13 then codes "\\r" else
    (if nat_lt b 32 then codes "\\u00" ++ (hex_digit (b / 16) ∷ hex_digit (b % 16) ∷ []) else b ∷ []))))))

-- a text in quotes
abbrev pub quoted : List ℕ → List ℕ
quoted text = 34 ∷ flat_map written_byte text ++ 34 ∷ []

abbrev mutual
  pub written : Json → List ℕ
  written Null = codes "null"
  written (Truth b) = if b then codes "true" else codes "false"
  written (Num text) = text
  written (Text text) = quoted text
  written (List' shape row) = 91 ∷ items_written row ++ 93 ∷ []
  written (Object' shape row) = 123 ∷ members_written row ++ 125 ∷ []

  -- the items with commas between them
  pub items_written : {n : _} → Row_of-Json n → List ℕ
  items_written end_of-Json = []
  items_written (more_of-Json tree rest) = written tree ++ more_items_written rest

  -- each with a comma before it
  pub more_items_written : {n : _} → Row_of-Json n → List ℕ
  more_items_written end_of-Json = []
  more_items_written (more_of-Json tree rest) = 44 ∷ written tree ++ more_items_written rest

  pub members_written : {n : _} → Row_of-Member n → List ℕ
  members_written end_of-Member = []
  members_written (more_of-Member name value rest) = (quoted name ++ 58 ∷ written value) ++ more_members_written rest

  pub more_members_written : {n : _} → Row_of-Member n → List ℕ
  more_members_written end_of-Member = []
  more_members_written (more_of-Member name value rest) = 44 ∷ (quoted name ++ 58 ∷ written value) ++ more_members_written rest

-- what stands before the element at a place
abbrev pub comma_before : ℕ → List ℕ
comma_before zero = []
comma_before (suc n) = 44 ∷ []

-- elements with commas between them
abbrev pub more_listed : {X : Type 0} → (X → List ℕ) → List X → List ℕ
more_listed f [] = []
more_listed f (x ∷ xs) = 44 ∷ f x ++ more_listed f xs

abbrev pub listed : {X : Type 0} → (X → List ℕ) → List X → List ℕ
listed f [] = []
listed f (x ∷ xs) = f x ++ more_listed f xs

abbrev pub written_member : Member → List ℕ
written_member m = quoted m.name ++ 58 ∷ written m.value
