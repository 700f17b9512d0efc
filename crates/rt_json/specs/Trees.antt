-- What a tree is, one level of it.
use Rattle.std.specs.Prelude.{ℕ, Bool, true, false, List, [], ◌∷◌, Option, Some, None}
use Rattle.rt_json.specs.declared.tree.Json.{Json, Null, Text, List', Object', Row_of-Json, end_of-Json, more_of-Json}
use Rattle.rt_json.specs.declared.tree.named.Member.{Member}
use Rattle.rt_json.specs.Grammar.{member}

-- an object's member
abbrev pub field : List ℕ → Json → Member
field name value = member name value

abbrev pub is_null : Json → Bool
is_null Null = true
is_null _ = false

abbrev pub is_object : Json → Bool
is_object (Object' shape row) = true
is_object _ = false

abbrev pub text_of : Json → Option (List ℕ)
text_of (Text t) = Some t
text_of _ = None

abbrev pub row_items : {n : _} → Row_of-Json n → List Json
row_items end_of-Json = []
row_items (more_of-Json tree rest) = tree ∷ row_items rest

-- the items of a list, none of another tree
abbrev pub list_of : Json → Option (List Json)
list_of (List' shape row) = Some (row_items row)
list_of _ = None
