-- What an object has under a name.
use Rattle.std.specs.Prelude.{ℕ, List, [], ◌∷◌, Option, Some, None, if◌then◌else◌}
use Rattle.std.specs.Str.{bytes_eq}
use Rattle.std.specs.Option.{option_or}
use Rattle.rt_json.specs.Grammar.{member}
use Rattle.rt_json.specs.declared.tree.Json.{Json, Object', Row_of-Member, end_of-Member, more_of-Member}
use Rattle.rt_json.specs.declared.tree.named.Member.{Member}

abbrev pub row_members : {n : _} → Row_of-Member n → List Member
row_members end_of-Member = []
row_members (more_of-Member name value rest) = member name value ∷ row_members rest

-- the members of an object, and none of another tree
abbrev pub members_of : Json → List Member
members_of (Object' shape row) = row_members row
members_of _ = []

-- the value of the last member of the name
abbrev pub last_named : List ℕ → List Member → Option Json
last_named name [] = None
last_named name (m ∷ ms) = option_or (last_named name ms) (if bytes_eq m.name name then Some m.value else None)

abbrev pub member_of : Json → List ℕ → Option Json
member_of tree name = last_named name (members_of tree)
