-- The first place of a name within a schema.
use Rattle.std.specs.Prelude.{◌≡◌, ◌&&◌, ℕ, Bool, List, Option, Some, None}
use Rattle.std.specs.Str.{bytes_eq}
use Rattle.std.specs.HashMap.{HashMap, get_by_text}
use Rattle.std.specs.List.{position_from}
use Rattle.std.specs.Prelude.{String}
use Rattle.rt_names.specs.declared.numbers.Numbers.{Numbers}

-- what a schema's names, where there are any, have for a name
abbrev pub number_of : {A S : Type 0} → Option (HashMap (String A) ℕ S) → List ℕ → Option ℕ
number_of None q = None
number_of (Some names) q = get_by_text names q

-- what an index has for a schema and a name
abbrev pub number_in : Numbers → List ℕ → List ℕ → Option ℕ
number_in numbers schema name = number_of (get_by_text numbers.schemas schema) name

-- it is the name of the schema
abbrev pub is_within : List ℕ → List ℕ → List ℕ × List ℕ → Bool
is_within schema name other = bytes_eq other.0 schema && bytes_eq other.1 name

-- it has the first place of each name within each schema
pub record IsNumbered (numbers : Numbers) (names : List (List ℕ × List ℕ)) : Type 0 where
  pub places : (schema name : List ℕ)
      → number_in numbers schema name ≡ position_from (is_within schema name) 0 names
