-- What the values of claims are.
use Rattle.std.specs.Prelude.{ℕ, if◌then◌else◌, List, codes, Option, Some, None}
use Rattle.rt_json.specs.declared.tree.Json.{Json, Null, Bool as Truth, Num, Text}
use Rattle.rt_json.specs.Written.{written}

-- a number that may be absent or null
pub data NumberOf : Type 0 where
  absent : NumberOf
  number : List ℕ → NumberOf
  other : NumberOf

abbrev pub number_of : Option Json → NumberOf
number_of None = absent
number_of (Some Null) = absent
number_of (Some (Num digits)) = number digits
number_of (Some tree) = other

-- a claim as a text: a text itself, a number its digits, a truth value its word, a list or an object its one spelling; null is none
abbrev pub claim_value : Json → Option (List ℕ)
claim_value Null = None
claim_value (Text t) = Some t
claim_value (Num digits) = Some digits
claim_value (Truth b) = Some (if b then codes "true" else codes "false")
claim_value tree = Some (written tree)
