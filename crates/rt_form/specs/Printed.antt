-- The printed lines of a slot: its number, a blank, and the message's one spelling.
use Rattle.std.specs.Prelude.{ℕ, List, [], ◌∷◌, ◌++◌, flat_map}
use Rattle.std.specs.Fmt.{decimal}
use Rattle.rt_json.specs.Written.{written}
use Rattle.rt_json.specs.declared.tree.Json.{Json}

abbrev pub printed_line : ℕ → Json → List ℕ
printed_line slot message = decimal slot ++ 32 ∷ written message ++ 10 ∷ []

abbrev pub printed : ℕ → List Json → List ℕ
printed slot messages = flat_map (printed_line slot) messages
