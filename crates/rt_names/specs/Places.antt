-- The first place of a name in a list, and of a name within a schema.
use Rattle.std.specs.Prelude.{◌≡◌, ◌&&◌, ℕ, List, Option, option_and_then}
use Rattle.std.specs.Str.{bytes_eq}
use Rattle.std.specs.HashMap.{get_by, get_by_text}
use Rattle.std.specs.List.{position_from}
use Rattle.rt_names.specs.declared.names.Names.{Names}

-- what an index has for a name
abbrev pub place_in : Names → List ℕ → Option ℕ
place_in names q = get_by (λ k. bytes_eq q k.now) names.places

-- the first place at which a name stands
abbrev pub first_place : List (List ℕ) → List ℕ → Option ℕ
first_place names q = position_from (bytes_eq q) 0 names

-- it has the first place of each name
pub record IsIndexOf (index : Names) (names : List (List ℕ)) : Type 0 where
  pub places : (q : List ℕ) → place_in index q ≡ first_place names q
