-- The spelling of a change, of which the bytes of what it shows are given: they stand between the pieces as they
-- are. That it is the one spelling of the change's message, where the bytes are a tree's spelling, is a law.
use Rattle.std.specs.Prelude.{ℕ, List, ◌++◌, codes}
use Rattle.std.specs.Fmt.{decimal}
use Rattle.rt_json.specs.declared.tree.Json.{Json}
use Rattle.rt_json.specs.Written.{quoted, listed, written}
use Rattle.rt_phx.specs.declared.message.Version.{Version}
use Rattle.rt_phx.specs.declared.message.Version.TheVariants.{V1, V2}

-- the object of version 1
abbrev pub spliced_object : List ℕ → List ℕ → List ℕ → List ℕ
spliced_object topic ids shown =
    (((((codes "{\"topic\":" ++ quoted topic) ++ codes ",\"event\":\"postgres_changes\",\"payload\":{\"ids\":[")
    ++ listed decimal ids) ++ codes "],\"data\":") ++ shown) ++ codes "},\"ref\":null}"

-- the list of version 2
abbrev pub spliced_list : Json → List ℕ → List ℕ → List ℕ → List ℕ
spliced_list join_ref topic ids shown =
    (((((((codes "[" ++ written join_ref) ++ codes ",null,") ++ quoted topic)
    ++ codes ",\"postgres_changes\",{\"ids\":[") ++ listed decimal ids) ++ codes "],\"data\":") ++ shown) ++ codes "}]"

-- in either version
abbrev pub spliced : Version → Json → List ℕ → List ℕ → List ℕ → List ℕ
spliced V1 join_ref topic ids shown = spliced_object topic ids shown
spliced V2 join_ref topic ids shown = spliced_list join_ref topic ids shown
