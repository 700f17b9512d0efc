-- How texts of the two kinds that are shown otherwise are shown.
use Rattle.std.specs.Prelude.{ℕ, Bool, true, false, List, option_map, unwrap_or}
use Rattle.rt_value.specs.declared.value.Kind.{Kind}
use Rattle.rt_value.specs.declared.value.Kind.TheVariants as kind
use Rattle.rt_value.specs.Moments.{moment_in_text, moment_shown}
use Rattle.rt_json.specs.declared.tree.Json.{Json, Text}
use Rattle.rt_json.specs.Machine.{tree_of}

abbrev pub moment_face : List ℕ → Json
moment_face t = unwrap_or (option_map (λ m. Text (moment_shown m)) (moment_in_text t)) (Text t)

abbrev pub json_face : List ℕ → Json
json_face t = unwrap_or (tree_of t) (Text t)

-- every tree is of the kind
abbrev pub takes_all : Kind → Bool
takes_all kind.Json = true
takes_all kind.Opaque = true
takes_all _ = false
