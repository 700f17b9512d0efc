-- The bindings that a join asks for, and the texts of the reasons against them (the Realtime protocol, "Joining a
-- channel"; the reasons' texts are this project's).
use Rattle.std.specs.Prelude.{ℕ, List, ◌++◌, codes}
use Rattle.std.specs.Fmt.{decimal}
use Rattle.rt_phx.specs.Joins.{Asked}
use Rattle.rt_registry.specs.declared.binding.Binding.{Binding}
use Rattle.rt_registry.specs.Bindings.{Refusal, unknown_role, limit, bad_binding, why_text}

abbrev pub registry_text : Refusal → List ℕ
registry_text unknown_role = codes "unknown role"
registry_text (limit n) = codes "too many bindings"
registry_text (bad_binding n why) = codes "binding " ++ decimal n ++ codes ": " ++ why_text why

abbrev pub binding_of : Asked → Binding
binding_of a =
    record {
      wanted = a.event;
      schema = a.schema;
      table = a.table;
      filters = a.filters.texts;
      listed = a.filters.listed;
    }
