-- What is told of bindings: their role and what they mean, or the fault.
use Rattle.std.specs.Prelude.{ℕ, Bool, ◌&&◌, ◌||◌, not, List, [], Result, Ok, Err}
use Rattle.std.specs.Str.{bytes_eq}
use Rattle.rt_value.specs.declared.claims.Claims.{Claims}
use Rattle.rt_filter.specs.declared.filter.Shown.{Shown}
use Rattle.rt_catalog.specs.declared.catalog.Catalog.{Catalog}
use Rattle.rt_catalog.specs.declared.catalog.Column.{Column}
use Rattle.rt_catalog.specs.declared.catalog.Table.{Table}
use Rattle.rt_catalog.specs.Access.{may_select}
use Rattle.rt_registry.specs.declared.binding.Binding.{Binding}
use Rattle.rt_registry.specs.declared.binding.Subscribed.{Subscribed}
use Rattle.rt_registry.specs.declared.fault.RegistryFault.{RegistryFault}
use Rattle.rt_registry.specs.Bindings.{Refusal, fault_of, ◌>>◌, bindings_for, role_for}

-- a table of the schema and the name
abbrev pub is_named : List ℕ → List ℕ → ℕ × Table → Bool
is_named schema name t = bytes_eq t.1.schema schema && bytes_eq t.1.name name

-- a column as a role sees it
abbrev pub shown_column : Catalog → ℕ → ℕ → ℕ × Column → Shown
shown_column c role table n = record { name = n.1.name; kind = n.1.kind; selectable = may_select c role table n.0 }

-- a filter asks for something: each of a list, and else each text that isn't empty
abbrev pub is_asked : Bool → List ℕ → Bool
is_asked listed text = listed || not (bytes_eq text [])

-- the answer, with the fault that tells the refusal
abbrev pub told : {A : Type 0} → Result A Refusal → Result A RegistryFault
told (Ok x) = Ok x
told (Err e) = Err (fault_of e)

-- the role of the claims and what the bindings mean for it, or the fault
abbrev pub meant : Catalog → Claims → List Binding → Result (ℕ × List Subscribed) RegistryFault
meant c claims bindings =
    told (role_for c claims >> λ role. bindings_for c claims bindings >> λ ss. Ok (role, ss))
