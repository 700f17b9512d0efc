-- What a filter tests on a table's columns, and which cells pass.
use Rattle.std.specs.Prelude.{ℕ, nat_lt, Bool, true, false, not, if◌then◌else◌, List, [], ◌∷◌, length, slice_get, find, Option, Some, None, option_map, unwrap_or, Result, Ok, Err}
use Rattle.std.specs.List.{list_all, list_any, enumerate_from}
use Rattle.std.specs.Str.{bytes_eq}
use Rattle.std.specs.declared.cmp.Ordering.{Ordering}
use Rattle.std.specs.declared.cmp.Ordering.TheVariants.{Less, Equal, Greater}
use Rattle.rt_value.specs.declared.value.Value.{Value}
use Rattle.rt_value.specs.declared.value.Kind.{Kind}
use Rattle.rt_value.specs.declared.value.Kind.TheVariants as kind
use Rattle.rt_value.specs.Choice.{◌>>=◌, is_at, first_case}
use Rattle.rt_value.specs.Order.{compared}
use Rattle.rt_value.specs.Reading.{value_in_text}
use Rattle.rt_filter.specs.declared.filter.Op.{Op}
use Rattle.rt_filter.specs.declared.filter.Op.TheVariants.{Eq, Neq, Lt, Lte, Gt, Gte, OneOf}
use Rattle.rt_filter.specs.declared.filter.Filter.{Filter}
use Rattle.rt_filter.specs.declared.filter.Test.{Test}
use Rattle.rt_filter.specs.declared.filter.Shown.{Shown}
use Rattle.rt_filter.specs.declared.fault.FilterFault.{FilterFault}
use Rattle.rt_filter.specs.declared.fault.FilterFault.TheVariants.{ColumnHidden, Opaque, TooMany, BadValue}

-- whether the order of a cell and a value is one that the operator asks for
abbrev pub stands : Op → Ordering → Bool
stands Eq Equal = true
stands Neq Less = true
stands Neq Greater = true
stands Lt Less = true
stands Lte Less = true
stands Lte Equal = true
stands Gt Greater = true
stands Gte Greater = true
stands Gte Equal = true
stands OneOf Equal = true
stands _ _ = false

-- the cell stands so to one of the values; a null compares with none
abbrev pub passes_cell : Test → Value → Bool
passes_cell test cell = list_any (λ v. is_at (stands test.op) (compared cell v)) test.values

-- the cell is there, isn't null, and stands to the values as the operator says
abbrev pub passes : Test → List (Option Value) → Bool
passes test cells = is_at (is_at (passes_cell test)) (slice_get cells test.column)

-- every test passes; without tests, every change does
abbrev pub all_pass : List Test → List (Option Value) → Bool
all_pass tests cells = list_all (λ t. passes t cells) tests

-- the most values that a filter may have
abbrev pub value_limit : ℕ
value_limit = 100

-- values of the kind aren't judged
abbrev pub is_opaque : Kind → Bool
is_opaque kind.Opaque = true
is_opaque kind.Json = true
is_opaque _ = false

-- each text read in a kind
abbrev pub all_read : Kind → List (List ℕ) → Option (List Value)
all_read k [] = Some []
all_read k (t ∷ ts) = value_in_text k t >>= λ v. option_map (λ vs. v ∷ vs) (all_read k ts)

abbrev pub test_with : ℕ → Op → Option (List Value) → Result Test FilterFault
test_with column op None = Err BadValue
test_with column op (Some values) = Ok (record { column = column; op = op; values = values })

abbrev pub test_on : Filter → ℕ × Shown → Result Test FilterFault
test_on f c =
    first_case (
    (not c.1.selectable, Err ColumnHidden)
    ∷ (is_opaque c.1.kind, Err Opaque)
    ∷ (nat_lt value_limit (length f.values), Err (TooMany (length f.values)))
    ∷ []) (test_with c.0 f.op (all_read c.1.kind f.values))

-- the test of a filter on a table's columns, or the first reason why it doesn't fit
unfoldable pub test_of : Filter → List Shown → Result Test FilterFault
test_of f columns = unwrap_or (option_map (test_on f) (find (λ c. bytes_eq c.1.name f.column) (enumerate_from 0 columns))) (Err ColumnHidden)
