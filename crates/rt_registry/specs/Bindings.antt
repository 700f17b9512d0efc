-- What bindings mean for a role, or the first reason against them.
use Rattle.std.specs.Prelude.{⊤, ℕ, ◌==◌, ◌+◌, nat_lt, Bool, true, false, not, if◌then◌else◌, List, [], ◌∷◌, map, length, find, codes, Option, Some, None, option_map, unwrap_or, Result, Ok, Err}
use Rattle.std.specs.List.{list_any, filter, enumerate_from}
use Rattle.std.specs.Str.{bytes_eq}
use Rattle.rt_value.specs.declared.claims.Claims.{Claims}
use Rattle.rt_value.specs.declared.value.Value.{Value}
use Rattle.rt_value.specs.Choice.{◌>>=◌, some_if, first_case}
use Rattle.rt_filter.specs.declared.filter.Shown.{Shown}
use Rattle.rt_filter.specs.declared.filter.Test.{Test}
use Rattle.rt_filter.specs.declared.filter.Filter.{Filter}
use Rattle.rt_filter.specs.declared.filter.Op.{Op}
use Rattle.rt_filter.specs.declared.fault.FilterFault.{FilterFault}
use Rattle.rt_filter.specs.declared.fault.FilterFault.TheVariants as fault
use Rattle.rt_filter.specs.declared.subscription.Wanted.{Wanted}
use Rattle.rt_filter.specs.declared.subscription.Wanted.TheVariants.{All, Insert, Update, Delete}
use Rattle.rt_filter.specs.declared.subscription.Subscription.{Subscription}
use Rattle.rt_filter.specs.Written.{filter_of}
use Rattle.rt_filter.specs.Tests.{all_read, is_opaque, test_of, test_on, test_with, value_limit}
use Rattle.rt_catalog.specs.declared.catalog.Catalog.{Catalog}
use Rattle.rt_catalog.specs.Access.{may_select, table_at, table_named, role_named}
use Rattle.rt_registry.specs.declared.binding.Binding.{Binding}
use Rattle.rt_registry.specs.declared.binding.Subscribed.{Subscribed}
use Rattle.rt_registry.specs.declared.fault.BindingWhy.{BindingWhy}
use Rattle.rt_registry.specs.declared.fault.BindingWhy.TheVariants as why
use Rattle.rt_registry.specs.declared.fault.RegistryFault.{RegistryFault}
use Rattle.rt_registry.specs.declared.fault.RegistryFault.TheVariants as registry

-- why a channel's bindings are refused. Want of memory is no reason.
pub data Refusal : Type 0 where
  unknown_role : Refusal
  -- so many bindings
  limit : ℕ → Refusal
  -- the first bad one, counted from 1
  bad_binding : ℕ → BindingWhy → Refusal

-- the fault that tells a refusal
abbrev pub fault_of : Refusal → RegistryFault
fault_of unknown_role = registry.UnknownRole
fault_of (limit n) = registry.Limit n
fault_of (bad_binding n reason) = registry.BadBinding n reason

infixl 10 ◌>>◌
abbrev pub ◌>>◌ : {A B E : Type 0} → Result A E → (A → Result B E) → Result B E
(Ok x) >> f = f x
(Err e) >> f = Err e

abbrev pub or_err : {A E : Type 0} → E → Option A → Result A E
or_err e None = Err e
or_err e (Some x) = Ok x

abbrev pub demand : {E : Type 0} → Bool → E → Result Bool E
demand true e = Ok true
demand false e = Err e

-- `*`, `INSERT`, `UPDATE` or `DELETE`
abbrev pub wanted_of : List ℕ → Option Wanted
wanted_of text =
    first_case (
    (bytes_eq text (codes "*"), Some All)
    ∷ (bytes_eq text (codes "INSERT"), Some Insert)
    ∷ (bytes_eq text (codes "UPDATE"), Some Update)
    ∷ (bytes_eq text (codes "DELETE"), Some Delete)
    ∷ []) None

-- nothing, where the text is that one
abbrev pub unless_text : List ℕ → Option (List ℕ) → Option (List ℕ)
unless_text none text = text >>= λ t. some_if (not (bytes_eq t none)) t

abbrev pub has_schema : Catalog → List ℕ → Bool
has_schema c schema = list_any (λ t. bytes_eq t.schema schema) c.tables

-- a table, or every table of the schema, which must have one
abbrev pub table_for : Catalog → List ℕ → Option (List ℕ) → Result (Option ℕ) BindingWhy
table_for c schema None = demand (has_schema c schema) why.Table >> λ _. Ok None
table_for c schema (Some name) = or_err why.Table (table_named c schema name) >> λ n. Ok (Some n)

-- the table's columns as a role sees them
abbrev pub shown_to : Catalog → ℕ → ℕ → List Shown
shown_to c role table =
    map (λ n. record { name = n.1.name; kind = n.1.kind; selectable = may_select c role table n.0 }) (enumerate_from 0 (table_at c table).columns)

-- the fault is one of the filter: want of memory is no reason
abbrev pub IsReason : FilterFault → Type 0
IsReason fault.NoMemory = ⊥
IsReason _ = ⊤

abbrev pub why_of : (e : FilterFault) → IsReason e → BindingWhy
why_of fault.ColumnHidden is = why.Column
why_of fault.Opaque is = why.Opaque
why_of (fault.TooMany n) is = why.TooMany
why_of fault.BadValue is = why.Value
why_of fault.BadFilter is = why.Filter
why_of fault.NoMemory is = absurd is

abbrev pub HasReason : Result Test FilterFault → Type 0
HasReason (Ok t) = ⊤
HasReason (Err e) = IsReason e

abbrev pub test_or_why : (r : Result Test FilterFault) → HasReason r → Result Test BindingWhy
test_or_why (Ok t) has = Ok t
test_or_why (Err e) has = Err (why_of e has)

-- no test of a filter ends for want of memory
pub test_has_reason : (f : Filter) (columns : List Shown) → HasReason (test_of f columns)
unfolding test_of
test_has_reason f columns = by_column (find (λ c. bytes_eq c.1.name f.column) (enumerate_from 0 columns))
  where
    either : (b : Bool) (x y : Result Test FilterFault) → HasReason x → HasReason y → HasReason (if b then x else y)
    either true x y h k = h
    either false x y h k = k

    read : (n : ℕ) (op : Op) (values : Option (List Value)) → HasReason (test_with n op values)
    read n op None = tt
    read n op (Some values) = tt

    by_column : (o : Option (ℕ × Shown)) → HasReason (unwrap_or (option_map (test_on f) o) (Err fault.ColumnHidden))
    by_column None = tt
    by_column (Some c) =
        either (not c.1.selectable) _ _ tt
        (either (is_opaque c.1.kind) _ _ tt
        (either (nat_lt value_limit (length f.values)) _ _ tt (read c.0 f.op (all_read c.1.kind f.values))))

-- what a filter tests on a table's columns, or the first reason against it
abbrev pub test_for : List Shown → List ℕ → Result Test BindingWhy
test_for columns text = or_err why.Filter (filter_of text) >> λ f. test_or_why (test_of f columns) (test_has_reason f columns)

-- each filter in turn
abbrev pub each_test : List Shown → List (List ℕ) → Result (List Test) BindingWhy
each_test columns [] = Ok []
each_test columns (text ∷ more) = test_for columns text >> λ t. each_test columns more >> λ ts. Ok (t ∷ ts)

-- the most filters of a binding
abbrev pub filter_limit : ℕ
filter_limit = 8

-- without a table there is no filter
abbrev pub tests_for : Catalog → ℕ → Option ℕ → List (List ℕ) → Result (List Test) BindingWhy
tests_for c role table [] = Ok []
tests_for c role None (text ∷ more) = Err why.FilterNoTable
tests_for c role (Some table) (text ∷ more) =
    demand (not (nat_lt filter_limit (length (text ∷ more)))) why.TooManyFilters >> λ _. each_test (shown_to c role table) (text ∷ more)

-- the filters of a binding: a single text that is empty is none, in a list it is one
abbrev pub filters_of : Binding → List (List ℕ)
filters_of b = elim b.listed [ true ↦ b.filters | false ↦ filter (λ text. not (bytes_eq text [])) b.filters ]

-- What a binding means for a role, or the first reason against it. An absent table and `*` are every table of the schema.
abbrev pub meaning_of_binding : Catalog → ℕ → Binding → Result Subscribed BindingWhy
meaning_of_binding c role b =
    or_err why.Event (wanted_of b.wanted) >> λ wanted.
    table_for c b.schema (unless_text (codes "*") b.table) >> λ table.
    tests_for c role table (filters_of b) >> λ tests.
    Ok (record { binding = b; wanted = wanted; table = table; tests = tests })

abbrev pub at_count : {A : Type 0} → ℕ → Result A BindingWhy → Result A Refusal
at_count n (Ok x) = Ok x
at_count n (Err reason) = Err (bad_binding n reason)

-- all of them, or the first bad one, counted from a number on
abbrev pub all_from : Catalog → ℕ → ℕ → List Binding → Result (List Subscribed) Refusal
all_from c role n [] = Ok []
all_from c role n (b ∷ more) = at_count n (meaning_of_binding c role b) >> λ s. all_from c role (n + 1) more >> λ ss. Ok (s ∷ ss)

-- the most bindings of a join
abbrev pub binding_limit : ℕ
binding_limit = 100

abbrev pub within_limit : List Binding → Result Bool Refusal
within_limit bindings = demand (not (nat_lt binding_limit (length bindings))) (limit (length bindings))

abbrev pub role_for : Catalog → Claims → Result ℕ Refusal
role_for c claims = or_err unknown_role (role_named c claims.role)

-- what a channel's bindings mean under claims, or the first reason against them: the role, their number, the first bad one
unfoldable pub bindings_for : Catalog → Claims → List Binding → Result (List Subscribed) Refusal
bindings_for c claims bindings =
    role_for c claims >> λ role.
    within_limit bindings >> λ _.
    all_from c role 1 bindings

-- a subscription of a channel: the id, and its place among the channel's bindings gives the rest
abbrev pub subscription_of : ℕ → ℕ → ℕ → Claims → ℕ × Subscribed → Subscription
subscription_of channel slot role claims b =
    record {
      id = b.0;
      channel = channel;
      slot = slot;
      wanted = b.1.wanted;
      schema = b.1.binding.schema;
      table = b.1.table;
      tests = b.1.tests;
      role = role;
      claims = claims;
    }

-- whether a subscription is of a table: it names it, or every table of its schema
abbrev pub is_of_table : Catalog → ℕ → Subscription → Bool
is_of_table c table s = unwrap_or (option_map (λ t. t == table) s.table) (bytes_eq s.schema (table_at c table).schema)

abbrev pub why_text : BindingWhy → List ℕ
why_text why.Event = codes "event"
why_text why.Table = codes "unknown table"
why_text why.FilterNoTable = codes "filter without table"
why_text why.TooManyFilters = codes "too many filters"
why_text why.Filter = codes "bad filter"
why_text why.Column = codes "column"
why_text why.Opaque = codes "opaque column"
why_text why.TooMany = codes "too many values"
why_text why.Value = codes "bad value"
