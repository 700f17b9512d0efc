-- What the closed lists say by memberships, and that without these they say what is written.
use Rattle.std.specs.Prelude.{◌≡◌, ◌⊎◌, ◌↔◌, ℕ, ◌==◌, Bool, true, false, ◌&&◌, List, [], map, slice_get, Option, Some}
use Rattle.std.specs.Prelude.{None}
use Rattle.std.specs.List.{list_any, filter}
use Rattle.rt_value.specs.Ordered.{in_order}
use Rattle.rt_policy.specs.declared.tables.TableRules.{TableRules}
use Rattle.rt_policy.specs.Worth.{Who}
use Rattle.rt_policy.specs.Visibility.{lists, applies}
use Rattle.rt_catalog.specs.declared.catalog.Catalog.{Catalog}
use Rattle.rt_catalog.specs.declared.catalog.Grant.{Grant}
use Rattle.rt_catalog.specs.declared.statement.Statement.{Statement}
use Rattle.rt_catalog.specs.declared.statement.Statement.TheVariants as statement
use Rattle.rt_catalog.specs.Access.{is_or_every, may_select}
use Rattle.rt_catalog.specs.Lists.{Lists, TablePolicy, same_option, is_number}
use Rattle.rt_catalog.specs.Memberships.{IsUnder, policy_with_heirs, closed}
use Rattle.rt_catalog.specs.Refusals.{lists_permit}
use Rattle.rt_catalog.specs.Catalogue.{IsCatalogue, name_cmp}

-- the row is of the table, of the column or the whole table, and of exactly this role; None is PUBLIC
abbrev pub is_row_for : Option ℕ → ℕ → ℕ → Grant → Bool
is_row_for role table column g = g.table == table && is_or_every g.column column && same_option is_number g.role role

abbrev pub was_granted : Lists → Option ℕ → ℕ → ℕ → Bool
was_granted l role table column = list_any (is_row_for role table column) l.grants

-- PUBLIC was granted it, or some role that the role is under
abbrev pub IsGranted : Lists → ℕ → ℕ → ℕ → Type 0
IsGranted l role table column =
    (was_granted l None table column ≡ true)
    ⊎ ((other : ℕ) × IsUnder l role other × (was_granted l (Some other) table column ≡ true))

-- exactly then the role may SELECT the column
abbrev pub ClosedSelects : Type 0
ClosedSelects = (l : Lists) (role table column : ℕ)
    → (lists_permit (closed l) role table column ≡ true) ↔ IsGranted l role table column

abbrev pub Selectable : Type 0
Selectable =
    (text : List ℕ) (c : Catalog) (is : IsCatalogue text c) (role table column : ℕ) →
    (may_select c role table column ≡ true) ↔ IsGranted is.lists role table column

-- a policy is for PUBLIC, or lists a role that the role is under
abbrev pub IsFor : Lists → ℕ → Option (List ℕ) → Type 0
IsFor l role None = Unit {0}
IsFor l role (Some roles) = (other : ℕ) × IsUnder l role other × (lists other (Some roles) ≡ true)

-- exactly then it applies to the role, where it is for ALL or SELECT
abbrev pub ClosedApplies : Type 0
ClosedApplies =
    (l : Lists) (p : TablePolicy) (who : Who) →
    (applies who (policy_with_heirs l p).policy ≡ true) ↔ ((p.policy.selects ≡ true) × IsFor l who.role p.policy.roles)

-- such policies are those of a catalogue
abbrev pub PoliciesAreClosed : Type 0
PoliciesAreClosed =
    (text : List ℕ) (c : Catalog) (is : IsCatalogue text c) (table : ℕ) (rules : TableRules) →
    slice_get c.rules.tables table ≡ Some rules →
    rules.policies ≡ in_order name_cmp
    (map (λ p. (policy_with_heirs is.lists p).policy) (filter (λ p. p.table == table) is.lists.policies))

abbrev pub is_membership : Statement → Bool
is_membership (statement.Member groups roles) = true
is_membership _ = false

-- without memberships the closed lists are the written ones
abbrev pub ClosedIsWritten : Type 0
ClosedIsWritten = (l : Lists) → l.memberships ≡ [] → closed l ≡ l

abbrev pub TextsAreClosed : Type 0
TextsAreClosed =
    (text : List ℕ) (c : Catalog) (is : IsCatalogue text c) → list_any (λ s. is_membership s.statement) is.file ≡ false
    → closed is.lists ≡ is.lists
