-- Which rows a caller sees, or the first reason why not (PostgreSQL, "Row Security Policies").
use Rattle.std.specs.Prelude.{◌≡◌, ℕ, zero, suc, Bool, true, false, not, ◌&&◌, ◌||◌, ◌==◌, if◌then◌else◌, List, Option, Some, None, slice_get}
use Rattle.std.specs.List.{list_any, position_from}
use Rattle.rt_value.specs.declared.row.Row.{Row}
use Rattle.rt_policy.specs.declared.judge.Judge.{Judge}
use Rattle.rt_policy.specs.declared.tables.Policy.{Policy}
use Rattle.rt_policy.specs.declared.tables.TableRules.{TableRules}
use Rattle.rt_policy.specs.declared.caller.Seen.{Seen}
use Rattle.rt_policy.specs.declared.caller.Seen.TheVariants.{Yes, NoPolicy, NonePermits, Restrictive}
use Rattle.rt_policy.specs.declared.judge.Truth.{Truth}
use Rattle.rt_policy.specs.Truth.{is_true}
use Rattle.rt_policy.specs.Worth.{Who, View, truth}
use Rattle.rt_policy.specs.Ranks.{rank_of}

abbrev pub is_yes : Seen → Bool
is_yes Yes = true
is_yes _ = false

-- the roles have the role, or are PUBLIC
abbrev pub lists : ℕ → Option (List ℕ) → Bool
lists role None = true
lists role (Some roles) = list_any (λ r. r == role) roles

-- a policy applies where it is for ALL or SELECT and lists the role or is for PUBLIC
abbrev pub applies : Who → Policy → Bool
applies who p = p.selects && lists who.role p.roles

abbrev pub is_met : Who → View → Row → Option Judge → Bool
is_met who view row None = false
is_met who view row (Some j) = is_true (truth who view j row)

-- the policy's expression is true of the row; false and unknown are not
abbrev pub passes : Who → View → Row → Policy → Bool
passes who view row p = is_met who view row p.judge

abbrev pub permits : Who → View → Row → Policy → Bool
permits who view row p = applies who p && not p.restrictive && passes who view row p

abbrev pub refuses : Who → View → Row → Policy → Bool
refuses who view row p = applies who p && p.restrictive && not (passes who view row p)

abbrev pub refused_by : Option ℕ → Seen
refused_by None = Yes
refused_by (Some n) = Restrictive n

-- what the policies, in the order of their names, say of a row: none applies, no permissive one is true, the first restrictive one
-- that isn't true, or yes
abbrev pub judged : Who → View → Row → List Policy → Seen
judged who view row policies =
    if not (list_any (applies who) policies) then NoPolicy
    else (if not (list_any (permits who view row) policies) then NonePermits
    else refused_by (position_from (refuses who view row) 0 policies))

-- without row security, or where the role bypasses it, every row is seen
abbrev pub seen_at : Who → View → Row → Option TableRules → Seen
seen_at who view row None = NoPolicy
seen_at who view row (Some t) = if not t.secured || who.bypass then Yes else judged who view row t.policies

-- whether a row is seen, where the subqueries go by the view
abbrev pub seen_by : List TableRules → Who → View → ℕ → Row → Seen
seen_by tables who view table row = seen_at who view row (slice_get tables table)

-- the same, where tables from the rank on show nothing
abbrev pub visibility_within : ℕ → List TableRules → Who → (ℕ → List Row) → ℕ → Row → Seen
visibility_within zero tables who rows table row = NoPolicy
visibility_within (suc n) tables who rows table row =
    seen_by tables who (record { rows = rows; sees = λ t r. is_yes (visibility_within n tables who rows t r) }) table row

-- Whether who asks sees the row of the table, or the first reason why not. Tables lead to each other in no ring, so the table's rank says
-- how deep subqueries go. That this meets `IsVisibility`, and nothing else does, is a law.
unfoldable pub visibility : List TableRules → Who → (ℕ → List Row) → ℕ → Row → Seen
visibility tables who rows table row = visibility_within (suc (rank_of tables table)) tables who rows table row

-- the rows, and which of them are seen by a rule
abbrev pub view_by : (ℕ → List Row) → (ℕ → Row → Seen) → View
view_by rows seen = record { rows = rows; sees = λ t r. is_yes (seen t r) }

-- what is visible is what the policies say, where a subquery reads the rows that the same caller sees by the same rule
abbrev pub IsVisibility : List TableRules → Who → (ℕ → List Row) → (ℕ → Row → Seen) → Type 0
IsVisibility tables who rows seen = (table : ℕ) (row : Row) → seen table row ≡ seen_by tables who (view_by rows seen) table row

-- the rows, and which of them who asks sees
abbrev pub view_of : List TableRules → Who → (ℕ → List Row) → View
view_of tables who rows = view_by rows (visibility tables who rows)

-- the truth of an expression, where a subquery reads the rows that who asks sees
abbrev pub truth_for : List TableRules → Who → (ℕ → List Row) → Judge → Row → Truth
truth_for tables who rows = truth who (view_of tables who rows)
