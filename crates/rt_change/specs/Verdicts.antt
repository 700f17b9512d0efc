-- What a subscription gets of a change: the first line that applies, judged on the tables at the end of the change's poll (the profile's
-- reading of WALRUS, `realtime.apply_rls`).
use Rattle.std.specs.Prelude.{ℕ, Bool, true, false, ◌&&◌, not, List, [], ◌∷◌, Option, Some, None, option_map}
use Rattle.std.specs.List.{list_all}
use Rattle.rt_value.specs.declared.value.Value.{Value}
use Rattle.rt_value.specs.declared.row.Row.{Row}
use Rattle.rt_value.specs.declared.row.Key.{Key}
use Rattle.rt_value.specs.declared.edit.Edit.{Edit}
use Rattle.rt_value.specs.declared.edit.Edit.TheVariants.{Put}
use Rattle.rt_value.specs.Choice.{◌>>=◌, first_case}
use Rattle.rt_value.specs.Rows.{row_at}
use Rattle.rt_policy.specs.declared.caller.Seen.{Seen}
use Rattle.rt_policy.specs.declared.caller.Seen.TheVariants as seen
use Rattle.rt_policy.specs.Visibility.{visibility}
use Rattle.rt_filter.specs.declared.subscription.Wanted.{Wanted}
use Rattle.rt_filter.specs.declared.subscription.Wanted.TheVariants as wanted
use Rattle.rt_filter.specs.declared.subscription.Subscription.{Subscription}
use Rattle.rt_filter.specs.Tests.{all_pass}
use Rattle.rt_catalog.specs.declared.catalog.Catalog.{Catalog}
use Rattle.rt_catalog.specs.Access.{may_select, table_at, is_secured, who_is}
use Rattle.rt_change.specs.declared.change.Verb.{Verb}
use Rattle.rt_change.specs.declared.change.Verb.TheVariants.{Insert, Update, Delete, Truncate}
use Rattle.rt_change.specs.declared.change.Change.{Change}
use Rattle.rt_change.specs.declared.decision.Verdict.{Verdict}
use Rattle.rt_change.specs.declared.decision.Verdict.TheVariants.{Deliver, Error400, Error401, Denied}
use Rattle.rt_change.specs.declared.decision.Denial.TheVariants.{Event, Filter, RowGone, NoPolicy, NonePermits, Restrictive}

-- the rows of each table, by the table's number
abbrev pub Tables : Type 0
Tables = ℕ → List Row

abbrev pub asks_for : Wanted → Verb → Bool
asks_for wanted.All v = true
asks_for wanted.Insert Insert = true
asks_for wanted.Update Update = true
asks_for wanted.Delete Delete = true
asks_for _ v = false

-- an insert or an update
abbrev pub writes : Verb → Bool
writes Insert = true
writes Update = true
writes _ = false

abbrev pub is_truncate : Verb → Bool
is_truncate Truncate = true
is_truncate _ = false

-- the record of an insert or an update names no key
abbrev pub lacks_key : Change → Bool
lacks_key ch = writes ch.verb && not ch.has_key

abbrev pub may_select_key : Catalog → ℕ → ℕ → Bool
may_select_key c role table = list_all (may_select c role table) (table_at c table).key

-- of an insert or an update the role may not SELECT some key column
abbrev pub hides_key : Catalog → ℕ → Change → Bool
hides_key c role ch = writes ch.verb && not (may_select_key c role ch.table)

-- the cells that filters ask: the new ones, of a delete the identity
abbrev pub filtered_cells : Change → List (Option Value)
filtered_cells ch = elim (writes ch.verb) [ true ↦ ch.new | false ↦ ch.old ]

abbrev pub passes_filter : Subscription → Change → Bool
passes_filter s ch = all_pass s.tests (filtered_cells ch)

abbrev pub new_key : Edit → Option Key
new_key (Put old new cells) = Some new
new_key _ = None

-- the row that stands at the change's new key
abbrev pub row_of : Tables → Change → Option Row
row_of tables ch = new_key ch.edit >>= λ key. row_at key (tables ch.table)

abbrev pub verdict_of_seen : Seen → Verdict
verdict_of_seen seen.Yes = Deliver
verdict_of_seen seen.NoPolicy = Denied NoPolicy
verdict_of_seen seen.NonePermits = Denied NonePermits
verdict_of_seen (seen.Restrictive n) = Denied (Restrictive n)

abbrev pub verdict_of_row : Option Seen → Verdict
verdict_of_row None = Denied RowGone
verdict_of_row (Some s) = verdict_of_seen s

-- an insert or an update under row security: the row has to be there, and the caller sees it
abbrev pub judged_row : Catalog → Tables → Subscription → Change → Verdict
judged_row c tables s ch =
    verdict_of_row (option_map (visibility c.rules.tables (who_is c s.role s.claims) tables ch.table) (row_of tables ch))

-- the first line that applies
unfoldable pub verdict_of : Catalog → Tables → Subscription → Change → Verdict
verdict_of c tables s ch =
    first_case (
    (not (asks_for s.wanted ch.verb), Denied Event)
    ∷ (lacks_key ch, Error400)
    ∷ (hides_key c s.role ch, Error401)
    ∷ (not (passes_filter s ch), Denied Filter)
    ∷ (writes ch.verb && is_secured c ch.table, judged_row c tables s ch)
    ∷ []) Deliver

-- the change is sent: as it is, or as an error
abbrev pub is_sent : Verdict → Bool
is_sent (Denied why) = false
is_sent _ = true
