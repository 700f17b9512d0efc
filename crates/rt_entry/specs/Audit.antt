-- One verdict for each poll, change and subscription of its table, and the line that says it.
use Rattle.std.specs.Prelude.{ℕ, not, List, [], ◌∷◌, ◌++◌, map, length, slice_get, codes, option_map, unwrap_or}
use Rattle.std.specs.Fmt.{decimal}
use Rattle.std.specs.List.{filter, flat_map, enumerate_from}
use Rattle.rt_value.specs.declared.row.Row.{Row}
use Rattle.rt_value.specs.Choice.{◌>>=◌}
use Rattle.rt_value.specs.Tables.{rows_of_table}
use Rattle.rt_filter.specs.declared.subscription.Subscription.{Subscription}
use Rattle.rt_catalog.specs.declared.catalog.Catalog.{Catalog}
use Rattle.rt_catalog.specs.Access.{rules_at}
use Rattle.rt_registry.specs.Bindings.{is_of_table}
use Rattle.rt_change.specs.declared.change.Change.{Change}
use Rattle.rt_change.specs.declared.decision.Verdict.{Verdict}
use Rattle.rt_change.specs.declared.decision.Verdict.TheVariants.{Deliver, Error400, Error401, Denied}
use Rattle.rt_change.specs.declared.decision.Denial.{Denial}
use Rattle.rt_change.specs.declared.decision.Denial.TheVariants.{Event, Filter, RowGone, NoPolicy, NonePermits}
use Rattle.rt_change.specs.declared.decision.Denial.TheVariants.{Restrictive}
use Rattle.rt_change.specs.Verdicts.{verdict_of, is_truncate}
use Rattle.rt_entry.specs.declared.input.Input.{Input}
use Rattle.rt_entry.specs.declared.input.Input.TheVariants.{Poll}
use Rattle.rt_entry.specs.declared.input.Settings.{Settings}
use Rattle.rt_entry.specs.Story.{now_of, tables_left}
use Rattle.rt_entry.specs.Doings.{story, subscriptions}

-- the verdict on a change for a subscription: the poll's number in the journal, the change's place in the poll, its
-- table, the subscription's id
pub record Judged : Type 0 where
  pub poll : ℕ
  pub place : ℕ
  pub table : ℕ
  pub subscription : ℕ
  pub verdict : Verdict

module _ (c : Catalog) where
  abbrev pub judged_by : ℕ → List (List Row) → ℕ × Change → Subscription → Judged
  judged_by poll tables n sub =
      record {
        poll = poll;
        place = n.0;
        table = n.1.table;
        subscription = sub.id;
        verdict = verdict_of c (rows_of_table tables) sub n.1;
      }

  abbrev pub judged_change : ℕ → List (List Row) → List Subscription → ℕ × Change → List Judged
  judged_change poll tables subs n = map (judged_by poll tables n) (filter (is_of_table c n.1.table) subs)

  -- the verdicts of a poll, by what its entry holds: for each change but truncates, each subscription of its table by
  -- id
  unfoldable pub judged_poll : ℕ → List (List Row) → List Subscription → List Change → List Judged
  judged_poll poll tables subs changes =
      flat_map (judged_change poll tables subs) (filter (λ n. not (is_truncate n.1.verb)) (enumerate_from 0 changes))

  abbrev pub policy_name : ℕ → ℕ → List ℕ
  policy_name table n = unwrap_or (option_map (λ p. p.name) (rules_at c table >>= λ t. slice_get t.policies n)) []

  abbrev pub denial_text : ℕ → Denial → List ℕ
  denial_text table Event = codes "event"
  denial_text table Filter = codes "filter"
  denial_text table RowGone = codes "row gone"
  denial_text table NoPolicy = codes "no policy"
  denial_text table NonePermits = codes "none permits"
  denial_text table (Restrictive n) = codes "restrictive " ++ policy_name table n

  abbrev pub verdict_text : ℕ → Verdict → List ℕ
  verdict_text table Deliver = codes "delivered"
  verdict_text table Error400 = codes "error 400"
  verdict_text table Error401 = codes "error 401"
  verdict_text table (Denied why) = codes "denied " ++ denial_text table why

  -- the poll's number, the change's place, the subscription and the verdict, with blanks between them
  abbrev pub audit_line : Judged → List ℕ
  audit_line j = decimal j.poll ++ 32 ∷ decimal j.place ++ 32 ∷ decimal j.subscription
      ++ 32 ∷ verdict_text j.table j.verdict ++ 10 ∷ []

module _ (c : Catalog) (s : Settings) where
  abbrev pub judged_input : List Input → Input → List Judged
  judged_input before (Poll changes) =
      judged_poll c (length before) (tables_left c (story c s before) (Poll changes))
      (subscriptions (now_of (story c s before)).members) changes
  judged_input before i = []

  -- all verdicts of a journal, the first poll's first
  unfoldable pub audit : List Input → List Judged
  audit [] = []
  audit (i ∷ before) = audit before ++ judged_input before i

  abbrev pub audit_lines : List Input → List ℕ
  audit_lines journal = flat_map (audit_line c) (audit journal)
