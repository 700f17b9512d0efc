-- The verdict of what is sent.
use Rattle.std.proofs.Common.{◌≡◌, ℕ, Bool, true, false, ◌&&◌, not, cond, [], ◌∷◌, Option, Some, None, refl}
use Rattle.std.specs.Prelude.{option_map}
use Rattle.rt_value.specs.Choice.{first_case}
use Rattle.rt_policy.specs.declared.caller.Seen.{Seen}
use Rattle.rt_policy.specs.declared.caller.Seen.TheVariants as seen
use Rattle.rt_policy.specs.Visibility.{visibility}
use Rattle.rt_filter.specs.declared.subscription.Subscription.{Subscription}
use Rattle.rt_catalog.specs.declared.catalog.Catalog.{Catalog}
use Rattle.rt_catalog.specs.Access.{is_secured, who_is}
use Rattle.rt_change.specs.declared.change.Change.{Change}
use Rattle.rt_change.specs.declared.decision.Verdict.{Verdict}
use Rattle.rt_change.specs.declared.decision.Verdict.TheVariants.{Deliver, Error400, Error401, Denied}
use Rattle.rt_change.specs.declared.decision.Denial.TheVariants.{Event, Filter}
use Rattle.rt_change.specs.Verdicts.{Tables, asks_for, writes, lacks_key, hides_key, passes_filter, row_of}
use Rattle.rt_change.specs.Verdicts.{verdict_of_row, judged_row, verdict_of, is_sent}

-- of what is sent the verdict is a matter of the role alone
abbrev pub sent_verdict : Catalog → ℕ → Change → Verdict
sent_verdict c role ch = cond (lacks_key ch) Error400 (cond (hides_key c role ch) Error401 Deliver)

row_delivers : (o : Option Seen) → is_sent (verdict_of_row o) ≡ true → verdict_of_row o ≡ Deliver
row_delivers None e = absurd (cc)
row_delivers (Some seen.Yes) e = refl
row_delivers (Some seen.NoPolicy) e = absurd (cc)
row_delivers (Some seen.NonePermits) e = absurd (cc)
row_delivers (Some (seen.Restrictive n)) e = absurd (cc)

first_sent : (b1 b2 b3 b4 b5 : Bool) (v : Verdict) → (is_sent v ≡ true → v ≡ Deliver)
    → is_sent (first_case ((b1, Denied Event) ∷ (b2, Error400) ∷ (b3, Error401) ∷ (b4, Denied Filter) ∷ (b5, v) ∷ [])
    Deliver) ≡ true
    → first_case ((b1, Denied Event) ∷ (b2, Error400) ∷ (b3, Error401) ∷ (b4, Denied Filter) ∷ (b5, v) ∷ []) Deliver
    ≡ cond b2 Error400
    (cond b3 Error401 Deliver)
first_sent true b2 b3 b4 b5 v f e = absurd (cc)
first_sent false true b3 b4 b5 v f e = refl
first_sent false false true b4 b5 v f e = refl
first_sent false false false true b5 v f e = absurd (cc)
first_sent false false false false true v f e = f e
first_sent false false false false false v f e = refl

pub verdict_when_sent : (c : Catalog) (tables : Tables) (sub : Subscription) (ch : Change)
    → is_sent (verdict_of c tables sub ch) ≡ true
    → verdict_of c tables sub ch ≡ sent_verdict c sub.role ch
unfolding verdict_of
verdict_when_sent c tables sub ch e =
    first_sent (not (asks_for sub.wanted ch.verb)) (lacks_key ch) (hides_key c sub.role ch) (not (passes_filter sub ch))
    (writes ch.verb && is_secured c ch.table) (judged_row c tables sub ch)
    (row_delivers (option_map (visibility c.rules.tables (who_is c sub.role sub.claims) tables ch.table)
    (row_of tables ch))) e
