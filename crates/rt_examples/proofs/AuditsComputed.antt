-- Computed; where a policy is asked, by what it is of the row.
use Rattle.std.proofs.Common.{◌≡◌, ℕ, List, [], ◌∷◌, ◌++◌, refl, ap, ap₂, ◌∙◌}
use Rattle.std.specs.Prelude.{codes}
use Rattle.std.specs.List.{flat_map}
use Rattle.rt_policy.specs.declared.caller.Seen.{Seen}
use Rattle.rt_policy.specs.declared.caller.Seen.TheVariants.{Yes}
use Rattle.rt_policy.specs.Visibility.{visibility}
use Rattle.rt_change.specs.declared.change.Change.{Change}
use Rattle.rt_change.specs.Verdicts.{verdict_of_seen}
use Rattle.rt_entry.specs.declared.input.Input.TheVariants.{Poll}
use Rattle.rt_entry.specs.declared.story.Member.{Member}
use Rattle.rt_entry.specs.Audit.{Judged, audit, audit_line, audit_lines, judged_input, judged_poll}
use Rattle.rt_entry.specs.Doings.{story, subscriptions}
use Rattle.rt_entry.specs.Story.{now_of, tables_left}
use Rattle.rt_examples.proofs.IdentitiesComputed.{who, rows, row_at_end, row_is_seen}
use Rattle.rt_examples.proofs.Polls.{members_after_poll}
use Rattle.rt_examples.specs.Audits.{FirstRunIsAudited, RenewalIsAudited, FiltersAreAudited, DeletesAreAudited}
use Rattle.rt_examples.specs.Audits.{ErrorsAreAudited, HiddenKeyIsAudited}
use Rattle.rt_examples.specs.Audits.{UpdateIsAudited, IdentityIsAudited, KeptRowIsAudited}
use Rattle.rt_examples.specs.Computes.{computes, token_computes}
use Rattle.rt_examples.specs.Identities.{hi_notes, hi_rules, joined, inserted, with_identity, without_identity}
use Rattle.rt_examples.specs.Notes.{insert, settings}

pub first_run_is_audited_holds : FirstRunIsAudited
unfolding computes audit judged_poll
first_run_is_audited_holds = refl

pub renewal_is_audited_holds : RenewalIsAudited
unfolding computes token_computes audit judged_poll
renewal_is_audited_holds = refl

pub filters_are_audited_holds : FiltersAreAudited
unfolding computes audit judged_poll
filters_are_audited_holds = refl

pub deletes_are_audited_holds : DeletesAreAudited
unfolding computes audit judged_poll
deletes_are_audited_holds = refl

pub errors_are_audited_holds : ErrorsAreAudited
unfolding computes audit judged_poll
errors_are_audited_holds = refl

pub hidden_key_is_audited_holds : HiddenKeyIsAudited
unfolding computes audit judged_poll
hidden_key_is_audited_holds = refl

abbrev judged : ℕ → Seen → List Judged
judged poll s = record { poll = poll; place = 0; table = 0; subscription = 1; verdict = verdict_of_seen s } ∷ []

abbrev row_seen : Seen
row_seen = visibility hi_rules who rows 0 row_at_end

first_judged : judged_input hi_notes settings joined (Poll (insert (codes "hi") ∷ [])) ≡ judged 2 row_seen
unfolding computes judged_poll
first_judged = refl

-- the second poll by the members that it finds
abbrev second_by : Change → List Member → List Judged
second_by ch ms =
    judged_poll hi_notes 3 (tables_left hi_notes (story hi_notes settings inserted) (Poll (ch ∷ []))) (subscriptions ms)
    (ch ∷ [])

abbrev members : List Member
members = (now_of (story hi_notes settings joined)).members

identity_judged : second_by with_identity members ≡ judged 3 row_seen
unfolding computes judged_poll
identity_judged = refl

kept_judged : second_by without_identity members ≡ judged 3 row_seen
unfolding computes judged_poll
kept_judged = refl

abbrev lines : List Judged → List Judged → List ℕ
lines a b = flat_map (audit_line hi_notes) ((audit hi_notes settings joined ++ a) ++ b)

abbrev judged_twice : Change → List ℕ
judged_twice ch =
    lines (judged_input hi_notes settings joined (Poll (insert (codes "hi") ∷ [])))
    (judged_input hi_notes settings inserted (Poll (ch ∷ [])))

in_two : (ch : Change) → audit_lines hi_notes settings (Poll (ch ∷ []) ∷ inserted) ≡ judged_twice ch
unfolding audit
in_two ch = refl

delivered_twice : lines (judged 2 Yes) (judged 3 Yes) ≡ codes "2 0 1 delivered\n3 0 1 delivered\n"
unfolding computes audit
delivered_twice = refl

update_is_audited : (ch : Change) → second_by ch members ≡ judged 3 row_seen → UpdateIsAudited ch
update_is_audited ch second =
    in_two ch
    ∙ ap₂ lines (first_judged ∙ ap (judged 2) row_is_seen)
    (ap (second_by ch) (members_after_poll hi_notes settings joined (insert (codes "hi") ∷ []))
    ∙ second ∙ ap (judged 3) row_is_seen)
    ∙ delivered_twice

pub identity_is_audited_holds : IdentityIsAudited
identity_is_audited_holds = update_is_audited with_identity identity_judged

pub kept_row_is_audited_holds : KeptRowIsAudited
kept_row_is_audited_holds = update_is_audited without_identity kept_judged
