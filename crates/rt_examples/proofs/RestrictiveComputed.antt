-- Computed but for what the policies are of the row, which goes by their folds.
use Rattle.std.proofs.Common.{◌≡◌, ℕ, List, [], ◌∷◌, ◌||◌, not, true, false, refl, ap, ◌∙◌, Bool}
use Rattle.std.specs.Prelude.{pos, if◌then◌else◌}
use Rattle.std.specs.List.{flat_map, position_from}
use Rattle.rt_value.specs.declared.value.Value.TheVariants as value
use Rattle.rt_value.specs.declared.row.Row.{Row}
use Rattle.rt_value.specs.Tables.{rows_of_table}
use Rattle.rt_policy.specs.declared.judge.Judge.{Judge}
use Rattle.rt_policy.specs.declared.caller.Seen.{Seen}
use Rattle.rt_policy.specs.declared.caller.Seen.TheVariants.{Yes, NonePermits, Restrictive}
use Rattle.rt_policy.specs.Worth.{Who, View, truth}
use Rattle.rt_policy.specs.Truth.{is_true}
use Rattle.rt_policy.specs.Visibility.{visibility, view_by, visibility_within, refused_by}
use Rattle.rt_change.specs.declared.change.Verb.TheVariants.{Insert}
use Rattle.rt_change.specs.Verdicts.{verdict_of_seen}
use Rattle.rt_entry.specs.declared.input.Input.TheVariants.{Poll}
use Rattle.rt_entry.specs.Audit.{audit, audit_line, audit_lines, judged_poll}
use Rattle.rt_entry.specs.Doings.{story}
use Rattle.rt_entry.specs.Story.{tables_left}
use Rattle.std.specs.Prelude.{None}
use Rattle.rt_examples.specs.Computes.{computes}
use Rattle.rt_examples.specs.Notes.{settings, authenticated, one}
use Rattle.rt_examples.specs.Policies.{own, anyone, owns, anyone_is, own_is}
use Rattle.rt_examples.specs.Owners.{docs, owner_rules, owned_by}
use Rattle.rt_examples.specs.Restrictive.{RestrictiveRefuses, StrangersSeeNone}
use Rattle.rt_examples.specs.Restrictive.{restricted_docs, restrictive_rules, before, journal}

abbrev who : Who
who = record { role = 0; bypass = false; claims = authenticated }

abbrev rows_at_end : ℕ → List Row
rows_at_end =
    rows_of_table
    (tables_left restricted_docs (story restricted_docs settings before) (Poll (owned_by Insert None 161 ∷ [])))

abbrev row_at_end : Row
row_at_end = record { key = one; values = value.Int (pos 1) ∷ value.Uuid 161 ∷ [] }

-- the first policy is permissive, the second restrictive
abbrev seen_if : Bool → Bool → Seen
seen_if first second =
    if not (first || false) then NonePermits else refused_by (position_from (λ b. b) 0 (false ∷ not second ∷ []))

view : (ℕ → List Row) → View
view rows = view_by rows (visibility_within 0 restrictive_rules who rows)

abbrev holds : Judge → (ℕ → List Row) → Row → Bool
holds j rows row = is_true (truth who (view rows) j row)

seen_by_policies : (rows : ℕ → List Row) (row : Row)
    → visibility restrictive_rules who rows 0 row ≡ seen_if (holds anyone rows row) (holds own rows row)
unfolding visibility view
seen_by_policies rows row = refl

refused : visibility restrictive_rules who rows_at_end 0 row_at_end ≡ Restrictive 1
unfolding view
refused =
    seen_by_policies rows_at_end row_at_end
    ∙ ap (λ b. seen_if b (holds own rows_at_end row_at_end)) (anyone_is who (view rows_at_end) row_at_end)
    ∙ ap (λ b. seen_if true b) (own_is who (view rows_at_end) row_at_end)

abbrev lines : Seen → List ℕ
lines s =
    flat_map (audit_line restricted_docs)
    (record { poll = 2; place = 0; table = 0; subscription = 1; verdict = verdict_of_seen s } ∷ [])

judged_by_row :
    audit_lines restricted_docs settings journal ≡ lines (visibility restrictive_rules who rows_at_end 0 row_at_end)
unfolding computes audit judged_poll
judged_by_row = refl

pub restrictive_refuses_holds : RestrictiveRefuses
unfolding computes
restrictive_refuses_holds = judged_by_row ∙ ap lines refused

-- with the policy of the owner alone, on the same rows
abbrev lines_by_owner : Seen → List ℕ
lines_by_owner s =
    flat_map (audit_line docs)
    (record { poll = 2; place = 0; table = 0; subscription = 1; verdict = verdict_of_seen s } ∷ [])

abbrev seen_by_owner : Bool → Seen
seen_by_owner b = if not (b || false) then NonePermits else Yes

owner_asked : (rows : ℕ → List Row) (row : Row) → visibility owner_rules who rows 0 row ≡ seen_by_owner (owns who row)
unfolding visibility
owner_asked rows row =
    ap seen_by_owner (own_is who (view_by rows (visibility_within 0 owner_rules who rows)) row)

judged_by_owner :
    audit_lines docs settings journal ≡ lines_by_owner (visibility owner_rules who rows_at_end 0 row_at_end)
unfolding computes audit judged_poll
judged_by_owner = refl

pub strangers_see_none_holds : StrangersSeeNone
unfolding computes
strangers_see_none_holds = judged_by_owner ∙ ap lines_by_owner (owner_asked rows_at_end row_at_end)
