-- Computed but for what the policy is of the row, which goes by its folds.
use Rattle.std.proofs.Common.{◌≡◌, ℕ, List, [], ◌∷◌, ◌||◌, not, false, refl, ap, ap₂, ◌∙◌, Bool}
use Rattle.std.specs.Prelude.{pos, if◌then◌else◌}
use Rattle.std.specs.List.{flat_map}
use Rattle.rt_value.specs.declared.value.Value.TheVariants as value
use Rattle.rt_value.specs.declared.row.Row.{Row}
use Rattle.rt_value.specs.Tables.{rows_of_table}
use Rattle.rt_policy.specs.declared.caller.Seen.{Seen}
use Rattle.rt_policy.specs.declared.caller.Seen.TheVariants.{Yes, NonePermits}
use Rattle.rt_policy.specs.Worth.{Who}
use Rattle.rt_policy.specs.Visibility.{visibility, view_by, visibility_within}
use Rattle.rt_change.specs.Verdicts.{verdict_of_seen}
use Rattle.rt_entry.specs.declared.input.Input.TheVariants.{Poll}
use Rattle.rt_entry.specs.Audit.{Judged, audit, audit_line, audit_lines, judged_poll}
use Rattle.rt_entry.specs.Doings.{story}
use Rattle.rt_entry.specs.Story.{tables_left}
use Rattle.rt_examples.specs.Computes.{computes}
use Rattle.rt_examples.specs.Notes.{settings, one}
use Rattle.rt_examples.specs.Policies.{owns, own_is}
use Rattle.rt_examples.specs.Owners.{OwnersAreJudged, docs, owner_rules, user, before, changes}

abbrev who : ℕ → Who
who n = record { role = 0; bypass = false; claims = user n }

-- the tables at the end of the poll, and the row that stands in them
abbrev rows_at_end : ℕ → List Row
rows_at_end = rows_of_table (tables_left docs (story docs settings before) (Poll changes))

abbrev row_at_end : Row
row_at_end = record { key = one; values = value.Int (pos 1) ∷ value.Uuid 162 ∷ [] }

abbrev seen_if : Bool → Seen
seen_if b = if not (b || false) then NonePermits else Yes

seen_by_owner : (n : ℕ) (rows : ℕ → List Row) (row : Row)
    → visibility owner_rules (who n) rows 0 row ≡ seen_if (owns (who n) row)
unfolding visibility
seen_by_owner n rows row = ap seen_if (own_is (who n) (view_by rows (visibility_within 0 owner_rules (who n) rows)) row)

abbrev judged : ℕ → ℕ → Seen → Judged
judged place sub s = record { poll = 4; place = place; table = 0; subscription = sub; verdict = verdict_of_seen s }

abbrev lines : Seen → Seen → List ℕ
lines s t = flat_map (audit_line docs) (judged 0 1 s ∷ judged 0 2 t ∷ judged 1 1 s ∷ judged 1 2 t ∷ [])

abbrev seen_at_end : ℕ → Seen
seen_at_end n = visibility owner_rules (who n) rows_at_end 0 row_at_end

judged_by_rows : audit_lines docs settings (Poll changes ∷ before) ≡ lines (seen_at_end 161) (seen_at_end 162)
unfolding computes audit judged_poll
judged_by_rows = refl

pub owners_are_judged_holds : OwnersAreJudged
unfolding computes
owners_are_judged_holds =
    judged_by_rows
    ∙ ap₂ lines (seen_by_owner 161 rows_at_end row_at_end) (seen_by_owner 162 rows_at_end row_at_end) ∙ refl
