-- The audit of the runs of other examples: of each change and each subscription of its table a line, with the poll's
-- number, the change's place in it, the subscription and the verdict.
use Rattle.std.specs.Prelude.{◌≡◌, [], ◌∷◌, codes}
use Rattle.rt_change.specs.declared.change.Change.{Change}
use Rattle.rt_entry.specs.declared.input.Input.TheVariants.{Poll}
use Rattle.rt_entry.specs.Audit.{audit_lines}
use Rattle.rt_examples.specs.Notes as first
use Rattle.rt_examples.specs.Notes.{notes, settings}
use Rattle.rt_examples.specs.Renewal as renewal
use Rattle.rt_examples.specs.Filters as filters
use Rattle.rt_examples.specs.Deletes as deletes
use Rattle.rt_examples.specs.Errors as errors
use Rattle.rt_examples.specs.Identities.{hi_notes, inserted, with_identity, without_identity}

abbrev pub FirstRunIsAudited : Type 0
FirstRunIsAudited = audit_lines notes settings first.journal ≡ codes "2 0 1 delivered\n"

abbrev pub RenewalIsAudited : Type 0
RenewalIsAudited =
    audit_lines renewal.two_roles settings renewal.journal ≡ codes "2 0 1 delivered\n4 0 1 delivered\n"

-- the first change fails the filter on the id, the second that on the body
abbrev pub FiltersAreAudited : Type 0
FiltersAreAudited =
    audit_lines notes settings filters.journal ≡ codes "2 0 1 denied filter\n2 1 1 denied filter\n2 2 1 delivered\n"

-- the third subscription has a filter on the body, which the second delete's identity lacks
abbrev pub DeletesAreAudited : Type 0
DeletesAreAudited =
    audit_lines deletes.secured_notes settings deletes.journal ≡
    codes "2 0 1 delivered\n2 0 2 delivered\n2 0 3 delivered\n2 1 1 delivered\n2 1 2 delivered\n2 1 3 denied filter\n"

abbrev pub ErrorsAreAudited : Type 0
ErrorsAreAudited =
    audit_lines notes settings errors.journal ≡
    codes "2 0 1 error 400\n2 1 1 delivered\n3 0 1 delivered\n3 1 1 delivered\n"

abbrev pub HiddenKeyIsAudited : Type 0
HiddenKeyIsAudited = audit_lines errors.body_alone settings errors.hidden_journal ≡ codes "2 0 1 error 401\n"

-- an insert, and an update behind it
abbrev pub UpdateIsAudited : Change → Type 0
UpdateIsAudited ch =
    audit_lines hi_notes settings (Poll (ch ∷ []) ∷ inserted) ≡ codes "2 0 1 delivered\n3 0 1 delivered\n"

abbrev pub IdentityIsAudited : Type 0
IdentityIsAudited = UpdateIsAudited with_identity

abbrev pub KeptRowIsAudited : Type 0
KeptRowIsAudited = UpdateIsAudited without_identity
