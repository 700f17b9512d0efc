-- An insert and a delete of one row in a poll. Under row security the insert is denied to all, since the row is gone at
-- the poll's end, also to a role that bypasses it; without row security both are delivered.
use Rattle.std.specs.Prelude.{◌≡◌, ℕ, List, [], ◌∷◌, ◌++◌, true, false, codes, Some, None}
use Rattle.rt_value.specs.declared.claims.Claims.{Claims}
use Rattle.rt_phx.specs.declared.message.Version.TheVariants.{V1}
use Rattle.rt_catalog.specs.declared.catalog.Catalog.{Catalog}
use Rattle.rt_entry.specs.declared.input.Input.{Input}
use Rattle.rt_entry.specs.declared.input.Input.TheVariants.{Opened, Frame, Poll}
use Rattle.rt_entry.specs.Audit.{audit_lines}
use Rattle.rt_examples.specs.Notes.{notes, settings, authenticated, insert}
use Rattle.rt_examples.specs.Deletes.{secured_notes, delete}
use Rattle.rt_examples.specs.Texts.{join_for}

-- .. create role service_role bypassrls; grant select on notes to service_role;
abbrev pub with_service : Catalog → Catalog
with_service c =
    record c {
      roles =
          record { name = codes "authenticated"; bypass = false }
          ∷ record { name = codes "service_role"; bypass = true } ∷ [];
      grants =
          record { table = 0; column = None; role = Some 0 } ∷ record { table = 0; column = None; role = Some 1 } ∷ [];
    }

abbrev pub service : Claims
service = record { role = codes "service_role"; sub = None; exp = None; members = [] }

abbrev pub join : List ℕ → List ℕ
join event =
    join_for (codes "realtime:notes") (codes "{\"event\":\"" ++ event ++ codes "\",\"table\":\"notes\"}")

-- both roles join for an event, and then the poll
abbrev pub journal : List ℕ → List Input
journal event =
    Poll (insert (codes "hi") ∷ delete None None ∷ [])
    ∷ Frame 1 (join event) ∷ Frame 0 (join event) ∷ Opened 1 V1 service ∷ Opened 0 V1 authenticated ∷ []

abbrev pub RowIsGone : Type 0
RowIsGone =
    audit_lines (with_service secured_notes) settings (journal (codes "INSERT")) ≡
    codes "4 0 1 denied row gone\n4 0 2 denied row gone\n4 1 1 denied event\n4 1 2 denied event\n"

abbrev pub BothAreDelivered : Type 0
BothAreDelivered =
    audit_lines (with_service notes) settings (journal (codes "*")) ≡
    codes "4 0 1 delivered\n4 0 2 delivered\n4 1 1 delivered\n4 1 2 delivered\n"
