-- The tests of rows decide that two are one.
use Rattle.std.proofs.Common.{◌≡◌, ◌==◌, Bool, ◌&&◌, Option, Some, None, refl, ap}
use Rattle.std.specs.Bool.{Decides}
use Rattle.std.specs.Str.{bytes_eq}
use Rattle.std.proofs.lemmas.Bool.Decides.{Decides-eqb, Decides-and, Decides-like}
use Rattle.std.proofs.lemmas.Slice.Eq.{bytes_eq-Decides}
use Rattle.rt_catalog.specs.declared.catalog.Grant.{Grant}
use Rattle.rt_catalog.specs.declared.catalog.Membership.{Membership}
use Rattle.rt_catalog.specs.Lists.{GrantRow, MemberRow, same_option, same_row, is_number, same_grant, same_member}
use Rattle.rt_catalog.specs.Lists.{same_membership}

option_decides : {A : Type 0} (same : A → A → Bool) → ((a b : A) → Decides (same a b) (a ≡ b)) → (o p : Option A)
    → Decides (same_option same o p) (o ≡ p)
option_decides same decides None None = (λ h. refl, λ h. refl)
option_decides same decides None (Some b) = (λ h. absurd (cc), λ h. absurd (cc))
option_decides same decides (Some a) None = (λ h. absurd (cc), λ h. absurd (cc))
option_decides same decides (Some a) (Some b) =
    Decides-like (same a b) (ap (λ x. Some x)) (λ h. let e : a ≡ b = cc in e) (decides a b)

pub row_decides : (a b : GrantRow) → Decides (same_row a b) (a ≡ b)
row_decides a b =
    let schema = bytes_eq a.table.schema b.table.schema in
    let name = bytes_eq a.table.name b.table.name in
    let column = same_option bytes_eq a.column b.column in
    let role = same_option bytes_eq a.role b.role in
    let names = Decides-and schema name (bytes_eq-Decides a.table.schema b.table.schema)
    (bytes_eq-Decides a.table.name b.table.name) in
    let columns = Decides-and (schema && name) column names
    (option_decides bytes_eq bytes_eq-Decides a.column b.column) in
    Decides-like (same_row a b)
    (λ e. (λ i. record { table = record { schema = e.0.0.0 i; name = e.0.0.1 i }; column = e.0.1 i; role = e.1 i }))
    (λ e. (
      (
        (ap (λ (r : GrantRow). r.table.schema) e, ap (λ (r : GrantRow). r.table.name) e),
        ap (λ (r : GrantRow). r.column) e,
      ),
      ap (λ (r : GrantRow). r.role) e,
    ))
    (Decides-and (schema && name && column) role columns (option_decides bytes_eq bytes_eq-Decides a.role b.role))

pub grant_decides : (a b : Grant) → Decides (same_grant a b) (a ≡ b)
grant_decides a b =
    let table = a.table == b.table in
    let column = same_option is_number a.column b.column in
    let role = same_option is_number a.role b.role in
    let columns = Decides-and table column (Decides-eqb a.table b.table)
    (option_decides is_number Decides-eqb a.column b.column) in
    Decides-like (same_grant a b)
    (λ e. (λ i. record { table = e.0.0 i; column = e.0.1 i; role = e.1 i }))
    (λ e. ((ap (λ (g : Grant). g.table) e, ap (λ (g : Grant). g.column) e), ap (λ (g : Grant). g.role) e))
    (Decides-and (table && column) role columns (option_decides is_number Decides-eqb a.role b.role))

pub member_decides : (a b : MemberRow) → Decides (same_member a b) (a ≡ b)
member_decides a b =
    Decides-like (same_member a b) (λ e. (λ i. record { role = e.0 i; group = e.1 i }))
    (λ e. (ap (λ (r : MemberRow). r.role) e, ap (λ (r : MemberRow). r.group) e))
    (Decides-and (bytes_eq a.role b.role) (bytes_eq a.group b.group) (bytes_eq-Decides a.role b.role)
    (bytes_eq-Decides a.group b.group))

pub membership_decides : (a b : Membership) → Decides (same_membership a b) (a ≡ b)
membership_decides a b =
    Decides-like (same_membership a b) (λ e. (λ i. record { role = e.0 i; group = e.1 i }))
    (λ e. (ap (λ (m : Membership). m.role) e, ap (λ (m : Membership). m.group) e))
    (Decides-and (a.role == b.role) (a.group == b.group) (Decides-eqb a.role b.role) (Decides-eqb a.group b.group))
