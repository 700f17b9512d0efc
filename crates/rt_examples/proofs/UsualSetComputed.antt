-- Computed, policy by policy.
use Rattle.std.proofs.Common.{ℕ, List, [], ◌∷◌, Some, None, refl, ap, ◌∙◌}
use Rattle.std.specs.Fmt.{digits}
use Rattle.std.specs.Prelude.{codes}
use Rattle.rt_policy.specs.declared.expr.Selected.{Selected}
use Rattle.rt_policy.specs.declared.expr.Selected.TheVariants as selected
use Rattle.rt_catalog.specs.declared.statement.Command.TheVariants as command
use Rattle.rt_catalog.specs.Lists.{Lists, no_lists}
use Rattle.rt_catalog.specs.Refusals.{lists_after, unless_refused, lists_of}
use Rattle.rt_examples.specs.Statements.{lists_in}
use Rattle.rt_examples.specs.Forms.{Form, uid, column, equal, both, exists}
use Rattle.rt_examples.specs.Policied.{next, step}
use Rattle.rt_examples.specs.UsualSet.{usual_tables, last_policy, UsualSetIsRead, ring_tables, ring_end, RingIsRefused}
use Rattle.rt_examples.specs.UsualSet.{hidden_tables, HiddenColumnIsRefused, OneHidesNothing}

abbrev own_form : Form
own_form = equal uid (column None (codes "user_id"))

abbrev rooms_form : Form
rooms_form =
    exists selected.One (codes "public") (codes "members") (Some (codes "m"))
    (both (equal (column (Some (codes "m")) (codes "room_id")) (column (Some (codes "rooms")) (codes "id")))
    (equal (column (Some (codes "m")) (codes "user_id")) uid))

abbrev authenticated : List (List ℕ)
authenticated = codes "authenticated" ∷ []

abbrev usual_before : Lists
usual_before = lists_in (lists_after no_lists usual_tables)

abbrev usual_between : Lists
usual_between = next (codes "own memberships") (codes "members") command.Select authenticated own_form usual_before 85

abbrev usual_lists : Lists
usual_lists = next (codes "members read rooms")
    (codes "rooms") command.Select authenticated rooms_form usual_between 108

pub usual_set_is_read_holds : UsualSetIsRead
unfolding lists_of digits
usual_set_is_read_holds =
    let first = step (codes "own memberships")
    (codes "members") command.Select authenticated own_form usual_before 85 last_policy refl in
    let second = step (codes "members read rooms")
    (codes "rooms") command.Select authenticated rooms_form usual_between 108 [] refl in
    (usual_lists, ap unless_refused (first ∙ second), (refl, refl, refl))

-- exists (select .. from t where t.id = u.id)
abbrev id_form : Selected → List ℕ → List ℕ → Form
id_form what t u = exists what (codes "public") t None
    (equal (column (Some t) (codes "id")) (column (Some u) (codes "id")))

abbrev ring_before : Lists
ring_before = lists_in (lists_after no_lists ring_tables)

abbrev ring_between : Lists
ring_between = next (codes "p") (codes "a") command.All [] (id_form selected.One (codes "b") (codes "a")) ring_before 20

pub ring_is_refused_holds : RingIsRefused
unfolding lists_of
ring_is_refused_holds =
    let first = step (codes "p") (codes "a") command.All []
    (id_form selected.One (codes "b") (codes "a")) ring_before 20 ring_end refl in
    let second = step (codes "q") (codes "b") command.All []
    (id_form selected.One (codes "a") (codes "b")) ring_between 44 [] refl in
    ap unless_refused (first ∙ second)

abbrev hidden_before : Lists
hidden_before = lists_in (lists_after no_lists hidden_tables)

abbrev reader : List (List ℕ)
reader = codes "reader" ∷ []

pub hidden_column_is_refused_holds : HiddenColumnIsRefused
unfolding lists_of
hidden_column_is_refused_holds =
    ap unless_refused (step (codes "p") (codes "a") command.All reader
    (id_form selected.All (codes "b") (codes "a")) hidden_before 44 [] refl)

pub one_hides_nothing_holds : OneHidesNothing
unfolding lists_of
one_hides_nothing_holds =
    let form = id_form selected.One (codes "b") (codes "a") in (
      next (codes "p") (codes "a") command.All reader form hidden_before 44,
      ap unless_refused (step (codes "p") (codes "a") command.All reader form hidden_before 44 [] refl),
    )
