-- To whom the policies of the closed lists apply, and that without memberships the closed lists are the written ones.
use Rattle.std.proofs.Common.{◌≡◌, ◌↔◌, ◌⊎◌, ℕ, ◌==◌, ◌<◌, Bool, true, false, ◌||◌, ◌&&◌, not, cond, List, [], ◌∷◌}
use Rattle.std.proofs.Common.{◌++◌, length, map, Option, Some, None, Ok, refl, ap, sym, ◌∙◌, subst, arith, inl, inr}
use Rattle.std.proofs.Common.{append-nil}
use Rattle.std.specs.List.{list_any, filter, flat_map}
use Rattle.std.proofs.lemmas.Bool.{and_parts, and_from, or_parts, or_left, or_right, eqb-true, eq-eqb, not_from_true}
use Rattle.std.proofs.lemmas.Bool.{not_from_false, false_from_ne_true, cases_Bool}
use Rattle.rt_value.specs.Ordered.{in_order}
use Rattle.rt_policy.specs.declared.tables.Policy.{Policy}
use Rattle.rt_policy.specs.Visibility.{lists}
use Rattle.rt_value.proofs.Among.{Among, among_either, among_filter, filter_among}
use Rattle.rt_value.proofs.Plain.{any_append, any_among, filter_map_swap, map_map}
use Rattle.rt_catalog.specs.declared.catalog.Grant.{Grant}
use Rattle.rt_catalog.specs.declared.catalog.Membership.{Membership}
use Rattle.rt_catalog.specs.declared.statement.Statement.{Statement}
use Rattle.rt_catalog.specs.declared.statement.Statement.TheVariants as statement
use Rattle.rt_catalog.specs.Grammar.{Placed}
use Rattle.rt_catalog.specs.Access.{permits}
use Rattle.rt_catalog.specs.Lists.{Lists, TablePolicy, no_lists, after_statement}
use Rattle.rt_catalog.specs.Memberships as m
use Rattle.rt_catalog.specs.Memberships.{every_role, joins, IsUnder, is_under, heirs, inherited_rows, inherited_roles}
use Rattle.rt_catalog.specs.Memberships.{roles_with_heirs, policy_with_heirs, closed}
use Rattle.rt_catalog.specs.Refusals.{refused_statement, lists_after}
use Rattle.rt_catalog.specs.Catalogue.{name_cmp}
use Rattle.rt_catalog.specs.Closing.{IsFor, Selectable, ClosedApplies, PoliciesAreClosed, is_membership}
use Rattle.rt_catalog.specs.Closing.{ClosedIsWritten, TextsAreClosed}
use Rattle.rt_catalog.proofs.Unrefused.{unrefused, goes_on}
use Rattle.rt_catalog.proofs.Under.{under_computed, under_within}
use Rattle.rt_catalog.proofs.Closed.{any_found, in_range, closed_selects}

pub selectable : Selectable
selectable text c is role table column =
    let same = ap (λ (gs : List Grant). list_any (permits role table column) gs) is.holds.grants in
    let (to, from) = closed_selects is.lists role table column in
    (λ h. to (sym same ∙ h), λ h. same ∙ from h)

module _ (l : Lists) (role : ℕ) where
  abbrev IsListed : List ℕ → Type 0
  IsListed roles = lists role (Some roles) ≡ true

  is_it : ℕ → Bool
  is_it n = n == role

  listed_for : (roles : List ℕ) → list_any (λ n. n == role) (roles ++ inherited_roles l roles) ≡ true
      → IsFor l role (Some roles)
  listed_for roles h =
      let (n, at, e) = any_found (λ n. n == role) (roles ++ inherited_roles l roles) h in
      by n (eqb-true n role e) (among_either roles (inherited_roles l roles) n at) where
        by : (n : ℕ) → n ≡ role → Among roles n ⊎ Among (inherited_roles l roles) n → IsFor l role (Some roles)
        by n e (inl at) = (role, m.itself, any_among (λ k. k == role) roles n at (eq-eqb n role e))
        by n e (inr at) =
            let kept = among_filter (λ k. not (lists k (Some roles)) && list_any (is_under l k) roles)
            (every_role l) n at in
            let (_, under) = and_parts (not (lists n (Some roles))) (list_any (is_under l n) roles) kept.1 in
            let (other, among, is) = any_found (is_under l n) roles under in
            let P : ℕ → Type 0 = λ k. IsUnder l k other in (
              other,
              subst P e ((under_computed l n other).0 is),
              any_among (λ k. k == other) roles other among (eq-eqb other other refl),
            )

  for_listed : (roles : List ℕ) → IsFor l role (Some roles)
      → list_any (λ n. n == role) (roles ++ inherited_roles l roles) ≡ true
  for_listed roles (other, under, listed) =
      any_append (λ n. n == role) roles (inherited_roles l roles) ∙ by (cases_Bool (lists role (Some roles))) where
        by : (lists role (Some roles) ≡ true) ⊎ (lists role (Some roles) ≡ false)
            → (list_any (λ n. n == role) roles || list_any (λ n. n == role) (inherited_roles l roles)) ≡ true
        by (inl h) = or_left (list_any (λ n. n == role) roles) (list_any (λ n. n == role) (inherited_roles l roles)) h
        by (inr h) =
            let P : ℕ → Type 0 = λ k. lists k (Some roles) ≡ true in
            let differ : role ≡ other → ⊥ = λ e. let z : false ≡ true = sym h ∙ subst P (sym e) listed in cc in
            let is = (under_computed l role other).1 under in
            let within : role < length l.roles = under_within l role other is differ in
            let (n, among, e) = any_found (λ k. k == other) roles listed in
            let Q : ℕ → Type 0 = Among roles in
            let some : list_any (is_under l role) roles ≡ true =
            any_among (is_under l role) roles other (subst Q (eqb-true n other e) among) is in
            let at : Among (inherited_roles l roles) role =
            filter_among (λ k. not (lists k (Some roles)) && list_any (is_under l k) roles) (every_role l) role
            (in_range 0 (length l.roles) role (omega arith) (omega arith))
            (and_from (not (lists role (Some roles))) (list_any (is_under l role) roles)
            (not_from_false (lists role (Some roles)) h) some) in
            or_right (list_any (λ n. n == role) roles) (list_any (λ n. n == role) (inherited_roles l roles))
            (any_among (λ n. n == role) (inherited_roles l roles) role at (eq-eqb role role refl))

  for_option : (o : Option (List ℕ)) → (lists role (roles_with_heirs l o) ≡ true) ↔ IsFor l role o
  for_option None = (λ h. tt, λ h. refl)
  for_option (Some roles) = (listed_for roles, for_listed roles)

pub closed_applies : ClosedApplies
closed_applies l p who =
    let selects = p.policy.selects in
    let listed = lists who.role (roles_with_heirs l p.policy.roles) in (
      λ h. let (a, b) = and_parts selects listed h in (a, (for_option l who.role p.policy.roles).0 b),
      λ (a, b). and_from selects listed a ((for_option l who.role p.policy.roles).1 b),
    )

pub policies_closed : PoliciesAreClosed
policies_closed text c is table rules at =
    let l = is.lists in
    let is_on : TablePolicy → Bool = λ p. p.table == table in
    let bare : TablePolicy → Policy = λ p. p.policy in
    (is.holds.rules table rules at).policies
    ∙ ap (λ ps. in_order name_cmp (map bare ps)) (filter_map_swap is_on (policy_with_heirs l) l.policies)
    ∙ ap (in_order name_cmp) (map_map bare (policy_with_heirs l) (filter is_on l.policies))

-- without memberships

alone : {l : Lists} {role other : ℕ} → l.memberships ≡ [] → IsUnder l role other → role ≡ other
alone e m.itself = refl
alone {l} e (m.by_group {role} {group} {other} inherited joined under) =
    absurd (let none : joins l.memberships role group ≡ false = ap (λ (ms : List Membership). joins ms role group) e in
    let z : false ≡ true = sym none ∙ joined in cc)

none_pass : {A : Type 0} (p : A → Bool) (xs : List A) → ((x : A) → p x ≡ true → ⊥) → filter p xs ≡ []
none_pass p [] f = refl
none_pass p (x ∷ xs) f = ap (λ b. cond b (x ∷ filter p xs) (filter p xs)) (false_from_ne_true (p x) (f x))
    ∙ none_pass p xs f

all_empty : {A B : Type 0} (f : A → List B) (xs : List A) → ((x : A) → f x ≡ []) → flat_map f xs ≡ []
all_empty f [] e = refl
all_empty f (x ∷ xs) e = ap (λ ys. ys ++ flat_map f xs) (e x) ∙ all_empty f xs e

all_same : {A : Type 0} (f : A → A) (xs : List A) → ((x : A) → f x ≡ x) → map f xs ≡ xs
all_same f [] e = refl
all_same f (x ∷ xs) e = ap (λ y. y ∷ map f xs) (e x) ∙ ap (λ ys. x ∷ ys) (all_same f xs e)

module _ (l : Lists) (none : l.memberships ≡ []) where
  no_heirs : (other : ℕ) → heirs l other ≡ []
  no_heirs other = none_pass (λ n. not (n == other) && is_under l n other) (every_role l) (λ n h.
      let (differ, under) = and_parts (not (n == other)) (is_under l n other) h in
      let z : false ≡ true = sym
      (not_from_true (n == other) (eq-eqb n other (alone none ((under_computed l n other).0 under)))) ∙ differ in
      cc)

  abbrev rows_for : Grant → Option ℕ → List Grant
  rows_for g o = elim o [ None ↦ [] | Some other ↦ map (λ heir. record g { role = Some heir }) (heirs l other) ]

  no_rows : (g : Grant) → inherited_rows l g ≡ []
  no_rows g = by g.role where
    by : (o : Option ℕ) → rows_for g o ≡ []
    by None = refl
    by (Some other) = ap (map (λ heir. record g { role = Some heir })) (no_heirs other)

  no_roles : (roles : List ℕ) → inherited_roles l roles ≡ []
  no_roles roles = none_pass (λ n. not (lists n (Some roles)) && list_any (is_under l n) roles) (every_role l) (λ n h.
      let (unlisted, under) = and_parts (not (lists n (Some roles))) (list_any (is_under l n) roles) h in
      let (other, among, is) = any_found (is_under l n) roles under in
      let same : n ≡ other = alone none ((under_computed l n other).0 is) in
      let listed : lists n (Some roles) ≡ true =
      any_among (λ k. k == n) roles other among (eq-eqb other n (sym same)) in
      let z : false ≡ true = sym (not_from_true (lists n (Some roles)) listed) ∙ unlisted in cc)

  same_roles : (o : Option (List ℕ)) → roles_with_heirs l o ≡ o
  same_roles None = refl
  same_roles (Some roles) = ap (λ rs. Some (roles ++ rs)) (no_roles roles) ∙ ap (λ rs. Some rs) (append-nil roles)

  same_policy : (p : TablePolicy) → policy_with_heirs l p ≡ p
  same_policy p = ap (λ rs. record p { policy = record p.policy { roles = rs } }) (same_roles p.policy.roles)

  all_written : closed l ≡ l
  all_written =
      let grants : l.grants ++ flat_map (inherited_rows l) l.grants ≡ l.grants =
      ap (λ gs. l.grants ++ gs) (all_empty (inherited_rows l) l.grants no_rows) ∙ append-nil l.grants in
      ap (λ gs. record l { grants = gs; policies = map (policy_with_heirs l) l.policies }) grants
      ∙ ap (λ ps. record l { policies = ps }) (all_same (policy_with_heirs l) l.policies same_policy)

pub closed_written : ClosedIsWritten
closed_written l none = all_written l none

no_more : (l : Lists) (at : ℕ) (s : Statement) → is_membership s ≡ false → l.memberships ≡ []
    → (after_statement l at s).memberships ≡ []
no_more l at (statement.Table q items) not_one e = e
no_more l at (statement.Role name logins) not_one e = e
no_more l at (statement.Grant columns tables roles) not_one e = e
no_more l at (statement.Member groups roles) not_one e = absurd (cc)
no_more l at (statement.Secure q) not_one e = e
no_more l at (statement.Policy p) not_one e = e

abbrev is_placed_membership : Placed → Bool
is_placed_membership s = is_membership s.statement

stay_none : (l left : Lists) (file : List Placed) → lists_after l file ≡ Ok left
    → list_any is_placed_membership file ≡ false → l.memberships ≡ []
    → left.memberships ≡ []
stay_none l left [] e not_one none = let same : l ≡ left = cc in ap (λ (k : Lists). k.memberships) (sym same) ∙ none
stay_none l left (s ∷ more) e not_one none =
    let next : Lists = after_statement l s.at s.statement in
    let (here, others) = or_parts (is_placed_membership s) (list_any is_placed_membership more) not_one in
    stay_none next left more (goes_on s.at (lists_after next more) left (refused_statement l s.statement) e).1 others
    (no_more l s.at s.statement here none)

pub texts_closed : TextsAreClosed
texts_closed text c is not_one =
    closed_written is.lists (stay_none no_lists is.lists is.file (unrefused is.file is.lists is.meant).0 not_one refl)
