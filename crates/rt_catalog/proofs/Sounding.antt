-- The lists that statements leave are sound.
use Rattle.std.proofs.Common.{◌≡◌, ◌↔◌, ℕ, ◌==◌, ◌+◌, ◌<◌, ◌≤◌, Bool, true, false, ◌||◌, ◌&&◌, not}
use Rattle.std.proofs.Common.{List, [], ◌∷◌, ◌++◌, length, map, Option, Some, None, Ok, refl, sym, ◌∙◌, subst}
use Rattle.std.proofs.Common.{arith}
use Rattle.std.specs.Prelude.{is_none, is_some, nat_lt, option_map, unwrap_or, option_to_list}
use Rattle.std.specs.List.{AllByRecursion, IsDistinct, list_any, flat_map, filter_map}
use Rattle.std.specs.Str.{bytes_eq}
use Rattle.std.proofs.lemmas.Bool.{and_parts, and_from, or_parts, ltb-false, eqb-true, false_from_ne_true}
use Rattle.rt_value.specs.Choice.{◌>>=◌, is_at}
use Rattle.rt_value.proofs.Among.{among_left, among_right, among_flat, among_map, among_filter_map}
use Rattle.rt_value.proofs.Plain.{any_among}
use Rattle.rt_policy.specs.Sizes.{names_in, is_shallow, depth_limit}
use Rattle.rt_catalog.specs.declared.catalog.Table.{Table}
use Rattle.rt_catalog.specs.declared.catalog.Column.{Column}
use Rattle.rt_catalog.specs.declared.catalog.Membership.{Membership}
use Rattle.rt_catalog.specs.declared.fault.Why.TheVariants as why
use Rattle.rt_catalog.specs.declared.statement.TableName.{TableName}
use Rattle.rt_catalog.specs.declared.statement.Item.{Item}
use Rattle.rt_catalog.specs.declared.statement.Login.{Login}
use Rattle.rt_catalog.specs.declared.statement.PolicyText.{PolicyText}
use Rattle.rt_catalog.specs.declared.statement.Statement.{Statement}
use Rattle.rt_catalog.specs.declared.statement.Statement.TheVariants as statement
use Rattle.rt_catalog.specs.Grammar.{Placed}
use Rattle.rt_catalog.specs.Rings as r
use Rattle.rt_catalog.specs.Rings.{Path, through, leads, IsInRing}
use Rattle.rt_catalog.specs.Lists.{Lists, ListedRole, TablePolicy, MemberRow, no_lists, is_table, table_number}
use Rattle.rt_catalog.specs.Lists.{role_number, column_number, columns_of, key_clauses, bare_table, table_of, role_of}
use Rattle.rt_catalog.specs.Lists.{is_public, rows_of, grant_of, is_number, same_row, same_grant, new_grants}
use Rattle.rt_catalog.specs.Lists.{grants_with, grant_count, new_members, member_rows, membership_of, same_member}
use Rattle.rt_catalog.specs.Lists.{same_membership, memberships_with, membership_count, with_number, expressions_of}
use Rattle.rt_catalog.specs.Lists.{policy_of, after_statement}
use Rattle.rt_catalog.specs.Memberships.{joins, every_role, has_own_member}
use Rattle.rt_catalog.specs.Refusals.{over, long_names, table_limit, column_limit, role_limit, grant_limit}
use Rattle.rt_catalog.specs.Refusals.{policy_limit, membership_limit, names_of_table, names_of_item, comes_twice}
use Rattle.rt_catalog.specs.Refusals.{column_names, has_unknown_key, has_opaque_key, refused_table, refused_role}
use Rattle.rt_catalog.specs.Refusals.{refused_grant, refused_member, refused_policy, has_unknown_role, has_policy}
use Rattle.rt_catalog.specs.Refusals.{resolves_so, is_unknown, is_mistyped, refused_statement, reaches, lists_after}
use Rattle.rt_catalog.specs.Sound.{same_table, same_column, same_role, same_policy, IsSoundTable, IsGrantOf}
use Rattle.rt_catalog.specs.Sound.{IsMembershipOf, IsSound, ListsAreSound, RingsArePaths, MemberRingsArePaths}
use Rattle.rt_catalog.proofs.Unrefused.{goes_on}
use Rattle.rt_catalog.proofs.Paths.{starts_below, paths_computed}
use Rattle.rt_catalog.proofs.Closed.{any_found, in_range}
use Rattle.rt_catalog.proofs.Found.{number_within}
use Rattle.rt_catalog.proofs.Once.{all_among, among_all, all_both, none_any, apart_one}
use Rattle.rt_catalog.proofs.Same.{row_decides, grant_decides, member_decides, membership_decides}
use Rattle.rt_catalog.proofs.Growing.{none_applies, longer, one_more, all_weaker, grant_in_more, append_none, found_is}
use Rattle.rt_catalog.proofs.Rows.{after_apart, after_counted}
use Rattle.rt_catalog.proofs.ByName.{grant_named, one_row, membership_named, one_member}

columns_apart : (cs : List Column) → comes_twice (map (λ c. c.name) cs) ≡ false → IsDistinct same_column cs
unfolding IsDistinct
columns_apart [] h = tt
columns_apart (c ∷ cs) h =
    let names : List (List ℕ) = map (λ (d : Column). d.name) cs in
    let (here, more) = or_parts (list_any (bytes_eq c.name) names) (comes_twice names) h in
    (others cs here, columns_apart cs more)
  where
    others : (ds : List Column) → list_any (bytes_eq c.name) (map (λ d. d.name) ds) ≡ false
        → AllByRecursion (λ d. same_column c d ≡ false) ds
    others [] k = tt
    others (d ∷ ds) k = let (differ, rest) =
        or_parts (bytes_eq c.name d.name) (list_any (bytes_eq c.name) (map (λ e. e.name) ds)) k in
        (differ, others ds rest)

abbrev some_pair : ℕ → ℕ → Option Membership
some_pair role group = Some (record { role = role; group = group })

-- members of members, where all of them are roles of the lists
joins_within : (roles : List ListedRole) (ms : List Membership) → AllByRecursion (IsMembershipOf roles) ms
    → (a b : ℕ) → joins ms a b ≡ true → a < length roles
joins_within roles ms all a b h =
    let (m, at, e) = any_found (λ n. n.role == a && n.group == b) ms h in
    let (role, _) = and_parts (m.role == a) (m.group == b) e in
    let same = eqb-true m.role a role in
    let P : ℕ → Type 0 = λ k. k < length roles in
    subst P same (among_all (IsMembershipOf roles) ms all m at).role

own_member : (l : Lists) (ms : List Membership) → AllByRecursion (IsMembershipOf l.roles) ms
    → (has_own_member (record l { memberships = ms }) ≡ true) ↔ ((role : ℕ) × Path (joins ms) role role)
own_member l ms all = (to, from) where
  to : list_any (λ role. through (joins ms) (length l.roles) role role) (every_role l) ≡ true
      → (role : ℕ) × Path (joins ms) role role
  to h =
      let (role, _, e) = any_found (λ role. through (joins ms) (length l.roles) role role) (every_role l) h in
      (role, (paths_computed (joins ms) (length l.roles) (joins_within l.roles ms all) role role).0 e)

  from : (role : ℕ) × Path (joins ms) role role
      → list_any (λ role. through (joins ms) (length l.roles) role role) (every_role l) ≡ true
  from (role, path) =
      let lt : role < length l.roles = starts_below (length l.roles) (joins_within l.roles ms all) path in
      any_among (λ r. through (joins ms) (length l.roles) r r) (every_role l) role
      (in_range 0 (length l.roles) role (omega arith) (omega arith))
      ((paths_computed (joins ms) (length l.roles) (joins_within l.roles ms all) role role).1 path)

-- every name of a statement's rows is one of the statement's
rows_known : (l : Lists) (groups roles : List (List ℕ))
    → list_any (λ n. is_none (role_number l n)) (groups ++ roles) ≡ false
    → list_any (λ r. is_none (membership_of l r)) (member_rows groups roles) ≡ false
rows_known l groups roles h =
    false_from_ne_true (list_any (λ r. is_none (membership_of l r)) (member_rows groups roles)) (λ k.
    let (r, at, e) = any_found (λ m. is_none (membership_of l m)) (member_rows groups roles) k in
    let (group, in_groups, made) =
    among_flat (λ g. map (λ role. record { role = role; group = g }) roles) groups r at in
    let (role, in_roles, is) = among_map (λ n. record { role = n; group = group }) roles r made in
    let known = none_any (λ n. is_none (role_number l n)) (groups ++ roles) h in
    let one = among_all (λ n. is_none (role_number l n) ≡ false) (groups ++ roles) known role
    (among_right groups roles role in_roles) in
    let two = among_all (λ n. is_none (role_number l n) ≡ false) (groups ++ roles) known group
    (among_left groups roles group in_groups) in
    let P : MemberRow → Type 0 = λ m. is_none (membership_of l m) ≡ true in
    let z : false ≡ true = sym (both (role_number l role) (role_number l group) one two) ∙ subst P (sym is) e in cc)
  where
    both : (a b : Option ℕ) → is_none a ≡ false → is_none b ≡ false
        → is_none (a >>= λ x. b >>= λ y. some_pair x y) ≡ false
    both None b f g = absurd (cc)
    both (Some x) None f g = absurd (cc)
    both (Some x) (Some y) f g = refl

module _ (l : Lists) (s : IsSound l) where
  sound_table : (q : TableName) (items : List Item) → refused_table l q items ≡ None
      → IsSound (record l { tables = l.tables ++ table_of q items ∷ [] })
  sound_table q items h =
      let told = none_applies (
      over (length l.tables + 1) table_limit
      ∷ over (length (columns_of items)) column_limit
      ∷ long_names (names_of_table q ++ flat_map names_of_item items)
      ∷ (has_unknown_key q items, why.UnknownName)
      ∷ (
        list_any (is_table q) l.tables || comes_twice (column_names items) || nat_lt 1 (length (key_clauses items))
            || list_any comes_twice (key_clauses items),
        why.Twice,
      )
      ∷ (has_opaque_key q items, why.OpaqueKey)
      ∷ []) h in
      let one = list_any (is_table q) l.tables in
      let two = comes_twice (column_names items) in
      let three = nat_lt 1 (length (key_clauses items)) in
      let twice = or_parts (one || two || three) (list_any comes_twice (key_clauses items)) told.1.1.1.1.0 in
      let tables = or_parts one two (or_parts (one || two) three twice.0).0 in
      let t = table_of q items in
      let key : AllByRecursion (λ n. n < length t.columns) t.key = all_among (λ n. n < length t.columns) t.key (λ n at.
      let (name, _, found) = among_filter_map (column_number (bare_table q items))
      (flat_map (λ k. k) (key_clauses items)) n at in
      number_within (λ (c : Column). bytes_eq c.name name) (columns_of items) n found) in
      record {
        few_tables = one_more l.tables t table_limit (ltb-false table_limit (length l.tables + 1) told.0);
        few_roles = s.few_roles;
        few_grants = s.few_grants;
        few_policies = s.few_policies;
        few_memberships = s.few_memberships;
        tables = all_both IsSoundTable l.tables (t ∷ []) s.tables (
          record {
            few = ltb-false column_limit (length (columns_of items)) told.1.0;
            apart =
                columns_apart (columns_of items) tables.1;
            key = key;
          },
          tt,
        );
        tables_apart = apart_one same_table l.tables t s.tables_apart tables.0;
        roles_apart = s.roles_apart;
        grants = all_weaker (IsGrantOf l.tables l.roles) (IsGrantOf (l.tables ++ t ∷ []) l.roles) l.grants (λ g of.
            let P : List ListedRole → Type 0 = λ roles. IsGrantOf (l.tables ++ t ∷ []) roles g in
            subst P (append_none l.roles) (grant_in_more l.tables (t ∷ []) l.roles [] g of)) s.grants;
        grants_once = s.grants_once;
        secured = all_weaker (λ n. n < length l.tables) (λ n. n < length (l.tables ++ t ∷ [])) l.secured
            (λ n lt. omega (arith, longer l.tables (t ∷ []))) s.secured;
        secured_once = s.secured_once;
        policies = all_weaker (λ p. p.table < length l.tables) (λ p. p.table < length (l.tables ++ t ∷ [])) l.policies
            (λ p lt. omega (arith, longer l.tables (t ∷ []))) s.policies;
        policies_apart = s.policies_apart;
        memberships = s.memberships;
        memberships_once = s.memberships_once;
        no_ring = s.no_ring;
      }

  sound_role : (name : List ℕ) (logins : List Login) → refused_role l name ≡ None
      → IsSound (record l { roles = l.roles ++ role_of name logins ∷ [] })
  sound_role name logins h =
      let told = none_applies (
      over (length l.roles + 1) role_limit
      ∷ long_names (name ∷ [])
      ∷ (is_public name || is_some (role_number l name), why.Twice)
      ∷ []) h in
      let named : ListedRole → Bool = λ r. bytes_eq r.role.name name in
      let new = (or_parts (is_public name) (is_some (role_number l name)) told.1.1.0).1 in
      let r = role_of name logins in
      record {
        few_tables = s.few_tables;
        few_roles = one_more l.roles r role_limit (ltb-false role_limit (length l.roles + 1) told.0);
        few_grants = s.few_grants;
        few_policies = s.few_policies;
        few_memberships = s.few_memberships;
        tables = s.tables;
        tables_apart = s.tables_apart;
        roles_apart = apart_one same_role l.roles r s.roles_apart (sym (found_is named 0 l.roles) ∙ new);
        grants = all_weaker (IsGrantOf l.tables l.roles) (IsGrantOf l.tables (l.roles ++ r ∷ [])) l.grants (λ g of.
            let P : List Table → Type 0 = λ tables. IsGrantOf tables (l.roles ++ r ∷ []) g in
            subst P (append_none l.tables) (grant_in_more l.tables [] l.roles (r ∷ []) g of)) s.grants;
        grants_once = s.grants_once;
        secured = s.secured;
        secured_once = s.secured_once;
        policies = s.policies;
        policies_apart = s.policies_apart;
        memberships = all_weaker (IsMembershipOf l.roles) (IsMembershipOf (l.roles ++ r ∷ [])) l.memberships (λ m of.
            let le = longer l.roles (r ∷ []) in
            record { role = omega (arith, of.role, le); group = omega (arith, of.group, le) }) s.memberships;
        memberships_once = s.memberships_once;
        no_ring = s.no_ring;
      }

  sound_grant : (columns : List (List ℕ)) (tables : List TableName) (roles : List (List ℕ))
      → refused_grant l columns tables roles ≡ None
      → IsSound (record l { grants = grants_with l (rows_of columns tables roles) })
  sound_grant columns tables roles h =
      let rows = rows_of columns tables roles in
      let told = none_applies (
      over (grant_count l rows) grant_limit
      ∷ long_names (columns ++ flat_map names_of_table tables ++ roles)
      ∷ (list_any (λ r. is_none (grant_of l r)) rows, why.UnknownName)
      ∷ []) h in
      let counted = after_counted (grant_of l) same_row row_decides same_grant grant_decides
      (one_row l) l.grants rows told.1.1.0 in
      let few = ltb-false grant_limit (grant_count l rows) told.0 in
      record {
        few_tables = s.few_tables;
        few_roles = s.few_roles;
        few_grants = omega (arith, counted, few);
        few_policies = s.few_policies;
        few_memberships = s.few_memberships;
        tables = s.tables;
        tables_apart = s.tables_apart;
        roles_apart = s.roles_apart;
        grants = all_both (IsGrantOf l.tables l.roles) l.grants (filter_map (grant_of l) (new_grants l rows)) s.grants
            (all_among (IsGrantOf l.tables l.roles) (filter_map (grant_of l) (new_grants l rows)) (λ g at.
            let (r, _, e) = among_filter_map (grant_of l) (new_grants l rows) g at in (grant_named l r g e).of));
        grants_once = after_apart (grant_of l) same_row row_decides same_grant grant_decides
            (one_row l) l.grants rows s.grants_once;
        secured = s.secured;
        secured_once = s.secured_once;
        policies = s.policies;
        policies_apart = s.policies_apart;
        memberships = s.memberships;
        memberships_once = s.memberships_once;
        no_ring = s.no_ring;
      }

  members_within : (rows : List MemberRow) → AllByRecursion (IsMembershipOf l.roles) (memberships_with l rows)
  members_within rows =
      all_both (IsMembershipOf l.roles) l.memberships (filter_map (membership_of l) (new_members l rows)) s.memberships
      (all_among (IsMembershipOf l.roles) (filter_map (membership_of l) (new_members l rows)) (λ m at.
      let (r, _, e) = among_filter_map (membership_of l) (new_members l rows) m at in (membership_named l r m e).of))

  sound_member : (groups roles : List (List ℕ)) → refused_member l groups roles ≡ None
      → IsSound (record l { memberships = memberships_with l (member_rows groups roles) })
  sound_member groups roles h =
      let rows = member_rows groups roles in
      let ms = memberships_with l rows in
      let told = none_applies (
      over (membership_count l rows) membership_limit
      ∷ long_names (groups ++ roles)
      ∷ (list_any (λ n. is_none (role_number l n)) (groups ++ roles), why.UnknownName)
      ∷ (has_own_member (record l { memberships = ms }), why.Ring)
      ∷ []) h in
      let known = rows_known l groups roles told.1.1.0 in
      let counted = after_counted (membership_of l) same_member member_decides same_membership membership_decides
      (one_member l) l.memberships rows known in
      let few = ltb-false membership_limit (membership_count l rows) told.0 in
      record {
        few_tables = s.few_tables;
        few_roles = s.few_roles;
        few_grants = s.few_grants;
        few_policies = s.few_policies;
        few_memberships = omega (arith, counted, few);
        tables = s.tables;
        tables_apart = s.tables_apart;
        roles_apart = s.roles_apart;
        grants = s.grants;
        grants_once = s.grants_once;
        secured = s.secured;
        secured_once = s.secured_once;
        policies = s.policies;
        policies_apart = s.policies_apart;
        memberships = members_within rows;
        memberships_once = after_apart (membership_of l) same_member member_decides same_membership membership_decides
            (one_member l) l.memberships rows s.memberships_once;
        no_ring = λ role path. let z : false ≡ true =
            sym told.1.1.1.0 ∙ (own_member l ms (members_within rows)).1 (role, path) in cc;
      }

  abbrev WithSecured : List ℕ → Type 0
  WithSecured ns = IsSound (record l { secured = ns })

  secured_with : (n : ℕ) → n < length l.tables → (b : Bool) → list_any (λ m. m == n) l.secured ≡ b
      → WithSecured (elim b [ true ↦ l.secured | false ↦ l.secured ++ n ∷ [] ])
  secured_with n lt true e = s
  secured_with n lt false e =
      record {
        few_tables = s.few_tables;
        few_roles = s.few_roles;
        few_grants = s.few_grants;
        few_policies = s.few_policies;
        few_memberships = s.few_memberships;
        tables = s.tables;
        tables_apart = s.tables_apart;
        roles_apart = s.roles_apart;
        grants = s.grants;
        grants_once = s.grants_once;
        secured = all_both (λ k. k < length l.tables) l.secured (n ∷ []) s.secured (lt, tt);
        secured_once = apart_one is_number l.secured n s.secured_once e;
        policies = s.policies;
        policies_apart = s.policies_apart;
        memberships = s.memberships;
        memberships_once = s.memberships_once;
        no_ring = s.no_ring;
      }

  sound_secure : (q : TableName)
      → WithSecured (unwrap_or (option_map (λ n. with_number n l.secured) (table_number l q)) l.secured)
  sound_secure q = by (table_number l q) refl where
    by : (o : Option ℕ) → table_number l q ≡ o
        → WithSecured (unwrap_or (option_map (λ n. with_number n l.secured) o) l.secured)
    by None e = s
    by (Some n) e = secured_with n (number_within (is_table q) l.tables n e) (list_any (λ m. m == n) l.secured) refl

  abbrev WithPolicies : List TablePolicy → Type 0
  WithPolicies ps = IsSound (record l { policies = ps })

  policies_with : (p : TablePolicy) → p.table < length l.tables → length l.policies + 1 ≤ policy_limit
      → list_any (λ q. (q.table == p.table) && bytes_eq q.policy.name p.policy.name) l.policies ≡ false
      → WithPolicies (l.policies ++ p ∷ [])
  policies_with p lt few new =
      record {
        few_tables = s.few_tables;
        few_roles = s.few_roles;
        few_grants = s.few_grants;
        few_policies = one_more l.policies p policy_limit few;
        few_memberships = s.few_memberships;
        tables = s.tables;
        tables_apart = s.tables_apart;
        roles_apart = s.roles_apart;
        grants = s.grants;
        grants_once = s.grants_once;
        secured = s.secured;
        secured_once = s.secured_once;
        policies = all_both (λ q. q.table < length l.tables) l.policies (p ∷ []) s.policies (lt, tt);
        policies_apart = apart_one same_policy l.policies p s.policies_apart new;
        memberships = s.memberships;
        memberships_once = s.memberships_once;
        no_ring = s.no_ring;
      }

  sound_policy : (at : ℕ) (p : PolicyText) → refused_policy l p ≡ None
      → WithPolicies (l.policies ++ option_to_list (option_map (λ n. policy_of l n at p) (table_number l p.table)))
  sound_policy at p h =
      let told = none_applies (
      over (length l.policies + 1) policy_limit
      ∷ long_names (p.name ∷ names_of_table p.table ++ p.roles ++ flat_map names_in (expressions_of p))
      ∷ (list_any (λ e. not (is_shallow e)) (expressions_of p), why.Limit depth_limit)
      ∷ (is_none (table_number l p.table) || has_unknown_role l p.roles || resolves_so is_unknown l p, why.UnknownName)
      ∷ (has_policy l p.table p.name, why.Twice)
      ∷ (resolves_so is_mistyped l p, why.BadType)
      ∷ []) h in
      by (table_number l p.table) refl told.1.1.1.1.0 (ltb-false policy_limit (length l.policies + 1) told.0) where
        by : (o : Option ℕ) → table_number l p.table ≡ o
            → is_at (λ n. list_any (λ q. (q.table == n) && bytes_eq q.policy.name p.name) l.policies) o ≡ false
            → length l.policies + 1 ≤ policy_limit
            → WithPolicies (l.policies ++ option_to_list (option_map (λ n. policy_of l n at p) o))
        by None e new few = subst WithPolicies (sym (append_none l.policies)) s
        by (Some n) e new few = policies_with (policy_of l n at p)
            (number_within (is_table p.table) l.tables n e) few new

  sound_after : (at : ℕ) (t : Statement) → refused_statement l t ≡ None → IsSound (after_statement l at t)
  sound_after at (statement.Table q items) h = sound_table q items h
  sound_after at (statement.Role name logins) h = sound_role name logins h
  sound_after at (statement.Grant columns tables roles) h = sound_grant columns tables roles h
  sound_after at (statement.Member groups roles) h = sound_member groups roles h
  sound_after at (statement.Secure q) h = sound_secure q
  sound_after at (statement.Policy p) h = sound_policy at p h

sound_none : IsSound no_lists
unfolding IsDistinct
sound_none =
    record {
      few_tables = omega arith;
      few_roles = omega arith;
      few_grants = omega arith;
      few_policies = omega arith;
      few_memberships = omega arith;
      tables = tt;
      tables_apart = tt;
      roles_apart = tt;
      grants = tt;
      grants_once = tt;
      secured = tt;
      secured_once = tt;
      policies = tt;
      policies_apart = tt;
      memberships = tt;
      memberships_once = tt;
      no_ring = λ role path. nowhere path;
    }
  where
    nowhere : {a b : ℕ} → Path (joins []) a b → ⊥
    nowhere path = absurd (let z : false ≡ true = first path in cc) where
      first : {a b : ℕ} → Path (joins []) a b → false ≡ true
      first (r.straight e) = e
      first (r.over e p) = e

sound_all : (l left : Lists) (file : List Placed) → lists_after l file ≡ Ok left → IsSound l → IsSound left
sound_all l left [] e s = let same : l ≡ left = cc in subst IsSound same s
sound_all l left (t ∷ more) e s =
    let next : Lists = after_statement l t.at t.statement in
    let (free, rest) = goes_on t.at (lists_after next more) left (refused_statement l t.statement) e in
    sound_all next left more rest (sound_after l s t.at t.statement free)

pub lists_sound : ListsAreSound
lists_sound file l e = sound_all no_lists l file e sound_none

-- rings

leads_within : (policies : List TablePolicy) (n : ℕ) → AllByRecursion (λ p. p.table < n) policies → (t u : ℕ)
    → leads policies t u ≡ true → t < n
leads_within policies n all t u h =
    let (p, at, e) = any_found
    (λ q. (q.table == t) && q.policy.selects && list_any (λ r. r.table == u) q.readings) policies h in
    let (front, _) = and_parts ((p.table == t) && p.policy.selects) (list_any (λ r. r.table == u) p.readings) e in
    let (here, _) = and_parts (p.table == t) p.policy.selects front in
    let same = eqb-true p.table t here in
    let P : ℕ → Type 0 = λ k. k < n in
    subst P same (among_all (λ q. q.table < n) policies all p at)

pub rings_are_paths : RingsArePaths
rings_are_paths file l e p at =
    let within = leads_within l.policies (length l.tables) (lists_sound file l e).policies in
    let (to, from) = paths_computed (leads l.policies) (length l.tables) within p.table p.table in (
      λ h. let (selects, reached) =
          and_parts p.policy.selects (reaches l p.table p.table) h in record { selects = selects; path = to reached },
      λ ring. and_from p.policy.selects (reaches l p.table p.table) ring.selects (from ring.path),
    )

pub member_rings_are_paths : MemberRingsArePaths
member_rings_are_paths file l e groups roles =
    let rows = member_rows groups roles in
    own_member l (memberships_with l rows) (members_within l (lists_sound file l e) rows)
