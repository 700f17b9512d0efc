-- The names of a catalogue that was read from a text are UTF-8.
use Rattle.std.proofs.Common.{◌≡◌, ℕ, zero, suc, Bool, true, false, cond, List, [], ◌∷◌, ◌++◌, map, Option, Some, None, Ok, refl, sym, subst, append-nil}
use Rattle.std.specs.Prelude.{◌==◌, IsUtf8, slice_get, option_map, option_to_list}
use Rattle.std.specs.List.{AllByRecursion, filter}
use Rattle.rt_value.proofs.Plain.{ordered_all}
use Rattle.rt_policy.specs.declared.tables.Policy.{Policy}
use Rattle.rt_policy.specs.declared.tables.TableRules.{TableRules}
use Rattle.rt_sql.proofs.Kept.{names_kept}
use Rattle.rt_catalog.specs.declared.statement.Item.{Item}
use Rattle.rt_catalog.specs.declared.statement.Item.TheVariants as item
use Rattle.rt_catalog.specs.declared.statement.PolicyText.{PolicyText}
use Rattle.rt_catalog.specs.declared.statement.Statement.{Statement}
use Rattle.rt_catalog.specs.declared.statement.Statement.TheVariants as statement
use Rattle.rt_catalog.specs.Grammar.{Placed}
use Rattle.rt_catalog.specs.Lists.{Lists, TablePolicy, no_lists, columns_of, table_of, table_number, policy_of, after_statement}
use Rattle.rt_catalog.specs.Refusals.{refused_statement, lists_after, lists_of}
use Rattle.rt_catalog.specs.Catalogue.{IsFile}
use Rattle.rt_catalog.specs.Catalogue.{name_cmp, IsRulesOf}
use Rattle.rt_catalog.specs.Memberships.{policy_with_heirs, closed}
use Rattle.rt_catalog.specs.Names.{IsReadableColumn, IsReadableTable, IsReadablePolicy, AreReadableRules, NamesAreReadable}
use Rattle.rt_catalog.proofs.Unrefused.{unrefused, goes_on}
use Rattle.rt_catalog.proofs.Named.{IsReadableItem, IsReadableStatement, IsReadablePlaced, all_push, statements_named}

abbrev IsReadableIn : TablePolicy → Type 0
IsReadableIn p = IsReadablePolicy p.policy

record AreReadable (l : Lists) : Type 0 where
  tables : AllByRecursion IsReadableTable l.tables
  policies : AllByRecursion IsReadableIn l.policies

columns_readable : (items : List Item) → AllByRecursion IsReadableItem items
    → AllByRecursion IsReadableColumn (columns_of items)
columns_readable [] named = tt
columns_readable (item.Column name t marks ∷ items) named =
    (record { name = named.0.0; shown = named.0.1 }, columns_readable items named.1)
columns_readable (item.Key names ∷ items) named = columns_readable items named.1

policy_keeps : (l : Lists) (at : ℕ) (p : PolicyText) (o : Option ℕ) → AllByRecursion IsReadableIn l.policies → IsUtf8 p.name
    → AllByRecursion IsReadableIn (l.policies ++ option_to_list (option_map (λ n. policy_of l n at p) o))
policy_keeps l at p None policies named = subst (AllByRecursion IsReadableIn) (sym (append-nil l.policies)) policies
policy_keeps l at p (Some n) policies named = all_push IsReadableIn l.policies (policy_of l n at p) policies named

statement_keeps : (l : Lists) (at : ℕ) (s : Statement) → AreReadable l → IsReadableStatement s → AreReadable (after_statement l at s)
statement_keeps l at (statement.Table q items) are named = record {
  tables = all_push IsReadableTable l.tables (table_of q items) are.tables
      (record { schema = named.0; name = named.1; columns = columns_readable items named.2 });
  policies = are.policies;
}
statement_keeps l at (statement.Role name logins) are named = record { tables = are.tables; policies = are.policies }
statement_keeps l at (statement.Grant columns names roles) are named = record { tables = are.tables; policies = are.policies }
statement_keeps l at (statement.Member groups roles) are named = record { tables = are.tables; policies = are.policies }
statement_keeps l at (statement.Secure q) are named = record { tables = are.tables; policies = are.policies }
statement_keeps l at (statement.Policy p) are named =
    record { tables = are.tables; policies = policy_keeps l at p (table_number l p.table) are.policies named }

statements_keep : (l lists : Lists) (file : List Placed) → lists_after l file ≡ Ok lists → AreReadable l → AllByRecursion IsReadablePlaced file
    → AreReadable lists
statements_keep l lists [] e are named = let same : l ≡ lists = cc in subst AreReadable same are
statements_keep l lists (s ∷ more) e are named =
    let next : Lists = after_statement l s.at s.statement in
    statements_keep next lists more (goes_on s.at (lists_after next more) lists (refused_statement l s.statement) e).1
    (statement_keeps l s.at s.statement are named.0) named.1

lists_readable : (file : List Placed) (lists : Lists) → lists_of file ≡ Ok lists → AllByRecursion IsReadablePlaced file → AreReadable lists
lists_readable file lists e named = statements_keep no_lists lists file (unrefused file lists e).0 (record { tables = tt; policies = tt }) named

-- the policies of a table, in the order of their names

heirs_readable : (l : Lists) (ps : List TablePolicy) → AllByRecursion IsReadableIn ps → AllByRecursion IsReadableIn (map (policy_with_heirs l) ps)
heirs_readable l [] a = tt
heirs_readable l (p ∷ ps) a = (a.0, heirs_readable l ps a.1)

on_table : (table : ℕ) (ps : List TablePolicy) → AllByRecursion IsReadableIn ps
    → AllByRecursion IsReadablePolicy (map (λ (p : TablePolicy). p.policy) (filter (λ (p : TablePolicy). p.table == table) ps))
on_table table [] a = tt
on_table table (p ∷ ps) a =
    let more = map (λ (q : TablePolicy). q.policy) (filter (λ (q : TablePolicy). q.table == table) ps) in
    elim (p.table == table) as (λ b. AllByRecursion IsReadablePolicy (map (λ (q : TablePolicy). q.policy)
    (cond b (p ∷ filter (λ (q : TablePolicy). q.table == table) ps) (filter (λ (q : TablePolicy). q.table == table) ps))))
    [ true ↦ (a.0, on_table table ps a.1) | false ↦ on_table table ps a.1 ]

rules_readable : (l : Lists) (table : ℕ) (rules : TableRules) → AreReadable l → IsRulesOf (closed l) table rules → AreReadableRules rules
rules_readable l table rules are is =
    let all : List TablePolicy = map (policy_with_heirs l) l.policies in
    subst (AllByRecursion IsReadablePolicy) (sym is.policies)
    (ordered_all name_cmp IsReadablePolicy (map (λ (p : TablePolicy). p.policy) (filter (λ (p : TablePolicy). p.table == table) all))
    (on_table table all (heirs_readable l l.policies are.policies)))

all_at : {A : Type 0} (P : A → Type 0) (xs : List A) → ((n : ℕ) (x : A) → slice_get xs n ≡ Some x → P x) → AllByRecursion P xs
all_at P [] f = tt
all_at P (x ∷ xs) f = (f zero x refl, all_at P xs (λ n y e. f (suc n) y e))

file_named : (text : List ℕ) (file : List Placed) → IsFile text file → AllByRecursion IsReadablePlaced file
file_named text file is = statements_named is.written (names_kept text is.tokens is.utf8 is.cut) tt

pub names_readable : NamesAreReadable
names_readable text c is =
    let are = lists_readable is.file is.lists is.meant (file_named text is.file is.is_file) in
    record {
      tables = subst (AllByRecursion IsReadableTable) (sym is.holds.tables) are.tables;
      policies = all_at AreReadableRules c.rules.tables (λ n rules e. rules_readable is.lists n rules are (is.holds.rules n rules e));
    }
