-- Every name that the tokens of CREATE TABLE and CREATE POLICY give their trees is UTF-8, where every token keeps a name in UTF-8.
use Rattle.std.proofs.Common.{ℕ, List, [], ◌∷◌, ◌++◌, refl}
use Rattle.std.specs.Prelude.{⊤, codes, IsUtf8}
use Rattle.std.specs.List.{AllByRecursion}
use Rattle.rt_sql.specs.Lexeme.{Lexeme, IsName}
use Rattle.rt_sql.proofs.Kept.{name_utf8}
use Rattle.rt_policy.specs.declared.expr.TypeName.{TypeName}
use Rattle.rt_policy.specs.Types.{meaning_of, meaning_of_name}
use Rattle.rt_policy.specs.Grammar as p
use Rattle.rt_policy.specs.Grammar.{IsType, IsTableName}
use Rattle.rt_catalog.specs.declared.statement.Item.{Item}
use Rattle.rt_catalog.specs.declared.statement.Item.TheVariants as item
use Rattle.rt_catalog.specs.declared.statement.Statement.{Statement}
use Rattle.rt_catalog.specs.declared.statement.Statement.TheVariants as statement
use Rattle.rt_catalog.specs.Grammar as g
use Rattle.rt_catalog.specs.Grammar.{IsItem, Items, IsStatement, Placed, Statements, placed}
use Rattle.rt_catalog.proofs.Phrases.{KeepTexts, behind_keywords, behind_table}
use Rattle.rt_catalog.proofs.Clauses.{behind_item, behind_statement}
use Rattle.rt_catalog.proofs.Shown.{ascii_utf8, name_shown, array_shown}

abbrev pub IsReadableItem : Item → Type 0
IsReadableItem (item.Column name t marks) = IsUtf8 name × IsUtf8 (meaning_of t).shown
IsReadableItem (item.Key names) = ⊤

-- of other statements nothing is said, since they make no table and no policy
abbrev pub IsReadableStatement : Statement → Type 0
IsReadableStatement (statement.Table q items) = IsUtf8 q.schema × IsUtf8 q.name × AllByRecursion IsReadableItem items
IsReadableStatement (statement.Policy q) = IsUtf8 q.name
IsReadableStatement _ = ⊤

abbrev pub IsReadablePlaced : Placed → Type 0
IsReadablePlaced s = IsReadableStatement s.statement

pub all_push : {A : Type 0} (P : A → Type 0) (xs : List A) (x : A) → AllByRecursion P xs → P x
    → AllByRecursion P (xs ++ x ∷ [])
all_push P [] x before last = (last, tt)
all_push P (y ∷ xs) x before last = (before.0, all_push P xs x before.1 last)

type_shown : {t : TypeName} {xs ys : List Lexeme} → IsType IsName t xs ys → KeepTexts xs → IsUtf8 (meaning_of t).shown
type_shown (p.with_zone words) keep = ascii_utf8 (codes "timestamptz") refl
type_shown (p.without_zone words) keep = ascii_utf8 (codes "timestamp") refl
type_shown (p.double words) keep = ascii_utf8 (codes "float8") refl
type_shown (p.varying words one) keep = ascii_utf8 (codes "varchar") refl
type_shown (p.named {name = name} {array = array} {x = x} is lengths ends) keep =
    array_shown array (meaning_of_name name) (name_shown name (name_utf8 name x is keep.0))

table_named : {schema name : List ℕ} {xs ys : List Lexeme} → IsTableName IsName schema name xs ys → KeepTexts xs
    → IsUtf8 schema × IsUtf8 name
table_named (p.in_public {name = name} {x = x} is) keep = (ascii_utf8 (codes "public") refl, name_utf8 name x is keep.0)
table_named (p.in_schema {schema = schema} {name = name} {x = x} {y = y} first dot second) keep =
    (name_utf8 schema x first keep.0, name_utf8 name y second keep.1.1.0)

item_named : {i : Item} {xs ys : List Lexeme} → IsItem i xs ys → KeepTexts xs → IsReadableItem i
item_named (g.key words names) keep = tt
item_named (g.column {n = n} {x = x} is type marks) keep = (name_utf8 n x is keep.0, type_shown type keep.1)

items_named : {before all : List Item} {xs ys : List Lexeme} → Items before all xs ys → KeepTexts xs
    → AllByRecursion IsReadableItem before
    → AllByRecursion IsReadableItem all
items_named (g.item_last {i = i} {before = before} one) keep so_far =
    all_push IsReadableItem before i so_far (item_named one keep)
items_named (g.item_more {i = i} {before = before} one comma more) keep so_far =
    items_named more (behind_item one keep).1 (all_push IsReadableItem before i so_far (item_named one keep))

statement_named : {s : Statement} {xs ys : List Lexeme} → IsStatement s xs ys → KeepTexts xs → IsReadableStatement s
statement_named (g.table words name left items right) keep =
    let named = table_named name (behind_keywords words keep) in
    (named.0, named.1, items_named items (behind_table name (behind_keywords words keep)).1 tt)
statement_named (g.role _ _ _ _) keep = tt
statement_named (g.grant _ _ _ _ _ _ _) keep = tt
statement_named (g.member _ _ _ _ _) keep = tt
statement_named (g.secure _ _ _) keep = tt
statement_named (g.policy {p = q} {x = x} words is _ _ _ _ _ _ _) keep = name_utf8 q.name x is (behind_keywords words keep).0

pub statements_named : {count : ℕ} {before all : List Placed} {xs : List Lexeme} → Statements count before all xs
    → KeepTexts xs
    → AllByRecursion IsReadablePlaced before → AllByRecursion IsReadablePlaced all
statements_named g.file_end keep so_far = so_far
statements_named {count = count} (g.file_more {before = before} {s = s} {xs = xs} one ends semicolon more) keep so_far =
    statements_named more (behind_statement one keep).1
    (all_push IsReadablePlaced before (placed count xs s) so_far (statement_named one keep))
