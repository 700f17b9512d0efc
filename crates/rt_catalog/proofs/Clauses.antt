-- The statements leave an end of their tokens: where every token keeps a name in UTF-8, so does every token that is left.
use Rattle.std.proofs.Common.{ℕ, Bool, List, Option}
use Rattle.rt_sql.specs.Lexeme.{Lexeme}
use Rattle.rt_policy.specs.declared.expr.Expr.{Expr}
use Rattle.rt_catalog.specs.declared.statement.TableName.{TableName}
use Rattle.rt_catalog.specs.declared.statement.Mark.{Mark}
use Rattle.rt_catalog.specs.declared.statement.Item.{Item}
use Rattle.rt_catalog.specs.declared.statement.Login.{Login}
use Rattle.rt_catalog.specs.declared.statement.Command.{Command}
use Rattle.rt_catalog.specs.declared.statement.Statement.{Statement}
use Rattle.rt_catalog.specs.Grammar as g
use Rattle.rt_catalog.specs.Grammar.{Names, QNames, NameList, Marks, IsItem, Items, Logins, May, Columns, Stance, For}
use Rattle.rt_catalog.specs.Grammar.{To, Condition, IsStatement}
use Rattle.rt_catalog.proofs.Phrases.{KeepTexts, behind_keywords, behind_type, behind_table, behind_expr}

behind_names : {before all : List (List ℕ)} {xs ys : List Lexeme} → Names before all xs ys → KeepTexts xs → KeepTexts ys
behind_names (g.name_last name) keep = keep.1
behind_names (g.name_more name comma more) keep = behind_names more keep.1.1

behind_tables : {before all : List TableName} {xs ys : List Lexeme} → QNames before all xs ys → KeepTexts xs
    → KeepTexts ys
behind_tables (g.qname_last name) keep = behind_table name keep
behind_tables (g.qname_more name comma more) keep = behind_tables more (behind_table name keep).1

behind_name_list : {all : List (List ℕ)} {xs ys : List Lexeme} → NameList all xs ys → KeepTexts xs → KeepTexts ys
behind_name_list (g.name_list left names right) keep = (behind_names names keep.1).1

behind_marks : {before all : List Mark} {xs ys : List Lexeme} → Marks before all xs ys → KeepTexts xs → KeepTexts ys
behind_marks g.marks_end keep = keep
behind_marks (g.not_null words more) keep = behind_marks more (behind_keywords words keep)
behind_marks (g.null words more) keep = behind_marks more (behind_keywords words keep)
behind_marks (g.primary_key words more) keep = behind_marks more (behind_keywords words keep)

pub behind_item : {i : Item} {xs ys : List Lexeme} → IsItem i xs ys → KeepTexts xs → KeepTexts ys
behind_item (g.key words names) keep = behind_name_list names (behind_keywords words keep)
behind_item (g.column name type marks) keep = behind_marks marks (behind_type type keep.1)

behind_items : {before all : List Item} {xs ys : List Lexeme} → Items before all xs ys → KeepTexts xs → KeepTexts ys
behind_items (g.item_last one) keep = behind_item one keep
behind_items (g.item_more one comma more) keep = behind_items more (behind_item one keep).1

behind_logins : {before all : List Login} {xs ys : List Lexeme} → Logins before all xs ys → KeepTexts xs → KeepTexts ys
behind_logins g.logins_end keep = keep
behind_logins (g.login_more l word more) keep = behind_logins more keep.1

behind_may : {word : List ℕ} {xs ys : List Lexeme} → May word xs ys → KeepTexts xs → KeepTexts ys
behind_may g.without keep = keep
behind_may (g.stands word) keep = keep.1

behind_columns : {all : List (List ℕ)} {xs ys : List Lexeme} → Columns all xs ys → KeepTexts xs → KeepTexts ys
behind_columns g.no_columns keep = keep
behind_columns (g.columns names) keep = behind_name_list names keep

behind_stance : {restrictive : Bool} {xs ys : List Lexeme} → Stance restrictive xs ys → KeepTexts xs → KeepTexts ys
behind_stance g.no_stance keep = keep
behind_stance (g.permissive words) keep = behind_keywords words keep
behind_stance (g.restrictive words) keep = behind_keywords words keep

behind_command : {c : Command} {xs ys : List Lexeme} → For c xs ys → KeepTexts xs → KeepTexts ys
behind_command g.no_for keep = keep
behind_command (g.for words) keep = behind_keywords words keep

behind_roles : {all : List (List ℕ)} {xs ys : List Lexeme} → To all xs ys → KeepTexts xs → KeepTexts ys
behind_roles g.no_to keep = keep
behind_roles (g.to words names) keep = behind_names names (behind_keywords words keep)

behind_condition : {words : List (List ℕ)} {e : Option Expr} {xs ys : List Lexeme} → Condition words e xs ys
    → KeepTexts xs → KeepTexts ys
behind_condition g.no_condition keep = keep
behind_condition (g.condition words left one right) keep = (behind_expr one (behind_keywords words keep).1).1

pub behind_statement : {s : Statement} {xs ys : List Lexeme} → IsStatement s xs ys → KeepTexts xs → KeepTexts ys
behind_statement (g.table words name left items right) keep =
    (behind_items items (behind_table name (behind_keywords words keep)).1).1
behind_statement (g.role words name may logins) keep =
    behind_logins logins (behind_may may (behind_keywords words keep).1)
behind_statement (g.grant words selected on may tables to roles) keep =
    behind_names roles (behind_keywords to (behind_tables tables (behind_may may
    (behind_keywords on (behind_columns selected (behind_keywords words keep))))))
behind_statement (g.member words other groups to roles) keep =
    behind_names roles (behind_keywords to (behind_names groups (behind_keywords words keep)))
behind_statement (g.secure words name more) keep = behind_keywords more (behind_table name (behind_keywords words keep))
behind_statement (g.policy words name on table stance command roles using check) keep =
    behind_condition check (behind_condition using (behind_roles roles (behind_command command (behind_stance stance
    (behind_table table (behind_keywords on (behind_keywords words keep).1))))))
