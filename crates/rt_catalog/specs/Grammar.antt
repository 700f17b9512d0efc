-- The grammar of the catalogue's statements (PostgreSQL, "SQL Commands": CREATE TABLE, CREATE ROLE, GRANT, ALTER TABLE, CREATE POLICY). Each
-- phrase leads from tokens to tokens: xs is the phrase, read as the tree, and then ys.
use Rattle.std.specs.Prelude.{◌≡◌, ℕ, ◌-◌, Bool, true, false, ◌||◌, not, is_some, List, [], ◌∷◌, ◌++◌, codes, length}
use Rattle.std.specs.Prelude.{Option, Some, None}
use Rattle.rt_sql.specs.Lexeme.{Lexeme, IsName, IsKeyword, IsSign}
use Rattle.rt_policy.specs.declared.expr.Expr.{Expr}
use Rattle.rt_policy.specs.declared.expr.TypeName.{TypeName}
use Rattle.rt_policy.specs.Grammar.{Keywords, IsType, IsTableName, IsExpr}
use Rattle.rt_catalog.specs.declared.statement.TableName.{TableName}
use Rattle.rt_catalog.specs.declared.statement.Mark.{Mark}
use Rattle.rt_catalog.specs.declared.statement.Mark.TheVariants as mark
use Rattle.rt_catalog.specs.declared.statement.Item.{Item}
use Rattle.rt_catalog.specs.declared.statement.Item.TheVariants as item
use Rattle.rt_catalog.specs.declared.statement.Login.{Login}
use Rattle.rt_catalog.specs.declared.statement.Login.TheVariants as login
use Rattle.rt_catalog.specs.declared.statement.Command.{Command}
use Rattle.rt_catalog.specs.declared.statement.Command.TheVariants as command
use Rattle.rt_catalog.specs.declared.statement.PolicyText.{PolicyText}
use Rattle.rt_catalog.specs.declared.statement.Statement.{Statement}
use Rattle.rt_catalog.specs.declared.statement.Statement.TheVariants as statement

-- qname = [ name "." ] name
abbrev pub IsQName : TableName → List Lexeme → List Lexeme → Type 0
IsQName q xs ys = IsTableName IsName q.schema q.name xs ys

-- name { "," name }, with the names before
pub data Names : List (List ℕ) → List (List ℕ) → List Lexeme → List Lexeme → Type 0 where
  name_last : {n : List ℕ} {x : Lexeme} {before : List (List ℕ)} {xs : List Lexeme} → IsName n x → Names before (before ++ n ∷ []) (x ∷ xs) xs
  name_more : {n : List ℕ} {x comma : Lexeme} {before all : List (List ℕ)} {xs ys : List Lexeme}
      → IsName n x → IsSign (codes ",") comma → Names (before ++ n ∷ []) all xs ys → Names before all (x ∷ comma ∷ xs) ys

-- qname { "," qname }
pub data QNames : List TableName → List TableName → List Lexeme → List Lexeme → Type 0 where
  qname_last : {q : TableName} {before : List TableName} {xs ys : List Lexeme} → IsQName q xs ys → QNames before (before ++ q ∷ []) xs ys
  qname_more : {q : TableName} {comma : Lexeme} {before all : List TableName} {xs ys zs : List Lexeme}
      → IsQName q xs (comma ∷ ys) → IsSign (codes ",") comma → QNames (before ++ q ∷ []) all ys zs → QNames before all xs zs

-- "(" name { "," name } ")"
pub data NameList : List (List ℕ) → List Lexeme → List Lexeme → Type 0 where
  name_list : {all : List (List ℕ)} {left right : Lexeme} {xs ys : List Lexeme}
      → IsSign (codes "(") left → Names [] all xs (right ∷ ys) → IsSign (codes ")") right → NameList all (left ∷ xs) ys

-- { "not" "null" | "null" | "primary" "key" }
pub data Marks : List Mark → List Mark → List Lexeme → List Lexeme → Type 0 where
  marks_end : {all : List Mark} {xs : List Lexeme} → Marks all all xs xs
  not_null : {before all : List Mark} {xs ys zs : List Lexeme}
      → Keywords (codes "not" ∷ codes "null" ∷ []) xs ys → Marks (before ++ mark.NotNull ∷ []) all ys zs → Marks before all xs zs
  null : {before all : List Mark} {xs ys zs : List Lexeme}
      → Keywords (codes "null" ∷ []) xs ys → Marks (before ++ mark.Null ∷ []) all ys zs → Marks before all xs zs
  primary_key : {before all : List Mark} {xs ys zs : List Lexeme}
      → Keywords (codes "primary" ∷ codes "key" ∷ []) xs ys → Marks (before ++ mark.PrimaryKey ∷ []) all ys zs → Marks before all xs zs

-- item = "primary" "key" "(" name { "," name } ")" | name type { .. }
pub data IsItem : Item → List Lexeme → List Lexeme → Type 0 where
  key : {all : List (List ℕ)} {xs ys zs : List Lexeme}
      → Keywords (codes "primary" ∷ codes "key" ∷ []) xs ys → NameList all ys zs → IsItem (item.Key all) xs zs
  column : {n : List ℕ} {t : TypeName} {all : List Mark} {x : Lexeme} {xs ys zs : List Lexeme}
      → IsName n x → IsType IsName t xs ys → Marks [] all ys zs → IsItem (item.Column n t all) (x ∷ xs) zs

-- item { "," item }
pub data Items : List Item → List Item → List Lexeme → List Lexeme → Type 0 where
  item_last : {i : Item} {before : List Item} {xs ys : List Lexeme} → IsItem i xs ys → Items before (before ++ i ∷ []) xs ys
  item_more : {i : Item} {comma : Lexeme} {before all : List Item} {xs ys zs : List Lexeme}
      → IsItem i xs (comma ∷ ys) → IsSign (codes ",") comma → Items (before ++ i ∷ []) all ys zs → Items before all xs zs

abbrev pub login_word : Login → List ℕ
login_word login.Login = codes "login"
login_word login.NoLogin = codes "nologin"
login_word login.Inherit = codes "inherit"
login_word login.NoInherit = codes "noinherit"
login_word login.BypassRls = codes "bypassrls"
login_word login.NoBypassRls = codes "nobypassrls"

-- { "login" | "nologin" | "inherit" | "noinherit" | "bypassrls" | "nobypassrls" }
pub data Logins : List Login → List Login → List Lexeme → List Lexeme → Type 0 where
  logins_end : {all : List Login} {xs : List Lexeme} → Logins all all xs xs
  login_more : (l : Login) {x : Lexeme} {before all : List Login} {xs ys : List Lexeme}
      → IsKeyword (login_word l) x → Logins (before ++ l ∷ []) all xs ys → Logins before all (x ∷ xs) ys

-- a word that may stand
pub data May (word : List ℕ) : List Lexeme → List Lexeme → Type 0 where
  without : {xs : List Lexeme} → May word xs xs
  stands : {x : Lexeme} {xs : List Lexeme} → IsKeyword word x → May word (x ∷ xs) xs

-- ["(" name { "," name } ")"]
pub data Columns : List (List ℕ) → List Lexeme → List Lexeme → Type 0 where
  no_columns : {xs : List Lexeme} → Columns [] xs xs
  columns : {all : List (List ℕ)} {xs ys : List Lexeme} → NameList all xs ys → Columns all xs ys

-- ["as" ("permissive" | "restrictive")]
pub data Stance : Bool → List Lexeme → List Lexeme → Type 0 where
  no_stance : {xs : List Lexeme} → Stance false xs xs
  permissive : {xs ys : List Lexeme} → Keywords (codes "as" ∷ codes "permissive" ∷ []) xs ys → Stance false xs ys
  restrictive : {xs ys : List Lexeme} → Keywords (codes "as" ∷ codes "restrictive" ∷ []) xs ys → Stance true xs ys

abbrev pub command_word : Command → List ℕ
command_word command.All = codes "all"
command_word command.Select = codes "select"
command_word command.Insert = codes "insert"
command_word command.Update = codes "update"
command_word command.Delete = codes "delete"

-- ["for" ("all" | "select" | "insert" | "update" | "delete")]
pub data For : Command → List Lexeme → List Lexeme → Type 0 where
  no_for : {xs : List Lexeme} → For command.All xs xs
  for : {c : Command} {xs ys : List Lexeme} → Keywords (codes "for" ∷ command_word c ∷ []) xs ys → For c xs ys

-- ["to" name { "," name }]
pub data To : List (List ℕ) → List Lexeme → List Lexeme → Type 0 where
  no_to : {xs : List Lexeme} → To [] xs xs
  to : {all : List (List ℕ)} {xs ys zs : List Lexeme} → Keywords (codes "to" ∷ []) xs ys → Names [] all ys zs → To all xs zs

-- [words "(" expr ")"]
pub data Condition (words : List (List ℕ)) : Option Expr → List Lexeme → List Lexeme → Type 0 where
  no_condition : {xs : List Lexeme} → Condition words None xs xs
  condition : {e : Expr} {left right : Lexeme} {xs ys zs : List Lexeme}
      → Keywords words xs (left ∷ ys) → IsSign (codes "(") left → IsExpr false e ys (right ∷ zs) → IsSign (codes ")") right
      → Condition words (Some e) xs zs

-- a policy for ALL or SELECT
abbrev pub selects : Command → Bool
selects command.All = true
selects command.Select = true
selects _ = false

pub data IsStatement : Statement → List Lexeme → List Lexeme → Type 0 where
  table : {q : TableName} {all : List Item} {left right : Lexeme} {xs ys zs us : List Lexeme}
      → Keywords (codes "create" ∷ codes "table" ∷ []) xs ys → IsQName q ys (left ∷ zs) → IsSign (codes "(") left → Items [] all zs (right ∷ us)
      → IsSign (codes ")") right → IsStatement (statement.Table q all) xs us
  role : {n : List ℕ} {all : List Login} {x : Lexeme} {xs ys zs us : List Lexeme}
      → Keywords (codes "create" ∷ codes "role" ∷ []) xs (x ∷ ys) → IsName n x → May (codes "with") ys zs → Logins [] all zs us
      → IsStatement (statement.Role n all) xs us
  grant : {names : List (List ℕ)} {tables : List TableName} {roles : List (List ℕ)} {xs ys zs us vs ws ts rs : List Lexeme}
      → Keywords (codes "grant" ∷ codes "select" ∷ []) xs ys → Columns names ys zs → Keywords (codes "on" ∷ []) zs us → May (codes "table") us vs
      → QNames [] tables vs ws → Keywords (codes "to" ∷ []) ws ts → Names [] roles ts rs
      → IsStatement (statement.Grant names tables roles) xs rs
  -- told from a grant of SELECT by the word behind GRANT
  member : {groups roles : List (List ℕ)} {x : Lexeme} {xs ys zs us vs : List Lexeme}
      → Keywords (codes "grant" ∷ []) xs (x ∷ ys) → (IsKeyword (codes "select") x → ⊥) → Names [] groups (x ∷ ys) zs
      → Keywords (codes "to" ∷ []) zs us → Names [] roles us vs
      → IsStatement (statement.Member groups roles) xs vs
  secure : {q : TableName} {xs ys zs us : List Lexeme}
      → Keywords (codes "alter" ∷ codes "table" ∷ []) xs ys → IsQName q ys zs
      → Keywords (codes "enable" ∷ codes "row" ∷ codes "level" ∷ codes "security" ∷ []) zs us
      → IsStatement (statement.Secure q) xs us
  policy : {p : PolicyText} {x : Lexeme} {xs ys zs us vs ws ts rs ss : List Lexeme}
      → Keywords (codes "create" ∷ codes "policy" ∷ []) xs (x ∷ ys) → IsName p.name x → Keywords (codes "on" ∷ []) ys zs → IsQName p.table zs us
      → Stance p.restrictive us vs → For p.command vs ws → To p.roles ws ts
      → Condition (codes "using" ∷ []) p.using ts rs → Condition (codes "with" ∷ codes "check" ∷ []) p.check rs ss
      → IsStatement (statement.Policy p) xs ss

-- a statement, and the number of its first token
pub record Placed : Type 0 where
  pub at : ℕ
  pub statement : Statement

-- a policy for ALL or SELECT needs USING; without it the `;` can't go on
abbrev pub may_end : Statement → Bool
may_end (statement.Policy p) = not (selects p.command) || is_some p.using
may_end _ = true

abbrev pub placed : ℕ → List Lexeme → Statement → Placed
placed count xs s = record { at = count - length xs; statement = s }

-- file = { statement ";" }, with the statements before; `count` is the number of all tokens
pub data Statements (count : ℕ) : List Placed → List Placed → List Lexeme → Type 0 where
  file_end : {all : List Placed} → Statements count all all []
  file_more : {before all : List Placed} {s : Statement} {semicolon : Lexeme} {xs ys : List Lexeme}
      → IsStatement s xs (semicolon ∷ ys) → may_end s ≡ true → IsSign (codes ";") semicolon
      → Statements count (before ++ placed count xs s ∷ []) all ys → Statements count before all xs

-- the tokens are the file
abbrev pub Written : List Placed → List Lexeme → Type 0
Written file xs = Statements (length xs) [] file xs

-- a file, and perhaps a statement behind it whose `;` hasn't come
pub data Begun (count : ℕ) : List Placed → List Placed → List Lexeme → Type 0 where
  begun_end : {all : List Placed} → Begun count all all []
  begun_last : {before : List Placed} {s : Statement} {xs : List Lexeme} → IsStatement s xs [] → Begun count before (before ++ placed count xs s ∷ []) xs
  begun_more : {before all : List Placed} {s : Statement} {semicolon : Lexeme} {xs ys : List Lexeme}
      → IsStatement s xs (semicolon ∷ ys) → may_end s ≡ true → IsSign (codes ";") semicolon
      → Begun count (before ++ placed count xs s ∷ []) all ys → Begun count before all xs

-- what the tokens that can go on are a front of
abbrev pub MayGoOn : List Placed → List Lexeme → Type 0
MayGoOn file xs = Begun (length xs) [] file xs
