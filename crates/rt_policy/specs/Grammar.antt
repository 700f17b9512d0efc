-- The grammar of expressions, a part of PostgreSQL's ("SQL Syntax", "Value Expressions"). Each phrase leads from tokens to tokens: xs is the
-- phrase, read as the tree, and then ys. The first index says whether the phrase stands inside an EXISTS.
use Rattle.std.specs.Prelude.{◌≡◌, ◌⊎◌, ℕ, Bool, true, false, List, [], ◌∷◌, ◌++◌, codes, Option, Some, None}
use Rattle.std.specs.List.{list_any}
use Rattle.std.specs.Str.{bytes_eq}
use Rattle.rt_sql.specs.declared.lexeme.TokenKind.TheVariants as kind
use Rattle.rt_sql.specs.Lexeme.{Lexeme, IsName, IsKeyword, IsSign, content}
use Rattle.rt_policy.specs.declared.judge.Comparison.{Comparison}
use Rattle.rt_policy.specs.declared.judge.Comparison.TheVariants as comparison
use Rattle.rt_policy.specs.declared.judge.Tested.{Tested}
use Rattle.rt_policy.specs.declared.judge.Tested.TheVariants as tested
use Rattle.rt_policy.specs.declared.expr.Literal.{Literal}
use Rattle.rt_policy.specs.declared.expr.Literal.TheVariants as literal
use Rattle.rt_policy.specs.declared.expr.TypeName.{TypeName}
use Rattle.rt_policy.specs.declared.expr.TypeName.TheVariants as type_name
use Rattle.rt_policy.specs.declared.expr.Selected.{Selected}
use Rattle.rt_policy.specs.declared.expr.Selected.TheVariants as selected
use Rattle.rt_policy.specs.declared.expr.Expr.{Expr}
use Rattle.rt_policy.specs.declared.expr.Expr.TheVariants as expr

-- a text in quotes, by what stands between them
abbrev pub IsText : List ℕ → Lexeme → Type 0
IsText text x = (x.kind ≡ kind.Text) × (content x ≡ text)

abbrev pub IsNumber : List ℕ → Lexeme → Type 0
IsNumber digits x = (x.kind ≡ kind.Number) × (x.bytes ≡ digits)

-- the words that are no names in an expression
abbrev pub reserved : List (List ℕ)
reserved =
    codes "and" ∷ codes "or" ∷ codes "not" ∷ codes "in" ∷ codes "is" ∷ codes "null" ∷ codes "true" ∷ codes "false" ∷ codes "exists" ∷ codes "select"
    ∷ codes "from" ∷ codes "where" ∷ []

-- a name in an expression: a quoted name, or a word that is none of those
abbrev pub IsNameWithin : List ℕ → Lexeme → Type 0
IsNameWithin name x = IsName name x × ((x.kind ≡ kind.Quoted) ⊎ (list_any (bytes_eq name) reserved ≡ false))

-- keywords one after another
pub data Keywords : List (List ℕ) → List Lexeme → List Lexeme → Type 0 where
  no_keyword : {xs : List Lexeme} → Keywords [] xs xs
  keyword : {word : List ℕ} {words : List (List ℕ)} {x : Lexeme} {xs ys : List Lexeme}
      → IsKeyword word x → Keywords words xs ys → Keywords (word ∷ words) (x ∷ xs) ys

-- ["(" number ")"] and ["(" number ["," number] ")"]: the numbers aren't used
pub data Length : List Lexeme → List Lexeme → Type 0 where
  no_length : {xs : List Lexeme} → Length xs xs
  length : {left n right : Lexeme} {digits : List ℕ} {xs : List Lexeme}
      → IsSign (codes "(") left → IsNumber digits n → IsSign (codes ")") right → Length (left ∷ n ∷ right ∷ xs) xs

pub data Lengths : List Lexeme → List Lexeme → Type 0 where
  one_length : {xs ys : List Lexeme} → Length xs ys → Lengths xs ys
  two_lengths : {left n comma m right : Lexeme} {digits more : List ℕ} {xs : List Lexeme}
      → IsSign (codes "(") left → IsNumber digits n → IsSign (codes ",") comma → IsNumber more m → IsSign (codes ")") right
      → Lengths (left ∷ n ∷ comma ∷ m ∷ right ∷ xs) xs

pub data Brackets : Bool → List Lexeme → List Lexeme → Type 0 where
  no_brackets : {xs : List Lexeme} → Brackets false xs xs
  brackets : {left right : Lexeme} {xs : List Lexeme} → IsSign (codes "[") left → IsSign (codes "]") right → Brackets true (left ∷ right ∷ xs) xs

-- a type, where IsTypeName says which tokens are names
pub data IsType (IsTypeName : List ℕ → Lexeme → Type 0) : TypeName → List Lexeme → List Lexeme → Type 0 where
  with_zone : {xs ys : List Lexeme}
      → Keywords (codes "timestamp" ∷ codes "with" ∷ codes "time" ∷ codes "zone" ∷ []) xs ys → IsType IsTypeName type_name.TimestampWithTimeZone xs ys
  without_zone : {xs ys : List Lexeme}
      → Keywords (codes "timestamp" ∷ codes "without" ∷ codes "time" ∷ codes "zone" ∷ []) xs ys → IsType IsTypeName type_name.TimestampWithoutTimeZone xs ys
  double : {xs ys : List Lexeme} → Keywords (codes "double" ∷ codes "precision" ∷ []) xs ys → IsType IsTypeName type_name.DoublePrecision xs ys
  varying : {xs ys zs : List Lexeme}
      → Keywords (codes "character" ∷ codes "varying" ∷ []) xs ys → Length ys zs → IsType IsTypeName type_name.CharacterVarying xs zs
  named : {name : List ℕ} {array : Bool} {x : Lexeme} {xs ys zs : List Lexeme}
      → IsTypeName name x → Lengths xs ys → Brackets array ys zs → IsType IsTypeName (type_name.Named name array) (x ∷ xs) zs

-- literal = text | ["-"] number | "true" | "false" | "null"
pub data IsLiteral : Literal → List Lexeme → List Lexeme → Type 0 where
  text : {t : List ℕ} {x : Lexeme} {xs : List Lexeme} → IsText t x → IsLiteral (literal.Text t) (x ∷ xs) xs
  number : {digits : List ℕ} {x : Lexeme} {xs : List Lexeme} → IsNumber digits x → IsLiteral (literal.Number false digits) (x ∷ xs) xs
  minus : {digits : List ℕ} {x y : Lexeme} {xs : List Lexeme} → IsSign (codes "-") x → IsNumber digits y → IsLiteral (literal.Number true digits) (x ∷ y ∷ xs) xs
  yes_literal : {x : Lexeme} {xs : List Lexeme} → IsKeyword (codes "true") x → IsLiteral (literal.Truth true) (x ∷ xs) xs
  no_literal : {x : Lexeme} {xs : List Lexeme} → IsKeyword (codes "false") x → IsLiteral (literal.Truth false) (x ∷ xs) xs
  null : {x : Lexeme} {xs : List Lexeme} → IsKeyword (codes "null") x → IsLiteral literal.Null (x ∷ xs) xs

-- "auth" "." name "(" ")"
pub data IsAuth (name : List ℕ) : List Lexeme → List Lexeme → Type 0 where
  auth : {a dot f left right : Lexeme} {xs : List Lexeme}
      → IsKeyword (codes "auth") a → IsSign (codes ".") dot → IsKeyword name f → IsSign (codes "(") left → IsSign (codes ")") right
      → IsAuth name (a ∷ dot ∷ f ∷ left ∷ right ∷ xs) xs

-- call = "auth" "." "uid" "(" ")" | "auth" "." "role" "(" ")" | "auth" "." "jwt" "(" ")" "->>" text
pub data IsCall : Expr → List Lexeme → List Lexeme → Type 0 where
  uid : {xs ys : List Lexeme} → IsAuth (codes "uid") xs ys → IsCall expr.Uid xs ys
  role : {xs ys : List Lexeme} → IsAuth (codes "role") xs ys → IsCall expr.Role xs ys
  jwt : {name : List ℕ} {arrow x : Lexeme} {xs ys : List Lexeme}
      → IsAuth (codes "jwt") xs (arrow ∷ x ∷ ys) → IsSign (codes "->>") arrow → IsText name x → IsCall (expr.Claim name) xs ys

-- column = [ name "." ] name
pub data IsColumn : Option (List ℕ) → List ℕ → List Lexeme → List Lexeme → Type 0 where
  bare : {name : List ℕ} {x : Lexeme} {xs : List Lexeme} → IsNameWithin name x → IsColumn None name (x ∷ xs) xs
  qualified : {qualifier name : List ℕ} {x dot y : Lexeme} {xs : List Lexeme}
      → IsNameWithin qualifier x → IsSign (codes ".") dot → IsNameWithin name y → IsColumn (Some qualifier) name (x ∷ dot ∷ y ∷ xs) xs

-- qname = [ name "." ] name; a name without a schema has the schema `public`
pub data IsTableName (IsOne : List ℕ → Lexeme → Type 0) : List ℕ → List ℕ → List Lexeme → List Lexeme → Type 0 where
  in_public : {name : List ℕ} {x : Lexeme} {xs : List Lexeme} → IsOne name x → IsTableName IsOne (codes "public") name (x ∷ xs) xs
  in_schema : {schema name : List ℕ} {x dot y : Lexeme} {xs : List Lexeme}
      → IsOne schema x → IsSign (codes ".") dot → IsOne name y → IsTableName IsOne schema name (x ∷ dot ∷ y ∷ xs) xs

-- "1" | "*" | column
pub data IsSelected : Selected → List Lexeme → List Lexeme → Type 0 where
  the_one : {x : Lexeme} {xs : List Lexeme} → IsNumber (codes "1") x → IsSelected selected.One (x ∷ xs) xs
  all_columns : {x : Lexeme} {xs : List Lexeme} → IsSign (codes "*") x → IsSelected selected.All (x ∷ xs) xs
  the_column : {qualifier : Option (List ℕ)} {name : List ℕ} {xs ys : List Lexeme} → IsColumn qualifier name xs ys → IsSelected (selected.Column qualifier name) xs ys

-- [["as"] name]
pub data IsAlias : Option (List ℕ) → List Lexeme → List Lexeme → Type 0 where
  no_alias : {xs : List Lexeme} → IsAlias None xs xs
  alias : {name : List ℕ} {x : Lexeme} {xs : List Lexeme} → IsNameWithin name x → IsAlias (Some name) (x ∷ xs) xs
  as_alias : {name : List ℕ} {x y : Lexeme} {xs : List Lexeme} → IsKeyword (codes "as") x → IsNameWithin name y → IsAlias (Some name) (x ∷ y ∷ xs) xs

-- op = "=" | "<>" | "!=" | "<" | "<=" | ">" | ">="
pub data IsComparison : Comparison → Lexeme → Type 0 where
  equal : {x : Lexeme} → IsSign (codes "=") x → IsComparison comparison.Equal x
  not_equal : {x : Lexeme} → IsSign (codes "<>") x → IsComparison comparison.NotEqual x
  unequal : {x : Lexeme} → IsSign (codes "!=") x → IsComparison comparison.NotEqual x
  less : {x : Lexeme} → IsSign (codes "<") x → IsComparison comparison.Less x
  less_or_equal : {x : Lexeme} → IsSign (codes "<=") x → IsComparison comparison.LessOrEqual x
  greater : {x : Lexeme} → IsSign (codes ">") x → IsComparison comparison.Greater x
  greater_or_equal : {x : Lexeme} → IsSign (codes ">=") x → IsComparison comparison.GreaterOrEqual x

abbrev pub tested_word : Tested → List ℕ
tested_word tested.Null = codes "null"
tested_word tested.True = codes "true"
tested_word tested.False = codes "false"
tested_word tested.Unknown = codes "unknown"

-- one stands for itself
abbrev pub conjunction : List Expr → Expr
conjunction (e ∷ []) = e
conjunction parts = expr.And parts

abbrev pub disjunction : List Expr → Expr
disjunction (e ∷ []) = e
disjunction parts = expr.Or parts

mutual
  -- expr = conj { "or" conj }
  pub data IsExpr : Bool → Expr → List Lexeme → List Lexeme → Type 0 where
    ors : {inside : Bool} {c e : Expr} {xs ys zs : List Lexeme}
        → IsConjunction inside c xs ys → Ors inside (c ∷ []) e ys zs → IsExpr inside e xs zs

  pub data Ors : Bool → List Expr → Expr → List Lexeme → List Lexeme → Type 0 where
    or_end : {inside : Bool} {before : List Expr} {xs : List Lexeme} → Ors inside before (disjunction before) xs xs
    or_more : {inside : Bool} {before : List Expr} {c e : Expr} {x : Lexeme} {xs ys zs : List Lexeme}
        → IsKeyword (codes "or") x → IsConjunction inside c xs ys → Ors inside (before ++ c ∷ []) e ys zs → Ors inside before e (x ∷ xs) zs

  -- conj = neg { "and" neg }
  pub data IsConjunction : Bool → Expr → List Lexeme → List Lexeme → Type 0 where
    ands : {inside : Bool} {n e : Expr} {xs ys zs : List Lexeme}
        → IsNegation inside n xs ys → Ands inside (n ∷ []) e ys zs → IsConjunction inside e xs zs

  pub data Ands : Bool → List Expr → Expr → List Lexeme → List Lexeme → Type 0 where
    and_end : {inside : Bool} {before : List Expr} {xs : List Lexeme} → Ands inside before (conjunction before) xs xs
    and_more : {inside : Bool} {before : List Expr} {n e : Expr} {x : Lexeme} {xs ys zs : List Lexeme}
        → IsKeyword (codes "and") x → IsNegation inside n xs ys → Ands inside (before ++ n ∷ []) e ys zs → Ands inside before e (x ∷ xs) zs

  -- neg = "not" neg | test; test = rel [ "is" .. ]; rel = operand [ .. ]
  pub data IsNegation : Bool → Expr → List Lexeme → List Lexeme → Type 0 where
    negated : {inside : Bool} {e : Expr} {x : Lexeme} {xs ys : List Lexeme}
        → IsKeyword (codes "not") x → IsNegation inside e xs ys → IsNegation inside (expr.Not e) (x ∷ xs) ys
    plain : {inside : Bool} {a r e : Expr} {xs ys zs us : List Lexeme}
        → IsOperand inside a xs ys → Related inside a r ys zs → TestedBy r e zs us → IsNegation inside e xs us

  -- [ "is" ["not"] ("null" | "true" | "false" | "unknown") ]
  pub data TestedBy : Expr → Expr → List Lexeme → List Lexeme → Type 0 where
    no_test : {e : Expr} {xs : List Lexeme} → TestedBy e e xs xs
    is : {e : Expr} {asked : Tested} {x y : Lexeme} {xs : List Lexeme}
        → IsKeyword (codes "is") x → IsKeyword (tested_word asked) y → TestedBy e (expr.Is false asked e) (x ∷ y ∷ xs) xs
    is_not : {e : Expr} {asked : Tested} {x n y : Lexeme} {xs : List Lexeme}
        → IsKeyword (codes "is") x → IsKeyword (codes "not") n → IsKeyword (tested_word asked) y → TestedBy e (expr.Is true asked e) (x ∷ n ∷ y ∷ xs) xs

  -- [ op operand | ["not"] "in" "(" operand { "," operand } ")" ]
  pub data Related : Bool → Expr → Expr → List Lexeme → List Lexeme → Type 0 where
    alone : {inside : Bool} {e : Expr} {xs : List Lexeme} → Related inside e e xs xs
    compare : {inside : Bool} {op : Comparison} {a b : Expr} {x : Lexeme} {xs ys : List Lexeme}
        → IsComparison op x → IsOperand inside b xs ys → Related inside a (expr.Compare op a b) (x ∷ xs) ys
    among : {inside : Bool} {a b : Expr} {all : List Expr} {x left : Lexeme} {xs ys zs : List Lexeme}
        → IsKeyword (codes "in") x → IsSign (codes "(") left → IsOperand inside b xs ys → Items inside (b ∷ []) all ys zs
        → Related inside a (expr.OneOf false a all) (x ∷ left ∷ xs) zs
    not_among : {inside : Bool} {a b : Expr} {all : List Expr} {n x left : Lexeme} {xs ys zs : List Lexeme}
        → IsKeyword (codes "not") n → IsKeyword (codes "in") x → IsSign (codes "(") left → IsOperand inside b xs ys → Items inside (b ∷ []) all ys zs
        → Related inside a (expr.OneOf true a all) (n ∷ x ∷ left ∷ xs) zs

  -- { "," operand } ")", with the operands before
  pub data Items : Bool → List Expr → List Expr → List Lexeme → List Lexeme → Type 0 where
    item_end : {inside : Bool} {all : List Expr} {right : Lexeme} {xs : List Lexeme} → IsSign (codes ")") right → Items inside all all (right ∷ xs) xs
    item_more : {inside : Bool} {before all : List Expr} {b : Expr} {comma : Lexeme} {xs ys zs : List Lexeme}
        → IsSign (codes ",") comma → IsOperand inside b xs ys → Items inside (before ++ b ∷ []) all ys zs → Items inside before all (comma ∷ xs) zs

  pub data IsOperand : Bool → Expr → List Lexeme → List Lexeme → Type 0 where
    constant : {inside : Bool} {l : Literal} {xs ys : List Lexeme} → IsLiteral l xs ys → IsOperand inside (expr.Literal l) xs ys
    cast : {inside : Bool} {l : Literal} {t : TypeName} {x : Lexeme} {xs ys zs : List Lexeme}
        → IsLiteral l xs (x ∷ ys) → IsSign (codes "::") x → IsType IsNameWithin t ys zs → IsOperand inside (expr.Cast l t) xs zs
    call : {inside : Bool} {e : Expr} {xs ys : List Lexeme} → IsCall e xs ys → IsOperand inside e xs ys
    -- "(" "select" call ")" stands for the call
    selected_call : {inside : Bool} {e : Expr} {left x right : Lexeme} {xs ys : List Lexeme}
        → IsSign (codes "(") left → IsKeyword (codes "select") x → IsCall e xs (right ∷ ys) → IsSign (codes ")") right
        → IsOperand inside e (left ∷ x ∷ xs) ys
    own_column : {inside : Bool} {qualifier : Option (List ℕ)} {name : List ℕ} {xs ys : List Lexeme}
        → IsColumn qualifier name xs ys → IsOperand inside (expr.Column qualifier name) xs ys
    group : {inside : Bool} {e : Expr} {left right : Lexeme} {xs ys : List Lexeme}
        → IsSign (codes "(") left → IsExpr inside e xs (right ∷ ys) → IsSign (codes ")") right → IsOperand inside (expr.Group e) (left ∷ xs) ys
    -- only outside of another EXISTS
    exists : {s : Selected} {schema table : List ℕ} {name : Option (List ℕ)} {condition : Option Expr} {x left select from right : Lexeme} {xs ys zs us vs : List Lexeme}
        → IsKeyword (codes "exists") x → IsSign (codes "(") left → IsKeyword (codes "select") select → IsSelected s xs (from ∷ ys)
        → IsKeyword (codes "from") from → IsTableName IsNameWithin schema table ys zs → IsAlias name zs us → Where condition us (right ∷ vs) → IsSign (codes ")") right
        → IsOperand false (expr.Exists s schema table name condition) (x ∷ left ∷ select ∷ xs) vs

  -- ["where" expr]
  pub data Where : Option Expr → List Lexeme → List Lexeme → Type 0 where
    no_where : {xs : List Lexeme} → Where None xs xs
    where_ : {e : Expr} {x : Lexeme} {xs ys : List Lexeme} → IsKeyword (codes "where") x → IsExpr true e xs ys → Where (Some e) (x ∷ xs) ys

-- the tokens are the expression
abbrev pub Written : Expr → List Lexeme → Type 0
Written e xs = IsExpr false e xs []
