-- How deep an expression is, and the names in it.
use Rattle.std.specs.Prelude.{ℕ, ◌+◌, max, nat_le, nat_lt, Bool, List, [], ◌∷◌, ◌++◌, length, Option, Some, None}
use Rattle.std.specs.List.{flat_map, list_any}
use Rattle.rt_policy.specs.declared.expr.TypeName.{TypeName}
use Rattle.rt_policy.specs.declared.expr.TypeName.TheVariants.{Named}
use Rattle.rt_policy.specs.declared.expr.Selected.{Selected}
use Rattle.rt_policy.specs.declared.expr.Selected.TheVariants.{Column as OfColumn}
use Rattle.rt_policy.specs.declared.expr.Expr.{Expr}
use Rattle.rt_policy.specs.declared.expr.Expr.TheOpen.{Expr-F}
use Rattle.rt_policy.specs.declared.expr.Expr.TheFolds.{fold-Expr}
use Rattle.rt_policy.specs.Ranks.{largest}

abbrev pub behind_where : Option ℕ → ℕ
behind_where None = 0
behind_where (Some n) = n + 1

-- A NOT, parentheses round an expression or a list, and a WHERE enclose their operands. AND and OR enclose nothing.
abbrev pub enclosing_step : Expr-F ℕ → ℕ
enclosing_step (Expr-F.Literal l) = 0
enclosing_step (Expr-F.Cast l t) = 0
enclosing_step Expr-F.Uid = 0
enclosing_step Expr-F.Role = 0
enclosing_step (Expr-F.Claim name) = 0
enclosing_step (Expr-F.Column qualifier name) = 0
enclosing_step (Expr-F.Group a) = a + 1
enclosing_step (Expr-F.Compare op a b) = max a b
enclosing_step (Expr-F.OneOf negated a items) = max a (largest items + 1)
enclosing_step (Expr-F.Not a) = a + 1
enclosing_step (Expr-F.And all) = largest all
enclosing_step (Expr-F.Or all) = largest all
enclosing_step (Expr-F.Is negated asked a) = a
enclosing_step (Expr-F.Exists selected schema table alias condition) = behind_where condition

-- the greatest number of these that enclose an operand
abbrev pub enclosing : Expr → ℕ
enclosing = fold-Expr ℕ enclosing_step

-- 1 more than that
abbrev pub depth : Expr → ℕ
depth e = enclosing e + 1

abbrev pub depth_limit : ℕ
depth_limit = 32

abbrev pub is_shallow : Expr → Bool
is_shallow e = nat_le (depth e) depth_limit

abbrev pub names_of_option : Option (List ℕ) → List (List ℕ)
names_of_option None = []
names_of_option (Some name) = name ∷ []

abbrev pub names_of_type : TypeName → List (List ℕ)
names_of_type (Named name array) = name ∷ []
names_of_type _ = []

abbrev pub names_of_selected : Selected → List (List ℕ)
names_of_selected (OfColumn qualifier name) = names_of_option qualifier ++ name ∷ []
names_of_selected _ = []

abbrev pub names_or_none : Option (List (List ℕ)) → List (List ℕ)
names_or_none None = []
names_or_none (Some names) = names

abbrev pub names_step : Expr-F (List (List ℕ)) → List (List ℕ)
names_step (Expr-F.Literal l) = []
names_step (Expr-F.Cast l t) = names_of_type t
names_step Expr-F.Uid = []
names_step Expr-F.Role = []
names_step (Expr-F.Claim name) = []
names_step (Expr-F.Column qualifier name) = names_of_option qualifier ++ name ∷ []
names_step (Expr-F.Group a) = a
names_step (Expr-F.Compare op a b) = a ++ b
names_step (Expr-F.OneOf negated a items) = a ++ flat_map (λ n. n) items
names_step (Expr-F.Not a) = a
names_step (Expr-F.And all) = flat_map (λ n. n) all
names_step (Expr-F.Or all) = flat_map (λ n. n) all
names_step (Expr-F.Is negated asked a) = a
names_step (Expr-F.Exists selected schema table alias condition) =
    names_of_selected selected ++ schema ∷ table ∷ names_of_option alias ++ names_or_none condition

-- every name in an expression: of columns, qualifiers, tables, schemas, aliases and types
abbrev pub names_in : Expr → List (List ℕ)
names_in = fold-Expr (List (List ℕ)) names_step

-- the greatest length of a name, in bytes
abbrev pub name_limit : ℕ
name_limit = 63

abbrev pub is_long : List ℕ → Bool
is_long name = nat_lt name_limit (length name)

abbrev pub has_long_name : Expr → Bool
has_long_name e = list_any is_long (names_in e)
