-- The tables that an expression's subqueries read, each with the columns that it names of it.
use Rattle.std.specs.Prelude.{◌≡◌, ℕ, if◌then◌else◌, List, [], ◌∷◌, ◌++◌, length, Option, Some, None, option_map}
use Rattle.std.specs.List.{flat_map, range_with_len}
use Rattle.rt_policy.specs.declared.expr.Selected.{Selected}
use Rattle.rt_policy.specs.declared.expr.Selected.TheVariants.{One, All, Column as OfColumn}
use Rattle.rt_policy.specs.declared.expr.Expr.{Expr}
use Rattle.rt_policy.specs.declared.expr.Expr.TheOpen.{Expr-F}
use Rattle.rt_policy.specs.declared.expr.Expr.TheViews.{roll-Expr}
use Rattle.rt_policy.specs.declared.expr.Expr.TheFolds.{fold-Expr, map-Expr}
use Rattle.rt_policy.specs.declared.judge.Judge.{Judge}
use Rattle.rt_policy.specs.declared.judge.Judge.TheOpen.{Judge-F}
use Rattle.rt_policy.specs.declared.judge.Judge.TheFolds.{fold-Judge}
use Rattle.rt_policy.specs.declared.scope.Scope.{Scope}
use Rattle.rt_policy.specs.declared.meaning.Found.{Found}
use Rattle.rt_policy.specs.Resolution.{Reading, column_found, table_read}

-- a table that an EXISTS reads, and the columns of it that the EXISTS names
pub record TableReading : Type 0 where
  pub table : ℕ
  pub columns : List ℕ

-- the columns of the inner table that a part names, by what the EXISTS around it reads, and the subqueries in it
pub record Named : Type 0 where
  pub columns : Option Reading → List ℕ
  pub readings : List TableReading

abbrev pub inner_of : Option Found → List ℕ
inner_of None = []
inner_of (Some f) = if f.inner then f.column ∷ [] else []

abbrev pub nothing_named : Named
nothing_named = record { columns = λ at. []; readings = [] }

abbrev pub all_named : List Named → Named
all_named parts =
    record { columns = λ at. flat_map (λ p. p.columns at) parts; readings = flat_map (λ p. p.readings) parts }

-- `1` names no column, `*` every one
abbrev pub named_by_selected : Scope → Reading → Selected → List ℕ
named_by_selected scope r One = []
named_by_selected scope r All = range_with_len 0 (length r.table.columns)
named_by_selected scope r (OfColumn qualifier name) = inner_of (column_found scope (Some r) qualifier name)

abbrev pub named_by_condition : Reading → Option Named → List ℕ
named_by_condition r None = []
named_by_condition r (Some n) = n.columns (Some r)

abbrev pub reading_named : Scope → Selected → Option Named → Reading → TableReading
reading_named scope selects condition r =
    record { table = r.number; columns = named_by_selected scope r selects ++ named_by_condition r condition }

abbrev pub listed : {A : Type 0} → Option A → List A
listed None = []
listed (Some x) = x ∷ []

abbrev pub readings_within : Option Named → List TableReading
readings_within None = []
readings_within (Some n) = n.readings

-- a subquery's own reading, then those of the subqueries in its condition
abbrev pub readings_at : Scope → Selected → Option Named → Option Reading → List TableReading
readings_at scope selects condition r =
    listed (option_map (reading_named scope selects condition) r) ++ readings_within condition

abbrev pub named_step : Scope → Expr-F Named → Named
named_step scope (Expr-F.Literal l) = nothing_named
named_step scope (Expr-F.Cast l t) = nothing_named
named_step scope Expr-F.Uid = nothing_named
named_step scope Expr-F.Role = nothing_named
named_step scope (Expr-F.Claim name) = nothing_named
named_step scope (Expr-F.Column qualifier name) =
    record { columns = λ at. inner_of (column_found scope at qualifier name); readings = [] }
named_step scope (Expr-F.Group a) = a
named_step scope (Expr-F.Compare op a b) = all_named (a ∷ b ∷ [])
named_step scope (Expr-F.OneOf negated a items) = all_named (a ∷ items)
named_step scope (Expr-F.Not a) = a
named_step scope (Expr-F.And all) = all_named all
named_step scope (Expr-F.Or all) = all_named all
named_step scope (Expr-F.Is negated asked a) = a
named_step scope (Expr-F.Exists selects schema table alias condition) =
    record { columns = λ at. []; readings = readings_at scope selects condition (table_read scope schema table alias) }

abbrev pub named_in : Scope → Expr → Named
named_in scope = fold-Expr Named (named_step scope)

-- the subqueries of an expression, in the order in which they stand
unfoldable pub readings_of : Scope → Expr → List TableReading
readings_of scope e = (named_in scope e).readings

-- each expression names what its form says of what its parts name
abbrev pub IsNaming : Scope → (Expr → Named) → Type 0
IsNaming scope named = (form : Expr-F Expr) → named (roll-Expr form) ≡ named_step scope (map-Expr Expr Named named form)

-- one level of a judge, with the tables that the EXISTS in each part read
abbrev pub tables_step : Judge-F (List ℕ) → List ℕ
tables_step (Judge-F.Literal v) = []
tables_step (Judge-F.Outer n) = []
tables_step (Judge-F.Inner n) = []
tables_step Judge-F.Uid = []
tables_step Judge-F.Role = []
tables_step (Judge-F.Claim n) = []
tables_step (Judge-F.Compare op a b) = a ++ b
tables_step (Judge-F.OneOf a all) = a ++ flat_map (λ t. t) all
tables_step (Judge-F.Not a) = a
tables_step (Judge-F.And all) = flat_map (λ t. t) all
tables_step (Judge-F.Or all) = flat_map (λ t. t) all
tables_step (Judge-F.Is asked a) = a
tables_step (Judge-F.Exists t c) = t ∷ c

-- the tables that the EXISTS of a judge read, in the order in which they stand
abbrev pub tables_of : Judge → List ℕ
tables_of = fold-Judge (List ℕ) tables_step
