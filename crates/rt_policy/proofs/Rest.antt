-- What may follow in a state: the tokens zs bring it to its end, with the tree out.
use Rattle.std.proofs.Common.{◌≡◌, ℕ, ◌⊎◌, Bool, true, false, List, [], ◌∷◌, ◌++◌, codes, Option, Some, None}
use Rattle.rt_sql.specs.Lexeme.{Lexeme, IsKeyword, IsSign}
use Rattle.rt_policy.specs.Grammar.{IsText, IsNumber, IsNameWithin, Keywords, Length, Lengths, Brackets, IsType}
use Rattle.rt_policy.specs.Grammar.{IsTableName, IsSelected, IsAlias, tested_word}
use Rattle.rt_policy.specs.Grammar.{IsExpr, Ors, Ands, IsNegation, TestedBy, Related, Items, IsOperand, Where}
use Rattle.rt_policy.specs.Words.{class_of}
use Rattle.rt_policy.specs.Parts.{cast_to_name, function_text, source, exists_of, class_for}
use Rattle.rt_policy.specs.Machine.{inside}
use Rattle.rt_policy.specs.declared.judge.Tested.{Tested}
use Rattle.rt_policy.specs.declared.expr.Literal.{Literal}
use Rattle.rt_policy.specs.declared.expr.Literal.TheVariants as literal
use Rattle.rt_policy.specs.declared.expr.TypeName.{TypeName}
use Rattle.rt_policy.specs.declared.expr.TypeName.TheVariants as type_name
use Rattle.rt_policy.specs.declared.expr.Selected.{Selected}
use Rattle.rt_policy.specs.declared.expr.Selected.TheVariants as selected
use Rattle.rt_policy.specs.declared.expr.Expr.{Expr}
use Rattle.rt_policy.specs.declared.expr.Expr.TheVariants as expr
use Rattle.rt_policy.specs.declared.part.Wanted.{Wanted}
use Rattle.rt_policy.specs.declared.part.Function.{Function}
use Rattle.rt_policy.specs.declared.part.Function.TheVariants as function
use Rattle.rt_policy.specs.declared.part.Head.{Head}
use Rattle.rt_policy.specs.declared.part.Head.TheVariants as head
use Rattle.rt_policy.specs.declared.part.Source.{Source}
use Rattle.rt_policy.specs.declared.part.Goal.{Goal}
use Rattle.rt_policy.specs.declared.part.Goal.TheVariants as goal
use Rattle.rt_policy.specs.declared.part.Part.{Part}
use Rattle.rt_policy.specs.declared.part.Part.TheVariants as part
use Rattle.rt_policy.specs.declared.building.Slot.{Slot}
use Rattle.rt_policy.specs.declared.building.Slot.TheVariants as slot
use Rattle.rt_policy.specs.declared.building.Level.{Level}
use Rattle.rt_policy.specs.declared.building.Frame.{Frame}
use Rattle.rt_policy.specs.declared.building.Frame.TheVariants as frame
use Rattle.rt_policy.specs.declared.building.Mode.{Mode}
use Rattle.rt_policy.specs.declared.building.Mode.TheVariants as mode
use Rattle.rt_policy.specs.declared.building.State.{State}

-- a token, and what is behind it
abbrev pub After : (Lexeme → Type 0) → (List Lexeme → Type 0) → List Lexeme → Type 0
After P Q zs = (x : Lexeme) × (us : List Lexeme) × (zs ≡ x ∷ us) × P x × Q us

-- Within an operand: the tree of the operand, and the tokens before and behind what is left of it

abbrev pub Tail : Type 1
Tail = Expr → List Lexeme → List Lexeme → Type 0

abbrev pub Is : Expr → Tail
Is v e zs ys = (e ≡ v) × (zs ≡ ys)

abbrev pub CastTail : Literal → Tail
CastTail l e zs ys = (t : TypeName) × IsType IsNameWithin t zs ys × (e ≡ expr.Cast l t)

abbrev pub ConstantTail : Literal → Tail
ConstantTail l e zs ys = Is (expr.Literal l) e zs ys ⊎ After (IsSign (codes "::")) (λ us. CastTail l e us ys) zs

abbrev pub NamedTail : List ℕ → TypeName → List Lexeme → List Lexeme → Type 0
NamedTail name t zs ys = (us : List Lexeme) × (array : Bool) × Lengths zs us × Brackets array us ys
    × (t ≡ type_name.Named name array)

abbrev pub TypeTail : Head → List ℕ → TypeName → List Lexeme → List Lexeme → Type 0
TypeTail head.Timestamp name t zs ys =
    NamedTail name t zs ys
    ⊎ (((t ≡ type_name.TimestampWithTimeZone) × Keywords (codes "with" ∷ codes "time" ∷ codes "zone" ∷ []) zs ys)
    ⊎ ((t ≡ type_name.TimestampWithoutTimeZone) × Keywords (codes "without" ∷ codes "time" ∷ codes "zone" ∷ []) zs ys))
TypeTail head.Double name t zs ys = NamedTail name t zs ys ⊎ ((t ≡ type_name.DoublePrecision)
    × Keywords (codes "precision" ∷ []) zs ys)
TypeTail head.Character name t zs ys =
    NamedTail name t zs ys ⊎ ((us : List Lexeme) × (t ≡ type_name.CharacterVarying)
    × Keywords (codes "varying" ∷ []) zs us × Length us ys)
TypeTail head.Other name t zs ys = NamedTail name t zs ys

abbrev pub BracketsTail : Literal → List ℕ → Tail
BracketsTail l name e zs ys = (array : Bool) × Brackets array zs ys × (e ≡ cast_to_name l name array)

-- behind the first number of a type's lengths
abbrev pub LengthsTail : List Lexeme → List Lexeme → Type 0
LengthsTail zs us =
    After (IsSign (codes ")")) (λ vs. vs ≡ us) zs
    ⊎ After (IsSign (codes ",")) (λ vs. (digits : List ℕ)
    × After (IsNumber digits) (After (IsSign (codes ")")) (λ ws. ws ≡ us)) vs) zs

-- a call, and a parenthesis where SELECT stands before it
abbrev pub EndTail : Bool → Expr → Tail
EndTail true v e zs ys = After (IsSign (codes ")")) (λ us. Is v e us ys) zs
EndTail false v e zs ys = Is v e zs ys

abbrev pub ClaimTail : Bool → Tail
ClaimTail s e zs ys = (name : List ℕ) × After (IsText name) (λ us. EndTail s (expr.Claim name) e us ys) zs

abbrev pub CalledTail : Bool → Function → Tail
CalledTail s function.Uid e zs ys = EndTail s expr.Uid e zs ys
CalledTail s function.Role e zs ys = EndTail s expr.Role e zs ys
CalledTail s function.Jwt e zs ys = After (IsSign (codes "->>")) (λ us. ClaimTail s e us ys) zs

abbrev pub CallTail : Bool → Function → Tail
CallTail s f e zs ys = After (IsSign (codes "(")) (After (IsSign (codes ")")) (λ us. CalledTail s f e us ys)) zs

abbrev pub FunctionTail : Bool → Tail
FunctionTail s e zs ys = (f : Function) × After (IsKeyword (function_text f)) (λ us. CallTail s f e us ys) zs

abbrev pub DottedTail : Bool → List ℕ → Tail
DottedTail auth qualifier e zs ys =
    ((name : List ℕ) × After (IsNameWithin name) (λ us. Is (expr.Column (Some qualifier) name) e us ys) zs) ⊎
    ((auth ≡ true) × FunctionTail false e zs ys)

-- an EXISTS
abbrev pub SourceTail : Source → Tail
SourceTail r e zs ys = (k : Option Expr) × (right : Lexeme) × Where k zs (right ∷ ys) × IsSign (codes ")") right
    × (e ≡ exists_of r k)

abbrev pub AliasTail : Selected → List ℕ → List ℕ → Tail
AliasTail s schema table e zs ys = (name : Option (List ℕ)) × (us : List Lexeme) × IsAlias name zs us
    × SourceTail (source s schema table name) e us ys

abbrev pub AsTail : Selected → List ℕ → List ℕ → Tail
AsTail s schema table e zs ys =
    ((name : List ℕ) × After (IsNameWithin name) (λ us. SourceTail (source s schema table (Some name)) e us ys) zs)
    ⊎ SourceTail (source s schema table (Some (codes "as"))) e zs ys

abbrev pub TableDottedTail : Selected → List ℕ → Tail
TableDottedTail s schema e zs ys =
    (name : List ℕ) × After (IsNameWithin name) (λ us. AliasTail s schema name e us ys) zs

abbrev pub TableNamedTail : Selected → List ℕ → Tail
TableNamedTail s name e zs ys =
    AliasTail s (codes "public") name e zs ys ⊎ After (IsSign (codes ".")) (λ us. TableDottedTail s name e us ys) zs

abbrev pub TableTail : Selected → Tail
TableTail s e zs ys =
    (schema table : List ℕ) × (us : List Lexeme) × IsTableName IsNameWithin schema table zs us
    × AliasTail s schema table e us ys

abbrev pub FromTail : Selected → Tail
FromTail s e zs ys = After (IsKeyword (codes "from")) (λ us. TableTail s e us ys) zs

abbrev pub SelectsDottedTail : List ℕ → Tail
SelectsDottedTail qualifier e zs ys =
    (name : List ℕ) × After (IsNameWithin name) (λ us. FromTail (selected.Column (Some qualifier) name) e us ys) zs

abbrev pub SelectsTail : Tail
SelectsTail e zs ys = (s : Selected) × (us : List Lexeme) × IsSelected s zs us × FromTail s e us ys

abbrev pub GoalTail : Goal → Tail
GoalTail (goal.Whole v) e zs ys = Is v e zs ys
GoalTail (goal.Constant l) e zs ys = ConstantTail l e zs ys
GoalTail goal.Minus e zs ys =
    (digits : List ℕ) × After (IsNumber digits) (λ us. ConstantTail (literal.Number true digits) e us ys) zs
GoalTail (goal.Cast l) e zs ys = CastTail l e zs ys
GoalTail (goal.TypeWord l h name) e zs ys = (t : TypeName) × TypeTail h name t zs ys × (e ≡ expr.Cast l t)
GoalTail (goal.Varying l) e zs ys = Length zs ys × (e ≡ expr.Cast l type_name.CharacterVarying)
GoalTail (goal.Length l name) e zs ys = (us : List Lexeme) × LengthsTail zs us × BracketsTail l name e us ys
GoalTail (goal.Lengthened l name) e zs ys = BracketsTail l name e zs ys
GoalTail (goal.Named auth name) e zs ys =
    Is (expr.Column None name) e zs ys ⊎ After (IsSign (codes ".")) (λ us. DottedTail auth name e us ys) zs
GoalTail (goal.Dotted auth name) e zs ys = DottedTail auth name e zs ys
GoalTail (goal.Called f qualifier) e zs ys =
    Is (expr.Column (Some qualifier) (function_text f)) e zs ys ⊎ CallTail false f e zs ys
GoalTail (goal.ClaimName s) e zs ys = ClaimTail s e zs ys
GoalTail goal.SelectedFunction e zs ys = FunctionTail true e zs ys
GoalTail goal.Selects e zs ys = SelectsTail e zs ys
GoalTail (goal.SelectsName name) e zs ys =
    FromTail (selected.Column None name) e zs ys ⊎ After (IsSign (codes ".")) (λ us. SelectsDottedTail name e us ys) zs
GoalTail (goal.SelectsDotted name) e zs ys = SelectsDottedTail name e zs ys
GoalTail (goal.Table s) e zs ys = TableTail s e zs ys
GoalTail (goal.TableNamed s name) e zs ys = TableNamedTail s name e zs ys
GoalTail (goal.TableDotted s name) e zs ys = TableDottedTail s name e zs ys
GoalTail (goal.Alias s schema table) e zs ys = AliasTail s schema table e zs ys
GoalTail (goal.As s schema table) e zs ys = AsTail s schema table e zs ys
GoalTail (goal.Aliased r) e zs ys = SourceTail r e zs ys

abbrev pub Met : Wanted → Lexeme → Type 0
Met a x = class_of x ≡ class_for a

abbrev pub PartTail : Part → Tail
PartTail (part.At g) e zs ys = GoalTail g e zs ys
PartTail (part.One a g) e zs ys = After (Met a) (λ us. GoalTail g e us ys) zs
PartTail (part.Two a b g) e zs ys = After (Met a) (After (Met b) (λ us. GoalTail g e us ys)) zs
PartTail (part.Three a b c g) e zs ys = After (Met a) (After (Met b) (After (Met c) (λ us. GoalTail g e us ys))) zs

-- In an expression: the tokens behind a tree, with the tree of the whole

abbrev pub Behind : Type 1
Behind = Expr → List Lexeme → Expr → Type 0

abbrev pub BehindRelated : Behind → Behind
BehindRelated K r zs out = (e : Expr) × (ys : List Lexeme) × TestedBy r e zs ys × K e ys out

abbrev pub BehindOperand : Behind → Bool → Behind
BehindOperand K i a zs out = (r : Expr) × (ys : List Lexeme) × Related i a r zs ys × BehindRelated K r ys out

abbrev pub BehindItems : Behind → Bool → Bool → Expr → List Expr → List Lexeme → Expr → Type 0
BehindItems K i n a items zs out = (all : List Expr) × (ys : List Lexeme) × Items i items all zs ys
    × BehindRelated K (expr.OneOf n a all) ys out

abbrev pub BehindGiven : Behind → Bool → Slot → Behind
BehindGiven K i slot.First v zs out = BehindOperand K i v zs out
BehindGiven K i (slot.Right op a) v zs out = BehindRelated K (expr.Compare op a v) zs out
BehindGiven K i (slot.Item n a items) v zs out = BehindItems K i n a (items ++ v ∷ []) zs out

abbrev pub Wanting : Behind → Bool → Slot → List Lexeme → Expr → Type 0
Wanting K i slot.First zs out = (n : Expr) × (ys : List Lexeme) × IsNegation i n zs ys × K n ys out
Wanting K i (slot.Right op a) zs out = (b : Expr) × (ys : List Lexeme) × IsOperand i b zs ys
    × BehindGiven K i (slot.Right op a) b ys out
Wanting K i (slot.Item n a items) zs out = (b : Expr) × (ys : List Lexeme) × IsOperand i b zs ys
    × BehindGiven K i (slot.Item n a items) b ys out

abbrev pub Closes : Behind → Behind
Closes K e zs out = After (IsSign (codes ")")) (λ ys. K e ys out) zs

abbrev pub Chained : Behind → Bool → List Expr → List Expr → List Lexeme → Expr → Type 0
Chained K i ors all zs out =
    (c d : Expr) × (ys ws : List Lexeme) × Ands i all c zs ys × Ors i (ors ++ c ∷ []) d ys ws × K d ws out

abbrev pub BehindTest : List Frame → Level → Behind
BehindTest [] l e zs out = Chained (λ d ws o. (ws ≡ []) × (o ≡ d)) false l.ors (l.ands ++ e ∷ []) zs out
BehindTest (frame.Not outer ∷ st) l e zs out = BehindTest st outer (expr.Not e) zs out
BehindTest (frame.Group outer s ∷ st) l e zs out =
    Chained (λ d ws o. Closes (BehindGiven (BehindTest st outer) (inside st) s) (expr.Group d) ws o) (inside st) l.ors
    (l.ands ++ e ∷ []) zs out
BehindTest (frame.Where outer s r ∷ st) l e zs out =
    Chained (λ d ws o. Closes (BehindGiven (BehindTest st outer) (inside st) s) (exists_of r
    (Some d)) ws o) true l.ors (l.ands ++ e ∷ []) zs out

abbrev pub BehindClosed : List Frame → Behind
BehindClosed [] d ws out = (ws ≡ []) × (out ≡ d)
BehindClosed (frame.Not outer ∷ st) d ws out = ⊥
BehindClosed (frame.Group outer s ∷ st) d ws out =
    Closes (BehindGiven (BehindTest st outer) (inside st) s) (expr.Group d) ws out
BehindClosed (frame.Where outer s r ∷ st) d ws out =
    Closes (BehindGiven (BehindTest st outer) (inside st) s) (exists_of r (Some d)) ws out

-- what is left of an operand, and what is behind it
abbrev pub Operand : Behind → Bool → Slot → Part → List Lexeme → Expr → Type 0
Operand K i s p zs out = (e : Expr) × (ys : List Lexeme) × PartTail p e zs ys × BehindGiven K i s e ys out

-- behind a parenthesis where an operand begins
abbrev pub OpenedTail : Bool → Tail
OpenedTail i e zs ys =
    After (IsKeyword (codes "select")) (λ us. After (IsKeyword (codes "auth")) (After (IsSign (codes "."))
    (λ vs. FunctionTail true e vs ys)) us) zs
    ⊎ ((d : Expr) × (right : Lexeme) × IsExpr i d zs (right ∷ ys) × IsSign (codes ")") right × (e ≡ expr.Group d))

abbrev pub Asked : Behind → Bool → Expr → List Lexeme → Expr → Type 0
Asked K n a zs out = (asked : Tested) × After (IsKeyword (tested_word asked)) (λ us. K (expr.Is n asked a) us out) zs

abbrev pub Listed : Behind → Bool → Bool → Expr → List Lexeme → Expr → Type 0
Listed K i n a zs out = After (IsSign (codes "(")) (λ us. Wanting K i (slot.Item n a []) us out) zs

abbrev pub RestIn : Behind → Bool → Mode → List Lexeme → Expr → Type 0
RestIn K i (mode.Want s) zs out = Wanting K i s zs out
RestIn K i (mode.Opened s) zs out = (e : Expr) × (ys : List Lexeme) × OpenedTail i e zs ys × BehindGiven K i s e ys out
RestIn K i (mode.Within s p) zs out = Operand K i s p zs out
RestIn K i (mode.Operand a) zs out = BehindOperand K i a zs out
RestIn K i (mode.Related r) zs out = BehindRelated K r zs out
RestIn K i (mode.Tested e) zs out = K e zs out
RestIn K i (mode.NotIn a) zs out = After (IsKeyword (codes "in")) (λ us. Listed K i true a us out) zs
RestIn K i (mode.In n a) zs out = Listed K i n a zs out
RestIn K i (mode.Items n a items) zs out = BehindItems K i n a items zs out
RestIn K i (mode.Is a) zs out =
    Asked K false a zs out ⊎ After (IsKeyword (codes "not")) (λ us. Asked K true a us out) zs
RestIn K i (mode.IsNot a) zs out = Asked K true a zs out

abbrev pub Rest : State → List Lexeme → Expr → Type 0
Rest s zs out = RestIn (BehindTest s.stack s.level) (inside s.stack) s.mode zs out
