-- How an expression is read, a token at a time. No class is the end of the tokens.
use Rattle.std.specs.Prelude.{◌≡◌, Bool, true, false, List, [], ◌∷◌, ◌++◌, Option, Some, None, Result, Ok, Err}
use Rattle.rt_value.specs.Places.{Answer, next, ends, stuck}
use Rattle.rt_sql.specs.Lexeme.{Lexeme}
use Rattle.rt_policy.specs.Grammar.{conjunction, disjunction}
use Rattle.rt_policy.specs.Words.{class_at, lexeme_at}
use Rattle.rt_policy.specs.Parts.{exists_of, begin, part_moved, selecting, existing}
use Rattle.rt_policy.specs.declared.judge.Tested.{Tested}
use Rattle.rt_policy.specs.declared.judge.Tested.TheVariants as tested
use Rattle.rt_policy.specs.declared.words.Word.TheVariants as word
use Rattle.rt_policy.specs.declared.words.Sign.TheVariants as sign
use Rattle.rt_policy.specs.declared.words.Class.{Class}
use Rattle.rt_policy.specs.declared.words.Class.TheVariants as class
use Rattle.rt_policy.specs.declared.expr.Expr.{Expr}
use Rattle.rt_policy.specs.declared.expr.Expr.TheVariants as expr
use Rattle.rt_policy.specs.declared.part.Source.{Source}
use Rattle.rt_policy.specs.declared.part.Part.{Part}
use Rattle.rt_policy.specs.declared.part.Moved.{Moved}
use Rattle.rt_policy.specs.declared.part.Moved.TheVariants as moved
use Rattle.rt_policy.specs.declared.building.Slot.{Slot}
use Rattle.rt_policy.specs.declared.building.Slot.TheVariants as slot
use Rattle.rt_policy.specs.declared.building.Level.{Level}
use Rattle.rt_policy.specs.declared.building.Frame.{Frame}
use Rattle.rt_policy.specs.declared.building.Frame.TheVariants as frame
use Rattle.rt_policy.specs.declared.building.Mode.{Mode}
use Rattle.rt_policy.specs.declared.building.Mode.TheVariants as mode
use Rattle.rt_policy.specs.declared.building.State.{State}
use Rattle.rt_policy.specs.declared.building.Stop.{Stop}
use Rattle.rt_policy.specs.declared.building.Stop.TheVariants as stop

abbrev pub To : Type 0
To = Answer State Expr

-- what the code answers, where memory doesn't run out
abbrev pub Gives : Result State Stop → To → Type 0
Gives (Ok s) a = a ≡ next s
Gives (Err (stop.End e)) a = a ≡ ends e
Gives (Err stop.Bad) a = a ≡ stuck
Gives (Err stop.NoMemory) a = Unit {0}

abbrev pub state : List Frame → Level → Mode → State
state st l m = record { stack = st; level = l; mode = m }

abbrev pub level : List Expr → List Expr → Level
level ors ands = record { ors = ors; ands = ands }

abbrev pub fresh : Level
fresh = level [] []

-- an operand is read
abbrev pub given : List Frame → Level → Slot → Expr → State
given st l slot.First v = state st l (mode.Operand v)
given st l (slot.Right op a) v = state st l (mode.Related (expr.Compare op a v))
given st l (slot.Item negated a items) v = state st l (mode.Items negated a (items ++ v ∷ []))

abbrev pub is_close : Option Class → Bool
is_close (Some (class.Sign sign.Close)) = true
is_close c = false

abbrev pub close : State → Option Class → To
close s (Some (class.Sign sign.Close)) = next s
close s c = stuck

-- an expression is read
abbrev pub closed : List Frame → Expr → Option Class → To
closed [] e c = ends e
closed (frame.Not l ∷ st) e c = stuck
closed (frame.Group l s ∷ st) e c = close (given st l s (expr.Group e)) c
closed (frame.Where l s r ∷ st) e c = close (given st l s (exists_of r (Some e))) c

abbrev pub wanting : List Frame → Level → Slot → To
wanting st l s = next (state st l (mode.Want s))

-- what AND joins is read
abbrev pub after_conjunction : List Frame → List Expr → Option Class → To
after_conjunction st ors (Some (class.Word word.Or)) = wanting st (level ors []) slot.First
after_conjunction st ors c = closed st (disjunction ors) c

-- what NOT may stand before is read, the last of all
abbrev pub after_negation : List Frame → List Expr → List Expr → Option Class → To
after_negation st ors all (Some (class.Word word.And)) = wanting st (level ors all) slot.First
after_negation st ors all c = after_conjunction st (ors ++ conjunction all ∷ []) c

pub record Negated : Type 0 where
  pub stack : List Frame
  pub level : Level
  pub tree : Expr

-- with the NOTs before it
abbrev pub negated : List Frame → Level → Expr → Negated
negated [] l e = record { stack = []; level = l; tree = e }
negated (frame.Not outer ∷ st) l e = negated st outer (expr.Not e)
negated (frame.Group outer s ∷ st) l e = record { stack = frame.Group outer s ∷ st; level = l; tree = e }
negated (frame.Where outer s r ∷ st) l e = record { stack = frame.Where outer s r ∷ st; level = l; tree = e }

abbrev pub after_test : List Frame → Level → Expr → Option Class → To
after_test st l e c = let n = negated st l e in after_negation n.stack n.level.ors (n.level.ands ++ n.tree ∷ []) c

abbrev pub after_related : List Frame → Level → Expr → Option Class → To
after_related st l r (Some (class.Word word.Is)) = next (state st l (mode.Is r))
after_related st l r c = after_test st l r c

abbrev pub after_operand : List Frame → Level → Expr → Option Class → To
after_operand st l a (Some (class.Compared op)) = wanting st l (slot.Right op a)
after_operand st l a (Some (class.Word word.In)) = next (state st l (mode.In false a))
after_operand st l a (Some (class.Word word.Not)) = next (state st l (mode.NotIn a))
after_operand st l a c = after_related st l a c

abbrev pub after_item : List Frame → Level → Bool → Expr → List Expr → Option Class → To
after_item st l negated a items (Some (class.Sign sign.Comma)) = wanting st l (slot.Item negated a items)
after_item st l negated a items (Some (class.Sign sign.Close)) =
    next (state st l (mode.Related (expr.OneOf negated a items)))
after_item st l negated a items c = stuck

-- an operand is read, which ends before the token
abbrev pub over : List Frame → Level → Slot → Expr → Option Class → To
over st l slot.First v c = after_operand st l v c
over st l (slot.Right op a) v c = after_related st l (expr.Compare op a v) c
over st l (slot.Item negated a items) v c = after_item st l negated a (items ++ v ∷ []) c

-- no NOT waits
abbrev pub Opens : List Frame → Type 0
Opens [] = Unit {0}
Opens (frame.Not l ∷ st) = ⊥
Opens (frame.Group l s ∷ st) = Unit {0}
Opens (frame.Where l s r ∷ st) = Unit {0}

abbrev pub is_where : Frame → Bool
is_where (frame.Not l) = false
is_where (frame.Group l s) = false
is_where (frame.Where l s r) = true

-- whether an EXISTS is open
abbrev pub inside : List Frame → Bool
inside [] = false
inside (frame.Not l ∷ st) = inside st
inside (frame.Group l s ∷ st) = inside st
inside (frame.Where l s r ∷ st) = true

abbrev pub if_inside : Bool → To → To
if_inside true a = stuck
if_inside false a = a

abbrev pub within : List Frame → Level → Slot → Part → To
within st l s p = next (state st l (mode.Within s p))

abbrev pub condition : List Frame → Level → Slot → Source → To
condition st l s r = if_inside (inside st) (wanting (frame.Where l s r ∷ st) fresh slot.First)

abbrev pub moved_to : List Frame → Level → Slot → Moved → Option Class → To
moved_to st l s (moved.More p) c = within st l s p
moved_to st l s (moved.Done e) c = next (given st l s e)
moved_to st l s (moved.Over e) c = over st l s e c
moved_to st l s (moved.Condition r) c = condition st l s r
moved_to st l s moved.Bad c = stuck

abbrev pub want_not : List Frame → Level → Slot → To
want_not st l slot.First = wanting (frame.Not l ∷ st) fresh slot.First
want_not st l s = stuck

abbrev pub begun : List Frame → Level → Slot → Option Part → To
begun st l s (Some p) = within st l s p
begun st l s None = stuck

-- an operand's first token
abbrev pub want : List Frame → Level → Slot → Option Class → Lexeme → To
want st l s None x = stuck
want st l s (Some (class.Sign sign.Open)) x = next (state st l (mode.Opened s))
want st l s (Some (class.Word word.Not)) x = want_not st l s
want st l s (Some (class.Word word.Exists)) x = if_inside (inside st) (within st l s existing)
want st l s (Some c) x = begun st l s (begin c x)

-- behind a parenthesis where an operand begins
abbrev pub after_open : List Frame → Level → Slot → Option Class → Lexeme → To
after_open st l s (Some (class.Word word.Select)) x = within st l s selecting
after_open st l s c x = want (frame.Group l s ∷ st) fresh slot.First c x

abbrev pub tested_of : Option Class → Option Tested
tested_of (Some (class.Word word.Null)) = Some tested.Null
tested_of (Some (class.Word word.True)) = Some tested.True
tested_of (Some (class.Word word.False)) = Some tested.False
tested_of (Some (class.Word word.Unknown)) = Some tested.Unknown
tested_of c = None

abbrev pub tests : List Frame → Level → Bool → Expr → Option Tested → To
tests st l negated a (Some asked) = next (state st l (mode.Tested (expr.Is negated asked a)))
tests st l negated a None = stuck

abbrev pub after_is : List Frame → Level → Expr → Option Class → To
after_is st l a (Some (class.Word word.Not)) = next (state st l (mode.IsNot a))
after_is st l a c = tests st l false a (tested_of c)

abbrev pub after_not : List Frame → Level → Expr → Option Class → To
after_not st l a (Some (class.Word word.In)) = next (state st l (mode.In true a))
after_not st l a c = stuck

abbrev pub after_in : List Frame → Level → Bool → Expr → Option Class → To
after_in st l negated a (Some (class.Sign sign.Open)) = wanting st l (slot.Item negated a [])
after_in st l negated a c = stuck

abbrev pub move : List Frame → Level → Mode → Option Class → Lexeme → To
move st l (mode.Want s) c x = want st l s c x
move st l (mode.Opened s) c x = after_open st l s c x
move st l (mode.Within s p) c x = moved_to st l s (part_moved p c x) c
move st l (mode.Operand a) c x = after_operand st l a c
move st l (mode.Related e) c x = after_related st l e c
move st l (mode.Tested e) c x = after_test st l e c
move st l (mode.NotIn a) c x = after_not st l a c
move st l (mode.In negated a) c x = after_in st l negated a c
move st l (mode.Items negated a items) c x = after_item st l negated a items c
move st l (mode.Is a) c x = after_is st l a c
move st l (mode.IsNot a) c x = tests st l true a (tested_of c)

abbrev pub step : State → Option Lexeme → To
step s look = move s.stack s.level s.mode (class_at look) (lexeme_at look)

abbrev pub start : State
start = state [] fresh (mode.Want slot.First)
