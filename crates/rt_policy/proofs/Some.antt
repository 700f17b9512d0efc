-- In every state some tokens lead to the end.
use Rattle.std.proofs.Common.{◌≡◌, ℕ, inl, inr, Bool, true, false, List, [], ◌∷◌, ◌++◌, codes, Some}
use Rattle.std.proofs.Common.{None, refl}
use Rattle.rt_sql.specs.declared.lexeme.TokenKind.TheVariants as kind
use Rattle.rt_sql.specs.Lexeme.{Lexeme}
use Rattle.rt_policy.specs.Grammar as g
use Rattle.rt_policy.specs.Grammar.{IsNameWithin, IsOperand, conjunction, disjunction}
use Rattle.rt_policy.specs.Words.{class_of}
use Rattle.rt_policy.specs.Parts as p
use Rattle.rt_policy.specs.Machine.{state, inside}
use Rattle.rt_policy.proofs.Rest.{Behind, BehindRelated, BehindGiven, Wanting, Closes}
use Rattle.rt_policy.proofs.Rest.{Chained, BehindTest, Operand, Asked, Listed, RestIn, Rest, GoalTail}
use Rattle.rt_policy.proofs.Rest.{PartTail, SourceTail, AliasTail, TableTail, FromTail, Tail}
use Rattle.rt_policy.specs.declared.judge.Tested.TheVariants as tested
use Rattle.rt_policy.specs.declared.expr.Literal.TheVariants as literal
use Rattle.rt_policy.specs.declared.expr.TypeName.TheVariants as type_name
use Rattle.rt_policy.specs.declared.expr.Selected.{Selected}
use Rattle.rt_policy.specs.declared.expr.Selected.TheVariants as selected
use Rattle.rt_policy.specs.declared.expr.Expr.{Expr}
use Rattle.rt_policy.specs.declared.expr.Expr.TheVariants as expr
use Rattle.rt_policy.specs.declared.part.Wanted.{Wanted}
use Rattle.rt_policy.specs.declared.part.Wanted.TheVariants as wanted
use Rattle.rt_policy.specs.declared.part.Function.TheVariants as function
use Rattle.rt_policy.specs.declared.part.Head.TheVariants as head
use Rattle.rt_policy.specs.declared.part.Source.{Source}
use Rattle.rt_policy.specs.declared.part.Goal.{Goal}
use Rattle.rt_policy.specs.declared.part.Goal.TheVariants as goal
use Rattle.rt_policy.specs.declared.part.Part.{Part}
use Rattle.rt_policy.specs.declared.part.Part.TheVariants as part
use Rattle.rt_policy.specs.declared.building.Slot.{Slot}
use Rattle.rt_policy.specs.declared.building.Slot.TheVariants as slot
use Rattle.rt_policy.specs.declared.building.Level.{Level}
use Rattle.rt_policy.specs.declared.building.Frame.{Frame}
use Rattle.rt_policy.specs.declared.building.Frame.TheVariants as frame
use Rattle.rt_policy.specs.declared.building.Mode.{Mode}
use Rattle.rt_policy.specs.declared.building.Mode.TheVariants as mode

abbrev a_word : List ℕ → Lexeme
a_word bytes = record { kind = kind.Word; bytes = bytes }

abbrev a_sign : List ℕ → Lexeme
a_sign bytes = record { kind = kind.Sign; bytes = bytes }

abbrev close : Lexeme
close = a_sign (codes ")")

abbrev left : Lexeme
left = a_sign (codes "(")

abbrev a_number : Lexeme
a_number = record { kind = kind.Number; bytes = codes "1" }

abbrev a_text : Lexeme
a_text = record { kind = kind.Text; bytes = codes "''" }

abbrev a_name : Lexeme
a_name = a_word (codes "t")

name_within : IsNameWithin (codes "t") a_name
name_within = ((inl refl, refl), inr refl)

-- an operand that some tokens complete, whatever is behind it
abbrev Completes : Tail → Type 0
Completes T = (e : Expr) × ((ys : List Lexeme) → (zs : List Lexeme) × T e zs ys)

source_ends : (r : Source) → Completes (SourceTail r)
source_ends r = (p.exists_of r None, λ ys. (close ∷ ys, (None, close, g.no_where, (refl, refl), refl)))

alias_ends : (s : Selected) (schema table : List ℕ) → Completes (AliasTail s schema table)
alias_ends s schema table =
    let k = source_ends (p.source s schema table None) in (
      k.0,
      λ ys. (
        (k.1 ys).0,
        (
          None,
          (k.1 ys).0,
          g.no_alias,
          (k.1 ys).1,
        ),
      ),
    )

table_ends : (s : Selected) → Completes (TableTail s)
table_ends s = let k = alias_ends s (codes "public") (codes "t") in
    (k.0, λ ys. (a_name ∷ (k.1 ys).0, (codes "public", codes "t", (k.1 ys).0, g.in_public name_within, (k.1 ys).1)))

from_ends : (s : Selected) → Completes (FromTail s)
from_ends s = let k = table_ends s in (
  k.0,
  λ ys. (
    a_word (codes "from") ∷ (k.1 ys).0,
    (
      a_word (codes "from"),
      (k.1 ys).0,
      refl,
      (refl, refl),
      (k.1 ys).1,
    ),
  ),
)

type_word_ends : (l : _) (h : _) (name : List ℕ) → Completes (GoalTail (goal.TypeWord l h name))
type_word_ends l head.Timestamp name = (
  expr.Cast l (type_name.Named name false),
  λ ys. (
    ys,
    (
      type_name.Named name false,
      inl
          (ys, false, g.one_length g.no_length, g.no_brackets, refl),
      refl,
    ),
  ),
)
type_word_ends l head.Double name = (
  expr.Cast l (type_name.Named name false),
  λ ys. (
    ys,
    (
      type_name.Named name false,
      inl
          (ys, false, g.one_length g.no_length, g.no_brackets, refl),
      refl,
    ),
  ),
)
type_word_ends l head.Character name = (
  expr.Cast l (type_name.Named name false),
  λ ys. (
    ys,
    (
      type_name.Named name false,
      inl
          (ys, false, g.one_length g.no_length, g.no_brackets, refl),
      refl,
    ),
  ),
)
type_word_ends l head.Other name = (
  expr.Cast l (type_name.Named name false),
  λ ys. (
    ys,
    (
      type_name.Named name false,
      (ys, false, g.one_length g.no_length, g.no_brackets, refl),
      refl,
    ),
  ),
)

goal_ends : (q : Goal) → Completes (GoalTail q)
goal_ends (goal.Whole v) = (v, λ ys. (ys, (refl, refl)))
goal_ends (goal.Constant l) = (expr.Literal l, λ ys. (ys, inl (refl, refl)))
goal_ends goal.Minus = (
  expr.Literal (literal.Number true (codes "1")),
  λ ys. (
    a_number ∷ ys,
    (
      codes "1",
      (
        a_number,
        ys,
        refl,
        (refl, refl),
        inl (refl, refl),
      ),
    ),
  ),
)
goal_ends (goal.Cast l) = (
  expr.Cast l (type_name.Named (codes "t") false),
  λ ys. (
    a_name ∷ ys,
    (
      type_name.Named (codes "t") false,
      g.named name_within
          (g.one_length g.no_length) g.no_brackets,
      refl,
    ),
  ),
)
goal_ends (goal.TypeWord l h name) = type_word_ends l h name
goal_ends (goal.Varying l) = (expr.Cast l type_name.CharacterVarying, λ ys. (ys, (g.no_length, refl)))
goal_ends (goal.Length l name) = (
  p.cast_to_name l name false,
  λ ys. (
    close ∷ ys,
    (
      ys,
      inl (close, ys, refl, (refl, refl), refl),
      (false, g.no_brackets, refl),
    ),
  ),
)
goal_ends (goal.Lengthened l name) = (p.cast_to_name l name false, λ ys. (ys, (false, g.no_brackets, refl)))
goal_ends (goal.Named auth name) = (expr.Column None name, λ ys. (ys, inl (refl, refl)))
goal_ends (goal.Dotted auth name) = (
  expr.Column (Some name) (codes "t"),
  λ ys. (
    a_name ∷ ys,
    inl (
      codes "t",
      (
        a_name,
        ys,
        refl,
        name_within,
        (refl, refl),
      ),
    ),
  ),
)
goal_ends (goal.Called f name) = (expr.Column (Some name) (p.function_text f), λ ys. (ys, inl (refl, refl)))
goal_ends (goal.ClaimName true) = (
  expr.Claim [],
  λ ys. (
    a_text ∷ close ∷ ys,
    (
      [],
      (
        a_text,
        close ∷ ys,
        refl,
        (refl, refl),
        (
          close,
          ys,
          refl,
          (refl, refl),
          (refl, refl),
        ),
      ),
    ),
  ),
)
goal_ends (goal.ClaimName false) =
    (expr.Claim [], λ ys. (a_text ∷ ys, ([], (a_text, ys, refl, (refl, refl), (refl, refl)))))
goal_ends goal.SelectedFunction = (
  expr.Uid,
  λ ys. (
    a_word (codes "uid") ∷ left ∷ close ∷ close ∷ ys,
    (
      function.Uid,
      (
        a_word (codes "uid"),
        left ∷ close ∷ close ∷ ys,
        refl,
        (refl, refl),
        (
          left,
          close ∷ close ∷ ys,
          refl,
          (refl, refl),
          (
            close,
            close ∷ ys,
            refl,
            (refl, refl),
            (
              close,
              ys,
              refl,
              (refl, refl),
              (refl, refl),
            ),
          ),
        ),
      ),
    ),
  ),
)
goal_ends goal.Selects = let k =
    from_ends selected.One in (
      k.0,
      λ ys. (
        a_number ∷ (k.1 ys).0,
        (
          selected.One,
          (k.1 ys).0,
          g.the_one (refl, refl),
          (k.1 ys).1,
        ),
      ),
    )
goal_ends (goal.SelectsName name) = let k =
    from_ends (selected.Column None name) in (k.0, λ ys. ((k.1 ys).0, inl (k.1 ys).1))
goal_ends (goal.SelectsDotted name) =
    let k = from_ends (selected.Column (Some name) (codes "t")) in (
      k.0,
      λ ys. (
        a_name ∷ (k.1 ys).0,
        (
          codes "t",
          (a_name, (k.1 ys).0, refl, name_within, (k.1 ys).1),
        ),
      ),
    )
goal_ends (goal.Table s) = table_ends s
goal_ends (goal.TableNamed s name) = let k =
    alias_ends s (codes "public") name in (k.0, λ ys. ((k.1 ys).0, inl (k.1 ys).1))
goal_ends (goal.TableDotted s name) =
    let k = alias_ends s name (codes "t") in (
      k.0,
      λ ys. (
        a_name ∷ (k.1 ys).0,
        (
          codes "t",
          (
            a_name,
            (k.1 ys).0,
            refl,
            name_within,
            (k.1 ys).1,
          ),
        ),
      ),
    )
goal_ends (goal.Alias s schema table) = alias_ends s schema table
goal_ends (goal.As s schema table) = let k =
    source_ends (p.source s schema table (Some (codes "as"))) in (k.0, λ ys. ((k.1 ys).0, inr (k.1 ys).1))
goal_ends (goal.Aliased r) = source_ends r

abbrev met_by : Wanted → Lexeme
met_by wanted.Number = a_number
met_by wanted.Open = left
met_by wanted.Close = close
met_by wanted.RightBracket = a_sign (codes "]")
met_by wanted.Arrow = a_sign (codes "->>")
met_by wanted.Dot = a_sign (codes ".")
met_by wanted.Auth = a_word (codes "auth")
met_by wanted.Select = a_word (codes "select")
met_by wanted.From = a_word (codes "from")
met_by wanted.Time = a_word (codes "time")
met_by wanted.Zone = a_word (codes "zone")

is_met : (a : Wanted) → class_of (met_by a) ≡ p.class_for a
is_met wanted.Number = refl
is_met wanted.Open = refl
is_met wanted.Close = refl
is_met wanted.RightBracket = refl
is_met wanted.Arrow = refl
is_met wanted.Dot = refl
is_met wanted.Auth = refl
is_met wanted.Select = refl
is_met wanted.From = refl
is_met wanted.Time = refl
is_met wanted.Zone = refl

part_ends : (q : Part) → Completes (PartTail q)
part_ends (part.At k) = goal_ends k
part_ends (part.One a k) = let m =
    goal_ends k in (m.0, λ ys. (met_by a ∷ (m.1 ys).0, (met_by a, (m.1 ys).0, refl, is_met a, (m.1 ys).1)))
part_ends (part.Two a b k) =
    let m = goal_ends k in (
      m.0,
      λ ys. (
        met_by a ∷ met_by b ∷ (m.1 ys).0,
        (
          met_by a,
          met_by b ∷ (m.1 ys).0,
          refl,
          is_met a,
          (
            met_by b,
            (m.1 ys).0,
            refl,
            is_met b,
            (m.1 ys).1,
          ),
        ),
      ),
    )
part_ends (part.Three a b c k) =
    let m = goal_ends k in (
      m.0,
      λ ys. (
        met_by a ∷ met_by b ∷ met_by c ∷ (m.1 ys).0,
        (
          met_by a,
          met_by b ∷ met_by c ∷ (m.1 ys).0,
          refl,
          is_met a,
          (
            met_by b,
            met_by c ∷ (m.1 ys).0,
            refl,
            is_met b,
            (met_by c, (m.1 ys).0, refl, is_met c, (m.1 ys).1),
          ),
        ),
      ),
    )

abbrev Ends : (List Lexeme → Expr → Type 0) → Type 0
Ends P = (zs : List Lexeme) × (out : Expr) × P zs out

related_ends : (K : Behind) (r : Expr) → Ends (K r) → Ends (BehindRelated K r)
related_ends K r (zs, out, k) = (zs, out, (r, zs, g.no_test, k))

given_ends : (K : Behind) → ((e : Expr) → Ends (K e)) → (i : Bool) (s : Slot) (v : Expr) → Ends (BehindGiven K i s v)
given_ends K some i slot.First v = let k = related_ends K v (some v) in (k.0, k.1, (v, k.0, g.alone, k.2))
given_ends K some i (slot.Right op a) v = related_ends K (expr.Compare op a v) (some (expr.Compare op a v))
given_ends K some i (slot.Item n a items) v =
    let e = expr.OneOf n a (items ++ v ∷ []) in let k = related_ends K e (some e) in
    (close ∷ k.0, k.1, (items ++ v ∷ [], k.0, g.item_end (refl, refl), k.2))

chain_ends : (K : Behind) (i : Bool) (ors all : List Expr) → ((e : Expr) → Ends (K e)) → Ends (Chained K i ors all)
chain_ends K i ors all some =
    let c = conjunction all in let d = disjunction (ors ++ c ∷ []) in let k = some d in
    (k.0, k.1, (c, d, k.0, k.0, g.and_end, g.or_end, k.2))

close_ends : (K : Behind) (e : Expr) → Ends (K e) → Ends (Closes K e)
close_ends K e (zs, out, k) = (close ∷ zs, out, (close, zs, refl, (refl, refl), k))

test_ends : (st : List Frame) (l : Level) (e : Expr) → Ends (BehindTest st l e)
test_ends [] l e = chain_ends (λ d ws o. (ws ≡ []) × (o ≡ d)) false l.ors (l.ands ++ e ∷ []) (λ d. (
  [],
  d,
  (refl, refl),
))
test_ends (frame.Not outer ∷ st) l e = test_ends st outer (expr.Not e)
test_ends (frame.Group outer s ∷ st) l e =
    chain_ends (λ d ws o. Closes (BehindGiven (BehindTest st outer) (inside st) s) (expr.Group d) ws o)
    (inside st) l.ors (l.ands ++ e ∷ [])
    (λ d. close_ends (BehindGiven (BehindTest st outer) (inside st) s) (expr.Group d) (given_ends
    (BehindTest st outer) (test_ends st outer) (inside st) s (expr.Group d)))
test_ends (frame.Where outer s r ∷ st) l e =
    chain_ends (λ d ws o. Closes (BehindGiven (BehindTest st outer) (inside st) s) (p.exists_of r
    (Some d)) ws o) true l.ors (l.ands ++ e ∷ [])
    (λ d. close_ends (BehindGiven (BehindTest st outer) (inside st) s) (p.exists_of r (Some d)) (given_ends
    (BehindTest st outer) (test_ends st outer) (inside st) s (p.exists_of r (Some d))))

abbrev null : Lexeme
null = a_word (codes "null")

abbrev null_tree : Expr
null_tree = expr.Literal literal.Null

null_operand : (i : Bool) (zs : List Lexeme) → IsOperand i null_tree (null ∷ zs) zs
null_operand i zs = g.constant (g.null (refl, refl))

want_ends : (K : Behind) → ((e : Expr) → Ends (K e)) → (i : Bool) (s : Slot) → Ends (Wanting K i s)
want_ends K some i slot.First = let k =
    some null_tree in (null ∷ k.0, k.1, (null_tree, k.0, g.plain (null_operand i k.0) g.alone g.no_test, k.2))
want_ends K some i (slot.Right op a) = let k =
    given_ends K some i (slot.Right op a) null_tree in (null ∷ k.0, k.1, (null_tree, k.0, null_operand i k.0, k.2))
want_ends K some i (slot.Item n a items) = let k =
    given_ends K some i (slot.Item n a items) null_tree in (null ∷ k.0, k.1, (null_tree, k.0, null_operand i k.0, k.2))

operand_ends : (K : Behind) → ((e : Expr) → Ends (K e)) → (i : Bool) (s : Slot) (q : Part) → Ends (Operand K i s q)
operand_ends K some i s q = let m = part_ends q in let k =
    given_ends K some i s m.0 in ((m.1 k.0).0, k.1, (m.0, k.0, (m.1 k.0).1, k.2))

opened_ends : (K : Behind) → ((e : Expr) → Ends (K e)) → (i : Bool) (s : Slot) → Ends (RestIn K i (mode.Opened s))
opened_ends K some i s =
    let k = given_ends K some i s (expr.Group null_tree) in (
      null ∷ close ∷ k.0,
      k.1,
      (
        expr.Group null_tree,
        k.0,
        inr (
          null_tree,
          close,
          g.ors (g.ands (g.plain (null_operand i
              (close ∷ k.0)) g.alone g.no_test) g.and_end) g.or_end,
          (refl, refl),
          refl,
        ),
        k.2,
      ),
    )

listed_ends : (K : Behind) → ((e : Expr) → Ends (K e)) → (i n : Bool) (a : Expr) → Ends (Listed K i n a)
listed_ends K some i n a = let k =
    want_ends K some i (slot.Item n a []) in (left ∷ k.0, k.1, (left, k.0, refl, (refl, refl), k.2))

asked_ends : (K : Behind) → ((e : Expr) → Ends (K e)) → (n : Bool) (a : Expr) → Ends (Asked K n a)
asked_ends K some n a = let k =
    some (expr.Is n tested.Null a) in (null ∷ k.0, k.1, (tested.Null, (null, k.0, refl, (refl, refl), k.2)))

rest_ends : (K : Behind) → ((e : Expr) → Ends (K e)) → (i : Bool) (o : Mode) → Ends (RestIn K i o)
rest_ends K some i (mode.Want s) = want_ends K some i s
rest_ends K some i (mode.Opened s) = opened_ends K some i s
rest_ends K some i (mode.Within s q) = operand_ends K some i s q
rest_ends K some i (mode.Operand a) = given_ends K some i slot.First a
rest_ends K some i (mode.Related r) = related_ends K r (some r)
rest_ends K some i (mode.Tested e) = some e
rest_ends K some i (mode.NotIn a) =
    let k = listed_ends K some i true a in (
      a_word (codes "in") ∷ k.0,
      k.1,
      (
        a_word (codes "in"),
        k.0,
        refl,
        (refl, refl),
        k.2,
      ),
    )
rest_ends K some i (mode.In n a) = listed_ends K some i n a
rest_ends K some i (mode.Items n a items) =
    let e = expr.OneOf n a items in let k =
    related_ends K e (some e) in (close ∷ k.0, k.1, (items, k.0, g.item_end (refl, refl), k.2))
rest_ends K some i (mode.Is a) = let k = asked_ends K some false a in (k.0, k.1, inl k.2)
rest_ends K some i (mode.IsNot a) = asked_ends K some true a

pub some_rest : (st : List Frame) (l : Level) (o : Mode) → Ends (Rest (state st l o))
some_rest st l o = rest_ends (BehindTest st l) (test_ends st l) (inside st) o
