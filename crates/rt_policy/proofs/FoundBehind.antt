-- What was read behind an operand stands so in the grammar: a step back over a token.
use Rattle.std.proofs.Common.{◌≡◌, inl, inr, Bool, true, false, List, [], ◌∷◌, ◌++◌, codes, Option, Some}
use Rattle.std.proofs.Common.{None, refl, ap, subst, sym, ◌∙◌}
use Rattle.rt_value.specs.Places.{next}
use Rattle.rt_value.proofs.Places.{seen, RestOf}
use Rattle.rt_sql.specs.Lexeme.{Lexeme, IsKeyword, IsSign}
use Rattle.rt_policy.specs.Grammar as g
use Rattle.rt_policy.specs.Grammar.{Ors, Ands, TestedBy, Related, Items, Where}
use Rattle.rt_policy.specs.Grammar.{conjunction}
use Rattle.rt_policy.specs.Grammar.{disjunction}
use Rattle.rt_policy.specs.Words.{class_of, class_at}
use Rattle.rt_policy.specs.Parts as p
use Rattle.rt_policy.specs.Machine.{To, state, level, inside, Opens, given, close, closed, after_conjunction}
use Rattle.rt_policy.specs.Machine.{after_negation, after_test, after_related, after_operand, after_item, over}
use Rattle.rt_policy.proofs.Classes.{means}
use Rattle.rt_policy.proofs.Rest.{After}
use Rattle.rt_policy.proofs.Rest.{BehindRelated, BehindOperand, BehindItems, BehindGiven}
use Rattle.rt_policy.proofs.Rest.{Chained, BehindTest, BehindClosed}
use Rattle.rt_policy.proofs.Rest.{Rest}
use Rattle.rt_policy.specs.declared.words.Word.TheVariants as word
use Rattle.rt_policy.specs.declared.words.Sign.TheVariants as sign
use Rattle.rt_policy.specs.declared.words.Class.{Class}
use Rattle.rt_policy.specs.declared.words.Class.TheVariants as class
use Rattle.rt_policy.specs.declared.expr.Expr.{Expr}
use Rattle.rt_policy.specs.declared.expr.Expr.TheVariants as expr
use Rattle.rt_policy.specs.declared.building.Slot.{Slot}
use Rattle.rt_policy.specs.declared.building.Slot.TheVariants as slot
use Rattle.rt_policy.specs.declared.building.Level.{Level}
use Rattle.rt_policy.specs.declared.building.Frame.{Frame}
use Rattle.rt_policy.specs.declared.building.Frame.TheVariants as frame
use Rattle.rt_policy.specs.declared.building.Mode.TheVariants as mode
use Rattle.rt_policy.specs.declared.building.State.{State}

abbrev pub RestBehind : To → Option Lexeme → List Lexeme → Expr → Type 0
RestBehind a look zs out = RestOf Rest a look zs out

pub given_found : (st : List Frame) (l : Level) (s : Slot) (v : Expr) (zs : List Lexeme) (out : Expr)
    → Rest (given st l s v) zs out → BehindGiven (BehindTest st l) (inside st) s v zs out
given_found st l slot.First v zs out h = h
given_found st l (slot.Right op a) v zs out h = h
given_found st l (slot.Item n a items) v zs out h = h

-- a next state is behind a token
pub next_found : (s : State) (look : Option Lexeme) (zs : List Lexeme) (out : Expr) → RestBehind (next s) look zs out
    → (x : Lexeme) × (look ≡ Some x) × Rest s zs out
next_found s None zs out h = absurd h
next_found s (Some x) zs out h = (x, refl, h)

pub class_seen : (c : Class) (look : Option Lexeme) (x : Lexeme) → class_at look ≡ Some c → look ≡ Some x → class_of x ≡ c
class_seen c look x is at = let e : Some (class_of x) ≡ Some c = ap class_at (sym at) ∙ is in cc

pub seen_is : (look : Option Lexeme) (x : Lexeme) (zs : List Lexeme) → look ≡ Some x → seen look zs ≡ x ∷ zs
seen_is look x zs at = ap (λ (o : Option Lexeme). seen o zs) at

-- a token of a class stands before what a next state may be followed by
pub after_found : (P : Lexeme → Type 0) (c : Class) (s : State) (look : Option Lexeme) (zs : List Lexeme) (out : Expr)
    → class_at look ≡ Some c
    → ((x : Lexeme) → class_of x ≡ c → P x) → RestBehind (next s) look zs out
    → After P (λ us. Rest s us out) (seen look zs)
after_found P c s look zs out is says h =
    let (x, at, more) = next_found s look zs out h in (
      x,
      zs,
      seen_is look x zs at,
      says x
          (class_seen c look x is at),
      more,
    )

pub close_found : (s : State) (c : Option Class) (look : Option Lexeme) (zs : List Lexeme) (out : Expr) → class_at look ≡ c
    → RestBehind (close s c) look zs out → After (IsSign (codes ")")) (λ us. Rest s us out) (seen look zs)
close_found s (Some (class.Sign sign.Close)) look zs out is h =
    after_found (IsSign (codes ")")) (class.Sign sign.Close) s look zs out is (means (class.Sign sign.Close)) h
close_found s _ look zs out is h = absurd h

pub closed_found : (st : List Frame) (e : Expr) (c : Option Class) (look : Option Lexeme) (zs : List Lexeme) (out : Expr)
    → class_at look ≡ c
    → RestBehind (closed st e c) look zs out → BehindClosed st e (seen look zs) out
closed_found [] e c None zs out is h = h
closed_found [] e c (Some x) zs out is h = absurd h
closed_found (frame.Not l ∷ st) e c look zs out is h = absurd h
closed_found (frame.Group l s ∷ st) e c look zs out is h =
    let (x, us, at, right, more) =
    close_found (given st l s (expr.Group e)) c look zs out is h in (
      x,
      us,
      at,
      right,
      given_found st l s
          (expr.Group e) us out more,
    )
closed_found (frame.Where l s r ∷ st) e c look zs out is h =
    let v = p.exists_of r (Some e) in
    let (x, us, at, right, more) =
    close_found (given st l s v) c look zs out is h in (x, us, at, right, given_found st l s v us out more)

-- where no NOT waits
pub test_opens : (st : List Frame) (l : Level) (e : Expr) (zs : List Lexeme) (out : Expr) → Opens st
    → BehindTest st l e zs out → Chained (BehindClosed st) (inside st) l.ors (l.ands ++ e ∷ []) zs out
test_opens [] l e zs out o h = h
test_opens (frame.Not l2 ∷ st) l e zs out o h = absurd o
test_opens (frame.Group l2 s ∷ st) l e zs out o h = h
test_opens (frame.Where l2 s r ∷ st) l e zs out o h = h

abbrev pub OrsOf : List Frame → List Expr → List Lexeme → Expr → Type 0
OrsOf st all zs out = (d : Expr) × (ws : List Lexeme) × Ors (inside st) all d zs ws × BehindClosed st d ws out

pub conjunction_ends : (st : List Frame) (all : List Expr) (c : Option Class) (look : Option Lexeme) (zs :
    List Lexeme) (out : Expr) → class_at look ≡ c
    → RestBehind (closed st (disjunction all) c) look zs out → OrsOf st all (seen look zs) out
conjunction_ends st all c look zs out is h =
    (disjunction all, seen look zs, g.or_end, closed_found st (disjunction all) c look zs out is h)

pub or_found : (st : List Frame) (all : List Expr) (zs : List Lexeme) (out : Expr) → Opens st
    → After (IsKeyword (codes "or")) (λ us. Rest (state st (level all []) (mode.Want slot.First)) us out) zs
    → OrsOf st all zs out
or_found st all zs out o (x, us, at, or, (n, ys, first, more)) =
    let (c, d, vs, ws, ands, ors, k) = test_opens st (level all []) n ys out o more in (
      d,
      ws,
      subst (λ (qs :
          List Lexeme). Ors (inside st) all d qs ws) (sym at) (g.or_more or (g.ands first ands) ors),
      k,
    )

pub conjunction_found : (st : List Frame) (all : List Expr) (c : Option Class) (look : Option Lexeme) (zs :
    List Lexeme) (out : Expr) → Opens st → class_at look ≡ c
    → RestBehind (after_conjunction st all c) look zs out → OrsOf st all (seen look zs) out
conjunction_found st all (Some (class.Word word.Or)) look zs out o is h =
    or_found st all (seen look zs) out o (after_found (IsKeyword (codes "or")) (class.Word word.Or) (state st
    (level all []) (mode.Want slot.First)) look zs out is (means (class.Word word.Or)) h)
conjunction_found st all c look zs out o is h = conjunction_ends st all c look zs out is h

pub negation_ends : (st : List Frame) (ors all : List Expr) (zs : List Lexeme) (out : Expr)
    → OrsOf st (ors ++ conjunction all ∷ []) zs out → Chained (BehindClosed st) (inside st) ors all zs out
negation_ends st ors all zs out (d, ws, more, rest) = (conjunction all, d, zs, ws, g.and_end, more, rest)

pub and_found : (st : List Frame) (ors all : List Expr) (zs : List Lexeme) (out : Expr) → Opens st
    → After (IsKeyword (codes "and")) (λ us. Rest (state st (level ors all) (mode.Want slot.First)) us out) zs
    → Chained (BehindClosed st) (inside st) ors all zs out
and_found st ors all zs out o (x, us, at, and, (n, ys, first, more)) =
    let (c, d, vs, ws, ands, os, k) = test_opens st (level ors all) n ys out o more in (
      c,
      d,
      vs,
      ws,
      subst (λ (qs :
          List Lexeme). Ands (inside st) all c qs vs) (sym at) (g.and_more and first ands),
      os,
      k,
    )

pub negation_found : (st : List Frame) (ors all : List Expr) (c : Option Class) (look : Option Lexeme) (zs :
    List Lexeme) (out : Expr) → Opens st → class_at look ≡ c
    → RestBehind (after_negation st ors all c) look zs out
    → Chained (BehindClosed st) (inside st) ors all (seen look zs) out
negation_found st ors all (Some (class.Word word.And)) look zs out o is h =
    and_found st ors all (seen look zs) out o (after_found (IsKeyword (codes "and")) (class.Word word.And) (state st
    (level ors all) (mode.Want slot.First)) look zs out is (means (class.Word word.And)) h)
negation_found st ors all c look zs out o is h =
    negation_ends st ors all (seen look zs) out (conjunction_found st
    (ors ++ conjunction all ∷ []) c look zs out o is h)

pub test_found : (st : List Frame) (l : Level) (e : Expr) (c : Option Class) (look : Option Lexeme) (zs :
    List Lexeme) (out : Expr) → class_at look ≡ c
    → RestBehind (after_test st l e c) look zs out → BehindTest st l e (seen look zs) out
test_found [] l e c look zs out is h = negation_found [] l.ors (l.ands ++ e ∷ []) c look zs out tt is h
test_found (frame.Not outer ∷ st) l e c look zs out is h = test_found st outer (expr.Not e) c look zs out is h
test_found (frame.Group outer s ∷ st) l e c look zs out is h =
    negation_found (frame.Group outer s ∷ st) l.ors (l.ands ++ e ∷ []) c look zs out tt is h
test_found (frame.Where outer s r ∷ st) l e c look zs out is h =
    negation_found (frame.Where outer s r ∷ st) l.ors (l.ands ++ e ∷ []) c look zs out tt is h

pub related_ends : (st : List Frame) (l : Level) (r : Expr) (c : Option Class) (look : Option Lexeme) (zs :
    List Lexeme) (out : Expr) → class_at look ≡ c
    → RestBehind (after_test st l r c) look zs out → BehindRelated (BehindTest st l) r (seen look zs) out
related_ends st l r c look zs out is h = (r, seen look zs, g.no_test, test_found st l r c look zs out is h)

pub is_found : (st : List Frame) (l : Level) (r : Expr) (zs : List Lexeme) (out : Expr)
    → After (IsKeyword (codes "is")) (λ us. Rest (state st l (mode.Is r)) us out) zs
    → BehindRelated (BehindTest st l) r zs out
is_found st l r zs out (x, us, at, is, inl (asked, (y, vs, at_y, word, k))) = (
  expr.Is false asked r,
  vs,
  subst (λ (qs : List Lexeme). TestedBy r (expr.Is false asked r) qs vs) (sym (at
      ∙ ap (λ (qs : List Lexeme). x ∷ qs) at_y)) (g.is is word),
  k,
)
is_found st l r zs out (x, us, at, is, inr (n, ws, at_n, not, (asked, (y, vs, at_y, word, k)))) = (
  expr.Is true asked r,
  vs,
  subst (λ (qs : List Lexeme). TestedBy r (expr.Is true asked r) qs vs)
      (sym (at ∙ ap (λ (qs : List Lexeme). x ∷ qs) (at_n
      ∙ ap (λ (qs : List Lexeme). n ∷ qs) at_y))) (g.is_not is not word),
  k,
)

pub related_found : (st : List Frame) (l : Level) (r : Expr) (c : Option Class) (look : Option Lexeme) (zs :
    List Lexeme) (out : Expr) → class_at look ≡ c
    → RestBehind (after_related st l r c) look zs out → BehindRelated (BehindTest st l) r (seen look zs) out
related_found st l r (Some (class.Word word.Is)) look zs out is h =
    is_found st l r (seen look zs) out (after_found (IsKeyword (codes "is")) (class.Word word.Is) (state st l
    (mode.Is r)) look zs out is (means (class.Word word.Is)) h)
related_found st l r c look zs out is h = related_ends st l r c look zs out is h

pub operand_ends : (st : List Frame) (l : Level) (a : Expr) (c : Option Class) (look : Option Lexeme) (zs :
    List Lexeme) (out : Expr) → class_at look ≡ c
    → RestBehind (after_related st l a c) look zs out → BehindOperand (BehindTest st l) (inside st) a (seen look zs) out
operand_ends st l a c look zs out is h = (a, seen look zs, g.alone, related_found st l a c look zs out is h)

pub compare_found : (st : List Frame) (l : Level) (op : _) (a : Expr) (zs : List Lexeme) (out : Expr)
    → After (g.IsComparison op) (λ us. Rest (state st l (mode.Want (slot.Right op a))) us out) zs
    → BehindOperand (BehindTest st l) (inside st) a zs out
compare_found st l op a zs out (x, us, at, is, (b, ys, right, more)) = (
  expr.Compare op a b,
  ys,
  subst (λ (qs :
      List Lexeme). Related (inside st) a (expr.Compare op a b) qs ys) (sym at) (g.compare is right),
  more,
)

pub in_found : (st : List Frame) (l : Level) (a : Expr) (zs : List Lexeme) (out : Expr)
    → After (IsKeyword (codes "in")) (λ us. Rest (state st l (mode.In false a)) us out) zs
    → BehindOperand (BehindTest st l) (inside st) a zs out
in_found st l a zs out (x, us, at, is, (left, vs, at_left, leaves, (b, ys, first, (all, ws, items, more)))) = (
  expr.OneOf false a all,
  ws,
  subst (λ (qs : List Lexeme). Related (inside st) a (expr.OneOf false a all) qs ws) (sym (at
      ∙ ap (λ (qs : List Lexeme). x ∷ qs) at_left)) (g.among is leaves first items),
  more,
)

pub not_in_found : (st : List Frame) (l : Level) (a : Expr) (zs : List Lexeme) (out : Expr)
    → After (IsKeyword (codes "not")) (λ us. Rest (state st l (mode.NotIn a)) us out) zs
    → BehindOperand (BehindTest st l) (inside st) a zs out
not_in_found st l a zs out (
  n,
  ts,
  at_n,
  not,
  (
    x,
    us,
    at,
    is,
    (
      left,
      vs,
      at_left,
      leaves,
      (
        b,
        ys,
        first,
        (all, ws, items, more),
      ),
    ),
  ),
) = (
  expr.OneOf true a all,
  ws,
  subst (λ (qs : List Lexeme). Related (inside st) a (expr.OneOf true a all) qs ws)
      (sym (at_n ∙ ap (λ (qs : List Lexeme). n ∷ qs) (at
      ∙ ap (λ (qs : List Lexeme). x ∷ qs) at_left))) (g.not_among not is leaves first items),
  more,
)

pub operand_found : (st : List Frame) (l : Level) (a : Expr) (c : Option Class) (look : Option Lexeme) (zs :
    List Lexeme) (out : Expr) → class_at look ≡ c
    → RestBehind (after_operand st l a c) look zs out → BehindOperand (BehindTest st l) (inside st) a (seen look zs) out
operand_found st l a (Some (class.Compared op)) look zs out is h =
    compare_found st l op a (seen look zs) out (after_found (g.IsComparison op) (class.Compared op) (state st l
    (mode.Want (slot.Right op a))) look zs out is (means (class.Compared op)) h)
operand_found st l a (Some (class.Word word.In)) look zs out is h =
    in_found st l a (seen look zs) out (after_found (IsKeyword (codes "in")) (class.Word word.In) (state st l
    (mode.In false a)) look zs out is (means (class.Word word.In)) h)
operand_found st l a (Some (class.Word word.Not)) look zs out is h =
    not_in_found st l a (seen look zs) out (after_found (IsKeyword (codes "not")) (class.Word word.Not) (state st l
    (mode.NotIn a)) look zs out is (means (class.Word word.Not)) h)
operand_found st l a c look zs out is h = operand_ends st l a c look zs out is h

pub comma_found : (st : List Frame) (l : Level) (n : Bool) (a : Expr) (items : List Expr) (zs : List Lexeme) (out : Expr)
    → After (IsSign (codes ",")) (λ us. Rest (state st l (mode.Want (slot.Item n a items))) us out) zs
    → BehindItems (BehindTest st l) (inside st) n a items zs out
comma_found st l n a items zs out (x, us, at, is, (b, ys, first, (all, ws, more, k))) =
    (all, ws, subst (λ (qs : List Lexeme). Items (inside st) items all qs ws) (sym at) (g.item_more is first more), k)

pub items_closed : (st : List Frame) (l : Level) (n : Bool) (a : Expr) (items : List Expr) (zs : List Lexeme) (out : Expr)
    → After (IsSign (codes ")")) (λ us. Rest (state st l (mode.Related (expr.OneOf n a items))) us out) zs
    → BehindItems (BehindTest st l) (inside st) n a items zs out
items_closed st l n a items zs out (x, us, at, is, more) =
    (items, us, subst (λ (qs : List Lexeme). Items (inside st) items items qs us) (sym at) (g.item_end is), more)

pub item_found : (st : List Frame) (l : Level) (n : Bool) (a : Expr) (items : List Expr) (c : Option Class) (look :
    Option Lexeme) (zs : List Lexeme) (out : Expr) → class_at look ≡ c
    → RestBehind (after_item st l n a items c) look zs out
    → BehindItems (BehindTest st l) (inside st) n a items (seen look zs) out
item_found st l n a items (Some (class.Sign sign.Comma)) look zs out is h =
    comma_found st l n a items (seen look zs) out (after_found (IsSign (codes ",")) (class.Sign sign.Comma)
    (state st l (mode.Want (slot.Item n a items))) look zs out is (means (class.Sign sign.Comma)) h)
item_found st l n a items (Some (class.Sign sign.Close)) look zs out is h =
    items_closed st l n a items (seen look zs) out (after_found (IsSign (codes ")")) (class.Sign sign.Close)
    (state st l (mode.Related (expr.OneOf n a items))) look zs out is (means (class.Sign sign.Close)) h)
item_found st l n a items _ look zs out is h = absurd h

pub over_found : (st : List Frame) (l : Level) (s : Slot) (v : Expr) (c : Option Class) (look : Option Lexeme) (zs :
    List Lexeme) (out : Expr) → class_at look ≡ c
    → RestBehind (over st l s v c) look zs out → BehindGiven (BehindTest st l) (inside st) s v (seen look zs) out
over_found st l slot.First v c look zs out is h = operand_found st l v c look zs out is h
over_found st l (slot.Right op a) v c look zs out is h = related_found st l (expr.Compare op a v) c look zs out is h
over_found st l (slot.Item n a items) v c look zs out is h = item_found st l n a (items ++ v ∷ []) c look zs out is h
