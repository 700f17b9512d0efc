-- The tables that a resolved expression reads are those of its readings.
use Rattle.std.proofs.Common.{◌≡◌, ℕ, Bool, true, false, ◌||◌, not, cond, List, [], ◌∷◌, ◌++◌, map, Option, Some, None}
use Rattle.std.proofs.Common.{Ok, refl, ap, ap₂, sym, ◌∙◌, subst, append-nil}
use Rattle.std.specs.Prelude.{option_map}
use Rattle.std.specs.List.{list_any, flat_map}
use Rattle.std.proofs.lemmas.List.{map-append}
use Rattle.rt_value.specs.declared.value.Kind.{Kind}
use Rattle.rt_value.specs.declared.value.Value.{Value}
use Rattle.rt_value.specs.declared.value.Value.TheVariants as value
use Rattle.rt_value.specs.Reading.{value_in_text}
use Rattle.rt_value.specs.Choice.{◌>>=◌, some_if}
use Rattle.rt_policy.specs.declared.judge.Comparison.{Comparison}
use Rattle.rt_policy.specs.declared.judge.Tested.{Tested}
use Rattle.rt_policy.specs.declared.judge.Tested.TheVariants as tested
use Rattle.rt_policy.specs.declared.judge.Judge.{Judge}
use Rattle.rt_policy.specs.declared.judge.Judge.TheVariants as judge
use Rattle.rt_policy.specs.declared.judge.Judge.TheOpen.{Judge-F}
use Rattle.rt_policy.specs.declared.judge.Judge.TheFolds.{fold-roll-Judge}
use Rattle.rt_policy.specs.declared.meaning.Group.{Group}
use Rattle.rt_policy.specs.declared.meaning.Group.TheVariants as group
use Rattle.rt_policy.specs.declared.meaning.Found.{Found}
use Rattle.rt_policy.specs.declared.meaning.Meaning.{Meaning}
use Rattle.rt_policy.specs.declared.meaning.Meaning.TheVariants as meaning
use Rattle.rt_policy.specs.declared.meaning.Wanted.{Wanted}
use Rattle.rt_policy.specs.declared.meaning.Wanted.TheVariants as wanted
use Rattle.rt_policy.specs.declared.expr.Literal.{Literal}
use Rattle.rt_policy.specs.declared.expr.Literal.TheVariants as literal
use Rattle.rt_policy.specs.declared.expr.Selected.{Selected}
use Rattle.rt_policy.specs.declared.expr.Expr.{Expr}
use Rattle.rt_policy.specs.declared.expr.Expr.TheOpen.{Expr-F}
use Rattle.rt_policy.specs.declared.expr.Expr.TheViews.{roll-Expr}
use Rattle.rt_policy.specs.declared.expr.Expr.TheFolds.{fold-roll-Expr, ind-Expr, map-Expr}
use Rattle.rt_policy.specs.declared.scope.Scope.{Scope}
use Rattle.rt_policy.specs.Types.{meaning_of}
use Rattle.rt_policy.specs.Resolution.{Reading, group_of, same_group, kind_in, is_unnamed, is_mistyped, constant}
use Rattle.rt_policy.specs.Resolution.{within, truth_given, judge_as, all_as}
use Rattle.rt_policy.specs.Resolution.{typed_or, truth_or, of_truth, compared_by, common_group, negated_if}
use Rattle.rt_policy.specs.Resolution.{among, number_text, literal_meaning, cast_meaning, read_as}
use Rattle.rt_policy.specs.Resolution.{typed_column, column_meaning, column_found, table_read}
use Rattle.rt_policy.specs.Resolution.{selected_meaning, condition_meaning}
use Rattle.rt_policy.specs.Resolution.{exists_in, is_meaning, meaning_step, meaning_in, as_condition}
use Rattle.rt_policy.specs.Resolution.{resolved}
use Rattle.rt_policy.specs.Readings.{TableReading, Named, named_step, named_in, readings_of, readings_at}
use Rattle.rt_policy.specs.Readings.{readings_within, tables_step, tables_of}

of_literal : (v : Value) → tables_of (judge.Literal v) ≡ []
of_literal v = ap tables_of (sym (judge.rolls-Literal v)) ∙ fold-roll-Judge (List ℕ) tables_step (Judge-F.Literal v)

of_outer : (n : ℕ) → tables_of (judge.Outer n) ≡ []
of_outer n = ap tables_of (sym (judge.rolls-Outer n)) ∙ fold-roll-Judge (List ℕ) tables_step (Judge-F.Outer n)

of_inner : (n : ℕ) → tables_of (judge.Inner n) ≡ []
of_inner n = ap tables_of (sym (judge.rolls-Inner n)) ∙ fold-roll-Judge (List ℕ) tables_step (Judge-F.Inner n)

of_uid : tables_of judge.Uid ≡ []
of_uid = ap tables_of (sym judge.rolls-Uid) ∙ fold-roll-Judge (List ℕ) tables_step Judge-F.Uid

of_role : tables_of judge.Role ≡ []
of_role = ap tables_of (sym judge.rolls-Role) ∙ fold-roll-Judge (List ℕ) tables_step Judge-F.Role

of_claim : (name : List ℕ) → tables_of (judge.Claim name) ≡ []
of_claim name = ap tables_of (sym (judge.rolls-Claim name)) ∙ fold-roll-Judge (List ℕ) tables_step (Judge-F.Claim name)

of_compare : (op : Comparison) (a b : Judge) → tables_of (judge.Compare op a b) ≡ tables_of a ++ tables_of b
of_compare op a b =
    ap tables_of (sym (judge.rolls-Compare op a b)) ∙ fold-roll-Judge (List ℕ) tables_step (Judge-F.Compare op a b)

abbrev all_tables : List Judge → List ℕ
all_tables js = flat_map (λ (t : List ℕ). t) (map tables_of js)

of_one_of : (a : Judge) (js : List Judge) → tables_of (judge.OneOf a js) ≡ tables_of a ++ all_tables js
of_one_of a js = ap tables_of (sym (judge.rolls-OneOf a js)) ∙ fold-roll-Judge (List ℕ) tables_step (Judge-F.OneOf a js)

of_not : (a : Judge) → tables_of (judge.Not a) ≡ tables_of a
of_not a = ap tables_of (sym (judge.rolls-Not a)) ∙ fold-roll-Judge (List ℕ) tables_step (Judge-F.Not a)

of_and : (js : List Judge) → tables_of (judge.And js) ≡ all_tables js
of_and js = ap tables_of (sym (judge.rolls-And js)) ∙ fold-roll-Judge (List ℕ) tables_step (Judge-F.And js)

of_or : (js : List Judge) → tables_of (judge.Or js) ≡ all_tables js
of_or js = ap tables_of (sym (judge.rolls-Or js)) ∙ fold-roll-Judge (List ℕ) tables_step (Judge-F.Or js)

of_is : (asked : Tested) (a : Judge) → tables_of (judge.Is asked a) ≡ tables_of a
of_is asked a = ap tables_of (sym (judge.rolls-Is asked a)) ∙ fold-roll-Judge (List ℕ) tables_step (Judge-F.Is asked a)

of_exists : (t : ℕ) (c : Judge) → tables_of (judge.Exists t c) ≡ t ∷ tables_of c
of_exists t c = ap tables_of (sym (judge.rolls-Exists t c)) ∙ fold-roll-Judge (List ℕ) tables_step (Judge-F.Exists t c)

-- a part's judge reads these tables; one that takes its group from the other side reads none
abbrev Reads : List ℕ → Meaning → Type 0
Reads ts meaning.Unnamed = Unit {0}
Reads ts meaning.Mistyped = Unit {0}
Reads ts (meaning.OpenText t) = ts ≡ []
Reads ts meaning.OpenNull = ts ≡ []
Reads ts (meaning.Typed g j) = tables_of j ≡ ts

-- a judge, if there is one, reads these tables
abbrev Gives : List ℕ → Option Judge → Type 0
Gives ts None = Unit {0}
Gives ts (Some j) = tables_of j ≡ ts

abbrev AllGive : List ℕ → Option (List Judge) → Type 0
AllGive ts None = Unit {0}
AllGive ts (Some js) = all_tables js ≡ ts

constant_gives : (v : Option Value) → Gives [] (constant v)
constant_gives None = tt
constant_gives (Some v) = of_literal v

typed_reads : (g : Group) (ts : List ℕ) (o : Option Judge) → Gives ts o → Reads ts (typed_or g o)
typed_reads g ts None h = tt
typed_reads g ts (Some j) h = h

truth_reads : (u : Bool) (ts : List ℕ) (o : Option Judge) → Gives ts o → Reads ts (truth_or u o)
truth_reads true ts o h = tt
truth_reads false ts None h = tt
truth_reads false ts (Some j) h = h

gated : (b : Bool) (ts : List ℕ) (j : Judge) → tables_of j ≡ ts → Gives ts (some_if b j)
gated true ts j h = h
gated false ts j h = tt

within_gives : (g : Group) (ts : List ℕ) (m : Meaning) → Reads ts m → Gives ts (within g m)
within_gives g ts meaning.Unnamed h = tt
within_gives g ts meaning.Mistyped h = tt
within_gives g ts (meaning.OpenText t) h =
    let read = value_in_text (kind_in g) t in
    subst (λ us. Gives us (constant read)) (sym h) (constant_gives read)
within_gives g ts meaning.OpenNull h = of_literal value.Null ∙ sym h
within_gives g ts (meaning.Typed k j) h = gated (same_group g k) ts j h

truth_gives : (ts : List ℕ) (m : Meaning) → Reads ts m → Gives ts (truth_given m)
truth_gives ts meaning.Unnamed h = tt
truth_gives ts meaning.Mistyped h = tt
truth_gives ts (meaning.OpenText t) h = tt
truth_gives ts meaning.OpenNull h = tt
truth_gives ts (meaning.Typed group.Whole j) h = tt
truth_gives ts (meaning.Typed group.Text j) h = tt
truth_gives ts (meaning.Typed group.Truth j) h = h
truth_gives ts (meaning.Typed group.Uuid j) h = tt
truth_gives ts (meaning.Typed group.Moment j) h = tt

judge_gives : (w : Wanted) (ts : List ℕ) (m : Meaning) → Reads ts m → Gives ts (judge_as w m)
judge_gives wanted.Truth ts m h = truth_gives ts m h
judge_gives (wanted.Of g) ts m h = within_gives g ts m h

-- a judge that is made of one
mapped_gives : (make : Judge → Judge) → ((j : Judge) → tables_of (make j) ≡ tables_of j) →
    (ts : List ℕ) (o : Option Judge) →
    Gives ts o → Gives ts (option_map make o)
mapped_gives make keeps ts None h = tt
mapped_gives make keeps ts (Some j) h = keeps j ∙ h

negated_keeps : (negated : Bool) (j : Judge) → tables_of (negated_if negated j) ≡ tables_of j
negated_keeps true j = of_not j
negated_keeps false j = refl

one_reads : (make : Judge → Judge) → ((j : Judge) → tables_of (make j) ≡ tables_of j) → (ts : List ℕ) (m : Meaning) →
    Reads ts m → Reads ts (of_truth m make)
one_reads make keeps ts m h =
    truth_reads (is_unnamed m) ts (option_map make (truth_given m))
    (mapped_gives make keeps ts (truth_given m) (truth_gives ts m h))

-- two judges, or a judge and a list
pair_gives : (op : Comparison) (ts us : List ℕ) (a b : Option Judge) → Gives ts a → Gives us b →
    Gives (ts ++ us) (a >>= λ x. option_map (λ y. judge.Compare op x y) b)
pair_gives op ts us None b h k = tt
pair_gives op ts us (Some x) None h k = tt
pair_gives op ts us (Some x) (Some y) h k = of_compare op x y ∙ ap₂ (λ v w. v ++ w) h k

with_gives : (negated : Bool) (ts us : List ℕ) (a : Option Judge) (b : Option (List Judge)) → Gives ts a →
    AllGive us b →
    Gives (ts ++ us) (a >>= λ x. option_map (λ js. negated_if negated (judge.OneOf x js)) b)
with_gives negated ts us None b h k = tt
with_gives negated ts us (Some x) None h k = tt
with_gives negated ts us (Some x) (Some js) h k =
    negated_keeps negated (judge.OneOf x js) ∙ of_one_of x js ∙ ap₂ (λ v w. v ++ w) h k

more_give : (ts us : List ℕ) (a : Option Judge) (b : Option (List Judge)) → Gives ts a → AllGive us b →
    AllGive (ts ++ us) (a >>= λ j. option_map (λ js. j ∷ js) b)
more_give ts us None b h k = tt
more_give ts us (Some j) None h k = tt
more_give ts us (Some j) (Some js) h k = ap₂ (λ v w. v ++ w) h k

many_read : (make : List Judge → Judge) → ((js : List Judge) → tables_of (make js) ≡ all_tables js) →
    (u : Bool) (ts : List ℕ) (o : Option (List Judge)) →
    AllGive ts o → Reads ts (truth_or u (option_map make o))
many_read make keeps true ts o h = tt
many_read make keeps false ts None h = tt
many_read make keeps false ts (Some js) h = keeps js ∙ h

is_keeps : (negated : Bool) (asked : Tested) (j : Judge) →
    tables_of (negated_if negated (judge.Is asked j)) ≡ tables_of j
is_keeps negated asked j = negated_keeps negated (judge.Is asked j) ∙ of_is asked j

is_reads : (negated : Bool) (asked : Tested) (ts : List ℕ) (m : Meaning) → Reads ts m →
    Reads ts (is_meaning negated asked m)
is_reads negated tested.Null ts m h =
    let make = λ (j : Judge). negated_if negated (judge.Is tested.Null j) in
    let made = within (common_group (m ∷ [])) m in
    truth_reads (is_unnamed m) ts (option_map make made)
    (mapped_gives make (is_keeps negated tested.Null) ts made (within_gives (common_group (m ∷ [])) ts m h))
is_reads negated tested.True ts m h =
    one_reads (λ j. negated_if negated (judge.Is tested.True j)) (is_keeps negated tested.True) ts m h
is_reads negated tested.False ts m h =
    one_reads (λ j. negated_if negated (judge.Is tested.False j)) (is_keeps negated tested.False) ts m h
is_reads negated tested.Unknown ts m h =
    one_reads (λ j. negated_if negated (judge.Is tested.Unknown j)) (is_keeps negated tested.Unknown) ts m h

literal_reads : (l : Literal) → Reads [] (literal_meaning l)
literal_reads (literal.Text t) = refl
literal_reads (literal.Number minus digits) = typed_reads group.Whole [] _ (constant_gives _)
literal_reads (literal.Truth b) = of_literal (value.Bool b)
literal_reads literal.Null = refl

read_reads : (k : Kind) (t : List ℕ) (o : Option Group) → Reads [] (read_as k t o)
read_reads k t None = tt
read_reads k t (Some g) = typed_reads g [] _ (constant_gives _)

cast_reads : (l : Literal) (k : Kind) → Reads [] (cast_meaning l k)
cast_reads (literal.Text t) k = read_reads k t _
cast_reads (literal.Number minus digits) k = read_reads k (number_text minus digits) _
cast_reads (literal.Truth b) k = tt
cast_reads literal.Null k = tt

judge_reads : (inner : Bool) (n : ℕ) → tables_of (cond inner (judge.Inner n) (judge.Outer n)) ≡ []
judge_reads true n = of_inner n
judge_reads false n = of_outer n

typed_column_reads : (f : Found) (o : Option Group) → Reads [] (typed_column f o)
typed_column_reads f None = tt
typed_column_reads f (Some g) = judge_reads f.inner f.column

column_reads : (o : Option Found) → Reads [] (column_meaning o)
column_reads None = tt
column_reads (Some f) = typed_column_reads f (group_of f.kind)

exists_made : (n : ℕ) (ts : List ℕ) (w : Bool) (o : Option Judge) → Gives ts o →
    Reads (n ∷ ts) (truth_or w (option_map (judge.Exists n) o))
exists_made n ts true o h = tt
exists_made n ts false None h = tt
exists_made n ts false (Some j) h = of_exists n j ∙ ap (λ us. n ∷ us) h

exists_reads : (n : ℕ) (u v : Bool) (ts : List ℕ) (m : Meaning) → Reads ts m →
    Reads (n ∷ ts) (cond u meaning.Unnamed (cond v meaning.Mistyped (of_truth m (judge.Exists n))))
exists_reads n true v ts m h = tt
exists_reads n false true ts m h = tt
exists_reads n false false ts m h = exists_made n ts (is_unnamed m) (truth_given m) (truth_gives ts m h)

abbrev tables_in : List TableReading → List ℕ
tables_in rs = map (λ r. r.table) rs

module _ (scope : Scope) where
  abbrev Part : Type 0
  Part = Option Reading → Meaning

  -- what a part means reads the tables of what it names
  abbrev IsRead : Part → Named → Type 0
  IsRead mean named = (at : Option Reading) → Reads (tables_in named.readings) (mean at)

  abbrev Read : Expr → Type 0
  Read e = IsRead (meaning_in scope e) (named_in scope e)

  abbrev Known : Type 0
  Known = (e : Expr) × Read e

  abbrev mean : Known → Part
  mean k = meaning_in scope k.0

  abbrev named : Known → Named
  named k = named_in scope k.0

  abbrev exprs : List Known → List Expr
  exprs all = map (λ k. k.0) all

  two : (xs ys : List TableReading) → tables_in (xs ++ ys) ≡ tables_in xs ++ tables_in ys
  two xs ys = map-append (λ (r : TableReading). r.table) xs ys

  two_alone : (xs ys : List TableReading) → tables_in (xs ++ (ys ++ [])) ≡ tables_in xs ++ tables_in ys
  two_alone xs ys = two xs (ys ++ []) ∙ ap (λ ts. tables_in xs ++ ts) (ap tables_in (append-nil ys))

  all_read : (w : Wanted) (at : Option Reading) (all : List Known) →
      AllGive (tables_in (flat_map (λ (n : Named). n.readings) (map (named_in scope) (exprs all))))
      (all_as w (map (λ (h : Part). h at) (map (meaning_in scope) (exprs all))))
  all_read w at [] = refl
  all_read w at (k ∷ ks) =
      let rest = flat_map (λ (n : Named). n.readings) (map (named_in scope) (exprs ks)) in
      let parts = map (λ (h : Part). h at) (map (meaning_in scope) (exprs ks)) in
      subst (λ ts. AllGive ts (judge_as w (mean k at) >>= λ j. option_map (λ js. j ∷ js) (all_as w parts)))
      (sym (two (named k).readings rest))
      (more_give _ _ (judge_as w (mean k at)) (all_as w parts) (judge_gives w _ (mean k at) (k.1 at))
      (all_read w at ks))

  condition_read : (r : Reading) (c : Option Known) →
      Reads (tables_in (readings_within (option_map named c))) (condition_meaning r (option_map mean c))
  condition_read r None = of_literal (value.Bool true)
  condition_read r (Some c) = c.1 (Some r)

  exists_read : (s : Selected) (c : Option Known) (o : Option Reading) →
      Reads (tables_in (readings_at scope s (option_map named c) o)) (exists_in scope s (option_map mean c) o)
  exists_read s c None = tt
  exists_read s c (Some r) =
      let selects = selected_meaning scope r s in
      let condition = condition_meaning r (option_map mean c) in
      exists_reads r.number (is_unnamed selects || is_unnamed condition)
      (is_mistyped selects || not r.table.keyed) _ condition (condition_read r c)

  stepped : (y : Expr-F Known) →
      IsRead (meaning_step scope (map-Expr Expr Part (meaning_in scope) (map-Expr Known Expr (λ k. k.0) y)))
      (named_step scope (map-Expr Expr Named (named_in scope) (map-Expr Known Expr (λ k. k.0) y)))
  stepped (Expr-F.Literal l) at = literal_reads l
  stepped (Expr-F.Cast l t) at = cast_reads l (meaning_of t).kind
  stepped Expr-F.Uid at = of_uid
  stepped Expr-F.Role at = of_role
  stepped (Expr-F.Claim name) at = of_claim name
  stepped (Expr-F.Column qualifier name) at = column_reads (column_found scope at qualifier name)
  stepped (Expr-F.Group a) at = a.1 at
  stepped (Expr-F.Compare op a b) at =
      let x = mean a at in
      let y = mean b at in
      let g = common_group (x ∷ y ∷ []) in
      subst (λ ts. Reads ts (compared_by op x y)) (sym (two_alone (named a).readings (named b).readings))
      (truth_reads (is_unnamed x || is_unnamed y) _ _
      (pair_gives op _ _ (within g x) (within g y) (within_gives g _ x (a.1 at)) (within_gives g _ y (b.1 at))))
  stepped (Expr-F.OneOf negated a items) at =
      let x = mean a at in
      let parts = map (λ (h : Part). h at) (map (meaning_in scope) (exprs items)) in
      let rest = flat_map (λ (n : Named). n.readings) (map (named_in scope) (exprs items)) in
      let g = common_group (x ∷ parts) in
      subst (λ ts. Reads ts (among negated x parts)) (sym (two (named a).readings rest))
      (truth_reads (is_unnamed x || list_any is_unnamed parts) _ _
      (with_gives negated _ _ (within g x) (all_as (wanted.Of g) parts) (within_gives g _ x (a.1 at))
      (all_read (wanted.Of g) at items)))
  stepped (Expr-F.Not a) at = one_reads judge.Not of_not _ (mean a at) (a.1 at)
  stepped (Expr-F.And all) at = many_read judge.And of_and _ _ _ (all_read wanted.Truth at all)
  stepped (Expr-F.Or all) at = many_read judge.Or of_or _ _ _ (all_read wanted.Truth at all)
  stepped (Expr-F.Is negated asked a) at = is_reads negated asked _ (mean a at) (a.1 at)
  stepped (Expr-F.Exists s schema table alias None) at = exists_read s None (table_read scope schema table alias)
  stepped (Expr-F.Exists s schema table alias (Some c)) at =
      exists_read s (Some c) (table_read scope schema table alias)

  layer : (y : Expr-F Known) → Read (roll-Expr (map-Expr Known Expr (λ k. k.0) y))
  layer y at =
      let form = map-Expr Known Expr (λ k. k.0) y in
      let named_there = named_step scope (map-Expr Expr Named (named_in scope) form) in
      subst (λ (n : Named). Reads (tables_in n.readings) (meaning_in scope (roll-Expr form) at))
      (sym (fold-roll-Expr Named (named_step scope) form))
      (subst (λ (m : Meaning). Reads (tables_in named_there.readings) m)
      (sym (ap (λ (h : Part). h at) (fold-roll-Expr Part (meaning_step scope) form)))
      (stepped y at))

  is_read : (e : Expr) → Read e
  is_read = ind-Expr Read (λ x y is. subst (λ z. Read (roll-Expr z)) is (layer y))

resolved_reads : (ts : List ℕ) (m : Meaning) (j : Judge) → Reads ts m → as_condition m ≡ Ok j → tables_of j ≡ ts
resolved_reads ts meaning.Unnamed j h e = absurd (cc)
resolved_reads ts meaning.Mistyped j h e = absurd (cc)
resolved_reads ts (meaning.OpenText t) j h e = absurd (cc)
resolved_reads ts meaning.OpenNull j h e = absurd (cc)
resolved_reads ts (meaning.Typed group.Whole k) j h e = absurd (cc)
resolved_reads ts (meaning.Typed group.Text k) j h e = absurd (cc)
resolved_reads ts (meaning.Typed group.Truth k) j h e = let same : k ≡ j = cc in ap tables_of (sym same) ∙ h
resolved_reads ts (meaning.Typed group.Uuid k) j h e = absurd (cc)
resolved_reads ts (meaning.Typed group.Moment k) j h e = absurd (cc)

pub tables_are_read : (scope : Scope) (e : Expr) (j : Judge) → resolved scope e ≡ Ok j →
    tables_of j ≡ map (λ r. r.table) (readings_of scope e)
unfolding resolved readings_of
tables_are_read scope e j is = resolved_reads _ (meaning_in scope e None) j (is_read scope e None) is
