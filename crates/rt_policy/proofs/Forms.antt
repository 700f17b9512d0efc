-- The value of an expression that is made of a list, and how such a value is reached item by item.
use Rattle.std.proofs.Common.{◌<◌, ◌+◌, cond, false, true, Bool, Some, ◌≡◌, ℕ, List, [], ◌∷◌, map, drop, length}
use Rattle.std.proofs.Common.{get_or, suc, ap, ◌∙◌, sym, refl, arith, add-one, drop-cons}
use Rattle.std.specs.List.{position_from}
use Rattle.rt_value.specs.declared.value.Value.{Value}
use Rattle.rt_policy.specs.declared.judge.Comparison.TheVariants as comparison
use Rattle.rt_policy.specs.declared.judge.Judge.{Judge}
use Rattle.rt_policy.specs.declared.judge.Judge.TheOpen.{Judge-F}
use Rattle.rt_policy.specs.declared.judge.Judge.TheViews as V
use Rattle.rt_policy.specs.declared.judge.Judge.TheVariants.{rolls-OneOf, rolls-And, rolls-Or}
use Rattle.rt_policy.specs.declared.judge.Judge.TheFolds.{fold-roll-Judge}
use Rattle.rt_policy.specs.declared.judge.Truth.{Truth}
use Rattle.rt_policy.specs.declared.judge.Truth.TheVariants as truth
use Rattle.rt_policy.specs.Truth.{truth_in, worth_of_truth, compared, one_of, or_of, and_of, all_of, any_of}
use Rattle.rt_policy.specs.declared.joining.Joining.{Joining}
use Rattle.rt_policy.specs.declared.joining.Joining.TheVariants.{And, Or, EqualTo}
use Rattle.rt_policy.specs.Joining.{joined, none_of, truth_by, combined}
use Rattle.rt_value.specs.Lent.{value_of}
use Rattle.rt_policy.specs.Worth.{Who, Place, View, worth_step, worth}

map_map : (f : Judge → Place → Value) (at : Place) (all : List Judge) →
    map (λ (h : Place → Value). h at) (map f all) ≡ map (λ j. f j at) all
map_map f at [] = refl
map_map f at (j ∷ js) = ap (λ vs. f j at ∷ vs) (map_map f at js)

pub worth_one_of : (who : Who) (view : View) (a : Judge) (all : List Judge) (at : Place) →
    worth who view (V.OneOf a all) at
    ≡ worth_of_truth (one_of (worth who view a at) (map (λ j. worth who view j at) all))
worth_one_of who view a all at =
    ap (λ j. worth who view j at) (sym (rolls-OneOf a all))
    ∙ ap (λ (h : Place → Value). h at) (fold-roll-Judge (Place → Value) (worth_step who view) (Judge-F.OneOf a all))
    ∙ ap (λ vs. worth_of_truth (one_of (worth who view a at) vs)) (map_map (worth who view) at all)

pub worth_and : (who : Who) (view : View) (all : List Judge) (at : Place) →
    worth who view (V.And all) at ≡ worth_of_truth (all_of (map (λ j. worth who view j at) all))
worth_and who view all at =
    ap (λ j. worth who view j at) (sym (rolls-And all))
    ∙ ap (λ (h : Place → Value). h at) (fold-roll-Judge (Place → Value) (worth_step who view) (Judge-F.And all))
    ∙ ap (λ vs. worth_of_truth (all_of vs)) (map_map (worth who view) at all)

pub worth_or : (who : Who) (view : View) (all : List Judge) (at : Place) →
    worth who view (V.Or all) at ≡ worth_of_truth (any_of (map (λ j. worth who view j at) all))
worth_or who view all at =
    ap (λ j. worth who view j at) (sym (rolls-Or all))
    ∙ ap (λ (h : Place → Value). h at) (fold-roll-Judge (Place → Value) (worth_step who view) (Judge-F.Or all))
    ∙ ap (λ vs. worth_of_truth (any_of vs)) (map_map (worth who view) at all)

and_assoc : (a b c : Truth) → and_of (and_of a b) c ≡ and_of a (and_of b c)
and_assoc truth.False b c = refl
and_assoc truth.True b c = refl
and_assoc truth.Unknown truth.False c = refl
and_assoc truth.Unknown truth.True c = refl
and_assoc truth.Unknown truth.Unknown truth.False = refl
and_assoc truth.Unknown truth.Unknown truth.True = refl
and_assoc truth.Unknown truth.Unknown truth.Unknown = refl

or_assoc : (a b c : Truth) → or_of (or_of a b) c ≡ or_of a (or_of b c)
or_assoc truth.True b c = refl
or_assoc truth.False b c = refl
or_assoc truth.Unknown truth.True c = refl
or_assoc truth.Unknown truth.False c = refl
or_assoc truth.Unknown truth.Unknown truth.True = refl
or_assoc truth.Unknown truth.Unknown truth.False = refl
or_assoc truth.Unknown truth.Unknown truth.Unknown = refl

-- the items from a place on are its item and those behind it
from_item : (js : List Judge) (i : ℕ) (j : Judge) → i < length js → j ≡ get_or js i j → drop i js ≡ j ∷ drop (i + 1) js
from_item js i j h is =
    drop-cons js i j h ∙ ap (λ x. x ∷ drop (suc i) js) (sym is) ∙ ap (λ n. j ∷ drop n js) (sym (add-one i))

pub joined_start : (how : Joining) (vs : List Value) → combined how (none_of how) (joined how vs) ≡ joined how vs
joined_start And vs = refl
joined_start Or vs = refl
joined_start (EqualTo x) vs = refl

pub joined_end : (how : Joining) (known : Truth) → combined how known (joined how []) ≡ known
joined_end And truth.True = refl
joined_end And truth.False = refl
joined_end And truth.Unknown = refl
joined_end Or truth.True = refl
joined_end Or truth.False = refl
joined_end Or truth.Unknown = refl
joined_end (EqualTo x) truth.True = refl
joined_end (EqualTo x) truth.False = refl
joined_end (EqualTo x) truth.Unknown = refl

joined_more : (how : Joining) (known : Truth) (v : Value) (vs : List Value) →
    combined how (combined how known (truth_by how v)) (joined how vs) ≡ combined how known (joined how (v ∷ vs))
joined_more And known v vs = and_assoc known (truth_in v) (all_of vs)
joined_more Or known v vs = or_assoc known (truth_in v) (any_of vs)
joined_more (EqualTo x) known v vs = or_assoc known (compared comparison.Equal (value_of x) v) (one_of (value_of x) vs)

pub joined_next : (how : Joining) (known : Truth) (f : Judge → Value) (js : List Judge) (i : ℕ) (j : Judge) →
    i < length js → j ≡ get_or js i j →
    combined how (combined how known (truth_by how (f j))) (joined how (map f (drop (i + 1) js)))
    ≡ combined how known (joined how (map f (drop i js)))
joined_next how known f js i j h is =
    joined_more how known (f j) (map f (drop (i + 1) js))
    ∙ ap (λ ks. combined how known (joined how (map f ks))) (sym (from_item js i j h is))

-- the value that is made of the truth of a list
pub value_joined : (how : Joining) (f : Judge → Value) (js all : List Judge) (known : Truth) (v : Value) →
    v ≡ worth_of_truth known → known ≡ joined how (map f js) → js ≡ all → v ≡ worth_of_truth (joined how (map f all))
value_joined how f js all known v made is same = made ∙ ap worth_of_truth (is ∙ ap (λ ks. joined how (map f ks)) same)

position_below_at : {X : Type 0} (p : X → Bool) (xs : List X) (k n : ℕ) (b : Bool) →
    cond b (Some k) (position_from p (k + 1) xs) ≡ Some n →
    (position_from p (k + 1) xs ≡ Some n → n < k + 1 + length xs) → n < k + suc (length xs)
position_below_at p xs k n true e more = let same : k ≡ n = cc in omega arith
position_below_at p xs k n false e more = let lt = more e in omega arith

pub position_below : {X : Type 0} (p : X → Bool) (xs : List X) (k n : ℕ) →
    position_from p k xs ≡ Some n → n < k + length xs
position_below p [] k n e = absurd (cc)
position_below p (x ∷ xs) k n e = position_below_at p xs k n (p x) e (position_below p xs (k + 1) n)
