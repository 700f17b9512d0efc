-- Entries whose keys rise, under a total order.
use Rattle.std.proofs.Common.{◌≡◌, ℕ, ◌+◌, ◌-◌, Bool, Some, false, true, List, [], ◌∷◌, ◌++◌, length, is_some, refl, ap, ◌∙◌, arith, if◌then◌else◌}
use Rattle.std.specs.declared.cmp.Ordering.{Ordering}
use Rattle.std.specs.declared.cmp.Ordering.TheVariants.{Less, Equal, Greater}
use Rattle.std.specs.BTreeMap.{insert_entry}
use Rattle.std.specs.Cmp.{IsTotalOrder}
use Rattle.std.specs.List.{AllByRecursion}
use Rattle.std.specs.List.Sorted.{IsStrictlySortedBy}
use Rattle.std.specs.Map.{keys_of}
use Rattle.std.specs.Ordering.{is_gt, is_lt, is_eq, match_ordering, ordering_reverse}
use Rattle.std.specs.Arc.{arc_value}
use Rattle.rt_ptree.specs.declared.change.Change.{Change}
use Rattle.rt_ptree.specs.declared.change.Change.TheVariants.{Put, Take}
use Rattle.rt_ptree.specs.Change.{change_key, changed}
use Rattle.rt_ptree.specs.Entries.{IsRising, IsBelow, IsAbove, value_at, least_key, without_key}
use Rattle.rt_ptree.proofs.Middle.{value_at-above}

is_lt_true : (r : Ordering) → is_lt r ≡ true → r ≡ Less
is_lt_true Less h = refl
is_lt_true Equal h = cc
is_lt_true Greater h = cc

is_gt_true : (r : Ordering) → is_gt r ≡ true → r ≡ Greater
is_gt_true Less h = cc
is_gt_true Equal h = cc
is_gt_true Greater h = refl

module _ {K V : Type 0} where
  all_left : (P : K → Type 0) (a b : List (K × V)) → AllByRecursion P (keys_of (a ++ b)) → AllByRecursion P (keys_of a)
  all_left P [] b all = tt
  all_left P (e ∷ a) b all = (all.0, all_left P a b all.1)

  -- what holds of all keys holds of the least of the second list
  all_least : (P : K → Type 0) (a b : List (K × V)) (l : K) → AllByRecursion P (keys_of (a ++ b)) → least_key b ≡ Some l → P l
  all_least P [] [] l all least = cc
  all_least P [] (x ∷ b) l all least = let same : x.0 ≡ l = cc in rw (← same) all.0
  all_least P (x ∷ a) b l all least = all_least P a b l all.1 least

  module _ (cmp : K → K → Ordering) where
    pub IsRising-left : (a b : List (K × V)) → IsRising cmp (a ++ b) → IsRising cmp a
    unfolding IsStrictlySortedBy
    IsRising-left [] b rising = tt
    IsRising-left (e ∷ a) b rising = (all_left _ a b rising.0, IsRising-left a b rising.1)

    pub IsRising-right : (a b : List (K × V)) → IsRising cmp (a ++ b) → IsRising cmp b
    unfolding IsStrictlySortedBy
    IsRising-right [] b rising = rising
    IsRising-right (e ∷ a) b rising = IsRising-right a b rising.1

    all_without : (P : K → Type 0) (k : K) (es : List (K × V)) → AllByRecursion P (keys_of es) → AllByRecursion P (keys_of (without_key cmp es k))
    all_without P k [] all = tt
    all_without P k (e ∷ es) all = elim (cmp k e.0) as (λ r. AllByRecursion P (keys_of (if is_eq r then es else e ∷ without_key cmp es k))) [
      | Less ↦ (all.0, all_without P k es all.1)
      | Equal ↦ all.1
      | Greater ↦ (all.0, all_without P k es all.1)
    ]

    all_insert : (P : K → Type 0) (k : K) (v : V) (es : List (K × V)) → P k → AllByRecursion P (keys_of es) → AllByRecursion P (keys_of (insert_entry cmp es k v))
    all_insert P k v [] here all = (here, tt)
    all_insert P k v (e ∷ es) here all = elim (cmp k e.0) as (λ r. AllByRecursion P (keys_of (match_ordering r ((k, v) ∷ e ∷ es) ((e.0, v) ∷ es) (e ∷ insert_entry cmp es k v)))) [
      | Less ↦ (here, all)
      | Equal ↦ all
      | Greater ↦ (all.0, all_insert P k v es here all.1)
    ]

    pub IsRising-without : (k : K) (es : List (K × V)) → IsRising cmp es → IsRising cmp (without_key cmp es k)
    unfolding IsStrictlySortedBy
    IsRising-without k [] rising = tt
    IsRising-without k (e ∷ es) rising = elim (cmp k e.0) as (λ r. IsRising cmp (if is_eq r then es else e ∷ without_key cmp es k)) [
      | Less ↦ (all_without _ k es rising.0, IsRising-without k es rising.1)
      | Equal ↦ rising.1
      | Greater ↦ (all_without _ k es rising.0, IsRising-without k es rising.1)
    ]

    -- a removal takes away one entry where the key is there
    pub length-without : (k : K) (es : List (K × V)) → length (without_key cmp es k) + (if is_some (value_at cmp es k) then 1 else 0) ≡ length es
    length-without k [] = refl
    length-without k (e ∷ es) = elim (cmp k e.0) as (λ r. length (if is_eq r then es else e ∷ without_key cmp es k) + (if is_some (if is_eq r then Some e.1 else value_at cmp es k) then 1 else 0) ≡ length (e ∷ es)) [
      | Less ↦ omega (arith, length-without k es)
      | Equal ↦ omega arith
      | Greater ↦ omega (arith, length-without k es)
    ]

module _ {K : Type 0} {cmp : K → K → Ordering} (o : IsTotalOrder cmp) where
  above-below : (x y : K) → cmp x y ≡ Less → cmp y x ≡ Greater
  above-below x y less = o.antisymm y x ∙ ap ordering_reverse less

  below-above : (x y : K) → cmp x y ≡ Greater → cmp y x ≡ Less
  below-above x y greater = o.antisymm y x ∙ ap ordering_reverse greater

  -- a key that is not below q is above all that is below q
  below_through : (k q x : K) → cmp x q ≡ Less → is_lt (cmp k q) ≡ false → cmp k x ≡ Greater
  below_through k q x less not_less = through (cmp k q) refl not_less
    where
      through : (r : Ordering) → cmp k q ≡ r → is_lt r ≡ false → cmp k x ≡ Greater
      through Less is h = cc
      through Equal is h = o.congr k q x is ∙ above-below x q less
      through Greater is h = above-below x k (o.trans x q k less (below-above k q is))

module _ {K V : Type 0} (cmp : K → K → Ordering) where
  -- an insertion above the least key leaves it
  insert-keeps_least : (k l : K) (v : V) (es : List (K × V)) → least_key es ≡ Some l → cmp k l ≡ Greater → least_key (insert_entry cmp es k v) ≡ Some l
  insert-keeps_least k l v [] least greater = cc
  insert-keeps_least k l v (x ∷ es) least greater =
      let same : l ≡ x.0 = cc in
      rw (rw same at greater) least

  without-keeps_least : (k l : K) (es : List (K × V)) → least_key es ≡ Some l → cmp k l ≡ Greater → least_key (without_key cmp es k) ≡ Some l
  without-keeps_least k l [] least greater = cc
  without-keeps_least k l (x ∷ es) least greater =
      let same : l ≡ x.0 = cc in
      rw (rw same at greater) least

  -- and so does a change
  pub changed-keeps_least : (c : Change K V) (l : K) (es : List (K × V)) → least_key es ≡ Some l → is_gt (cmp (change_key c) l) ≡ true → least_key (changed cmp c es) ≡ Some l
  changed-keeps_least (Put e) l es least greater = insert-keeps_least (arc_value e.now.key) l (arc_value e.now.value) es least (is_gt_true _ greater)
  changed-keeps_least (Take k) l es least greater = without-keeps_least k.now l es least (is_gt_true _ greater)

module _ {K V : Type 0} {cmp : K → K → Ordering} (o : IsTotalOrder cmp) where
  above_all : (k q : K) (es : List (K × V)) → cmp k q ≡ Less → AllByRecursion (λ y. cmp q y ≡ Less) (keys_of es) → IsAbove cmp es k
  above_all k q [] less all = tt
  above_all k q (e ∷ es) less all = (o.trans k q e.0 less all.0, above_all k q es less all.1)

  all_above : (k q : K) (es : List (K × V)) → cmp k q ≡ Less → AllByRecursion (λ y. cmp q y ≡ Less) (keys_of es) → AllByRecursion (λ y. cmp k y ≡ Less) (keys_of es)
  all_above k q [] less all = tt
  all_above k q (e ∷ es) less all = (o.trans k q e.0 less all.0, all_above k q es less all.1)

  -- all keys are above k where the least is
  pub IsAbove-from_least : (k : K) (es : List (K × V)) (l : K) → IsRising cmp es → least_key es ≡ Some l → is_lt (cmp k l) ≡ true → IsAbove cmp es k
  unfolding IsStrictlySortedBy
  IsAbove-from_least k [] l rising least less = tt
  IsAbove-from_least k (x ∷ es) l rising least less =
      let same : l ≡ x.0 = cc in
      let above : cmp k x.0 ≡ Less = is_lt_true _ (rw same at less) in
      (above, above_all k x.0 es above rising.0)

  -- all keys of the first list are below k where the least of the second is not above it
  pub IsBelow-from_least : (k : K) (a b : List (K × V)) (l : K) → IsRising cmp (a ++ b) → least_key b ≡ Some l → is_lt (cmp k l) ≡ false → IsBelow cmp a k
  unfolding IsStrictlySortedBy
  IsBelow-from_least k [] b l rising least not_less = tt
  IsBelow-from_least k (x ∷ a) b l rising least not_less =
      (below_through o k l x.0 (all_least _ a b l rising.0 least) not_less, IsBelow-from_least k a b l rising.1 least not_less)

  put_rises : (k : K) (v : V) (e : K × V) (es : List (K × V)) → IsRising cmp (e ∷ es) → IsRising cmp (insert_entry cmp es k v) → (r : Ordering) → cmp k e.0 ≡ r → IsRising cmp (match_ordering r ((k, v) ∷ e ∷ es) ((e.0, v) ∷ es) (e ∷ insert_entry cmp es k v))
  unfolding IsStrictlySortedBy
  put_rises k v e es rising rest Less is = ((is, all_above k e.0 es is rising.0), rising)
  put_rises k v e es rising rest Equal is = rising
  put_rises k v e es rising rest Greater is = (all_insert cmp _ k v es (below-above o k e.0 is) rising.0, rest)

  pub IsRising-insert : (k : K) (v : V) (es : List (K × V)) → IsRising cmp es → IsRising cmp (insert_entry cmp es k v)
  unfolding IsStrictlySortedBy
  IsRising-insert k v [] rising = (tt, tt)
  IsRising-insert k v (e ∷ es) rising = put_rises k v e es rising (IsRising-insert k v es rising.1) (cmp k e.0) refl

  length-put : (k : K) (v : V) (e : K × V) (es : List (K × V)) → IsRising cmp (e ∷ es) → length (insert_entry cmp es k v) ≡ length es + (if is_some (value_at cmp es k) then 0 else 1) → (r : Ordering) → cmp k e.0 ≡ r → length (match_ordering r ((k, v) ∷ e ∷ es) ((e.0, v) ∷ es) (e ∷ insert_entry cmp es k v)) ≡ length (e ∷ es) + (if is_some (if is_eq r then Some e.1 else value_at cmp es k) then 0 else 1)
  unfolding IsStrictlySortedBy
  length-put k v e es rising rest Less is = rw (value_at-above cmp k es (above_all k e.0 es is rising.0)) (omega arith)
  length-put k v e es rising rest Equal is = omega arith
  length-put k v e es rising rest Greater is = omega arith

  -- an insertion adds one entry where the key is not there
  pub length-insert : (k : K) (v : V) (es : List (K × V)) → IsRising cmp es → length (insert_entry cmp es k v) ≡ length es + (if is_some (value_at cmp es k) then 0 else 1)
  unfolding IsStrictlySortedBy
  length-insert k v [] rising = refl
  length-insert k v (e ∷ es) rising = length-put k v e es rising (length-insert k v es rising.1) (cmp k e.0) refl

-- the count where one entry is put in, and where one is taken away
pub count-insert : (b : Bool) (n : ℕ) → (if b then n else n + 1) ≡ n + (if b then 0 else 1)
count-insert true n = omega arith
count-insert false n = refl

pub count-without : (b : Bool) (n m : ℕ) → m + (if b then 1 else 0) ≡ n → (if b then n - 1 else n) ≡ m
count-without true n m h = omega (arith, h)
count-without false n m h = omega (arith, h)
