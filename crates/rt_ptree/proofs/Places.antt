-- The entries of a list of parts, cut at one part.
use Rattle.std.proofs.Common.{◌≡◌, ℕ, ◌+◌, ◌<◌, Some, false, true, List, [], ◌∷◌, ◌++◌, length, take, drop, get_or, slice_get, sym, subst, ap, ◌∙◌, flat_map, arith}
use Rattle.std.specs.declared.cmp.Ordering.{Ordering}
use Rattle.std.specs.Cmp.{IsTotalOrder}
use Rattle.std.specs.Ordering.{is_lt}
use Rattle.std.proofs.lemmas.List.{append-nil, take-append-drop, drop_more}
use Rattle.std.proofs.lemmas.List.Concat.{flat_map-append}
use Rattle.std.specs.BTreeMap.{insert_entry}
use Rattle.std.specs.Option.{option_or}
use Rattle.std.specs.Arc.{arc_value}
use Rattle.rt_ptree.specs.declared.change.Change.{Change}
use Rattle.rt_ptree.specs.declared.change.Change.TheVariants.{Put, Take}
use Rattle.rt_ptree.specs.Change.{change_key, changed}
use Rattle.rt_ptree.specs.Entries.{IsRising, IsBelow, IsAbove, value_at, least_key, entry_after, without_key}
use Rattle.rt_ptree.proofs.Middle.{insert_entry-middle, without_key-middle, value_at-middle, entry_after-middle}
use Rattle.rt_ptree.proofs.Order.{IsRising-left, IsRising-right, IsAbove-from_least, IsBelow-from_least}

-- the first of two lists that are joined
pub first-append : {E : Type 0} (xs ys : List E) (e : E) → slice_get xs 0 ≡ Some e → slice_get (xs ++ ys) 0 ≡ Some e
first-append [] ys e first = cc
first-append (x ∷ xs) ys e first = first

-- the least key of the first of two lists that are joined
pub least-append : {K V : Type 0} (xs ys : List (K × V)) (k : K) → least_key xs ≡ Some k → least_key (xs ++ ys) ≡ Some k
least-append [] ys k least = cc
least-append (x ∷ xs) ys k least = least

-- there is an entry where there is a least key
pub least-some : {C K V : Type 0} (f : C → List (K × V)) (parts : List C) (k : K) → least_key (flat_map f parts) ≡ Some k → 0 < length parts
least-some f [] k least = cc
least-some f (x ∷ parts) k least = omega arith

-- the entries of a list that is cut into halves
pub flat_map-halves : {C E : Type 0} (f : C → List E) (n : ℕ) (parts : List C) → flat_map f (take n parts) ++ (flat_map f (drop n parts) ++ []) ≡ flat_map f parts
flat_map-halves f n parts = ap (λ ys. flat_map f (take n parts) ++ ys) (append-nil (flat_map f (drop n parts))) ∙ sym (flat_map-append f (take n parts) (drop n parts)) ∙ ap (flat_map f) (take-append-drop n parts)

module _ {C E : Type 0} (f : C → List E) (parts : List C) (i : ℕ) (x : C) (within : i < length parts) (read : x ≡ get_or parts i x) where
  pub drop-at : drop i parts ≡ x ∷ drop (i + 1) parts
  drop-at = drop_more parts i x within ∙ ap (λ y. y ∷ drop (i + 1) parts) (sym read)

  pub flat_map-cut : flat_map f parts ≡ flat_map f (take i parts) ++ flat_map f (drop i parts)
  flat_map-cut = sym (ap (flat_map f) (take-append-drop i parts)) ∙ flat_map-append f (take i parts) (drop i parts)

  -- the entries before the part x, those of x, and those behind it
  pub flat_map-at : flat_map f parts ≡ flat_map f (take i parts) ++ (f x ++ flat_map f (drop (i + 1) parts))
  flat_map-at = flat_map-cut ∙ ap (λ ys. flat_map f (take i parts) ++ flat_map f ys) drop-at

module _ {K V C : Type 0} {cmp : K → K → Ordering} (o : IsTotalOrder cmp) (f : C → List (K × V)) (parts : List C) (i : ℕ) (x : C) (within : i < length parts) (read : x ≡ get_or parts i x) (rising : IsRising cmp (flat_map f parts)) where
  pub IsRising-at : IsRising cmp (f x)
  IsRising-at = IsRising-left cmp _ _ (IsRising-right cmp _ _ (subst (IsRising cmp) (flat_map-at f parts i x within read) rising))

  module _ (k l : K) (least : least_key (f x) ≡ Some l) where
    -- the parts before one that does not begin above k are below k
    pub IsBelow-at : is_lt (cmp k l) ≡ false → IsBelow cmp (flat_map f (take i parts)) k
    IsBelow-at not_less = IsBelow-from_least o k _ _ l (subst (IsRising cmp) (flat_map-at f parts i x within read) rising) (least-append (f x) _ l least) not_less

    -- the parts from one on that begins above k are above k
    pub IsAbove-at : is_lt (cmp k l) ≡ true → IsAbove cmp (flat_map f (drop i parts)) k
    IsAbove-at less =
        let rest : IsRising cmp (f x ++ flat_map f (drop (i + 1) parts)) = IsRising-right cmp _ _ (subst (IsRising cmp) (flat_map-at f parts i x within read) rising) in
        rw (drop-at f parts i x within read) (IsAbove-from_least o k _ l rest (least-append (f x) _ l least) less)

module _ {K V C : Type 0} (cmp : K → K → Ordering) (f : C → List (K × V)) (parts : List C) (i : ℕ) (x : C) (within : i < length parts) (read : x ≡ get_or parts i x) (k : K) (below : IsBelow cmp (flat_map f (take i parts)) k) (above : IsAbove cmp (flat_map f (drop (i + 1) parts)) k) where
  pub value_at-at : value_at cmp (flat_map f parts) k ≡ value_at cmp (f x) k
  value_at-at = ap (λ es. value_at cmp es k) (flat_map-at f parts i x within read) ∙ value_at-middle cmp k _ (f x) _ below above

  pub entry_after-at : entry_after cmp (flat_map f parts) k ≡ option_or (entry_after cmp (f x) k) (slice_get (flat_map f (drop (i + 1) parts)) 0)
  entry_after-at = ap (λ es. entry_after cmp es k) (flat_map-at f parts i x within read) ∙ entry_after-middle cmp k _ (f x) _ below above

-- the part x is changed, and the others stay
pub changed-at : {K V C : Type 0} (cmp : K → K → Ordering) (f : C → List (K × V)) (parts : List C) (i : ℕ) (x : C) → i < length parts → x ≡ get_or parts i x → (c : Change K V)
    → IsBelow cmp (flat_map f (take i parts)) (change_key c) → IsAbove cmp (flat_map f (drop (i + 1) parts)) (change_key c)
    → changed cmp c (flat_map f parts) ≡ flat_map f (take i parts) ++ (changed cmp c (f x) ++ flat_map f (drop (i + 1) parts))
changed-at cmp f parts i x within read (Put e) below above =
    ap (λ es. insert_entry cmp es (arc_value e.now.key) (arc_value e.now.value)) (flat_map-at f parts i x within read)
    ∙ insert_entry-middle cmp (arc_value e.now.key) (arc_value e.now.value) _ (f x) _ below above
changed-at cmp f parts i x within read (Take k) below above =
    ap (λ es. without_key cmp es k.now) (flat_map-at f parts i x within read) ∙ without_key-middle cmp k.now _ (f x) _ below above
