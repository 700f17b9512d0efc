-- The strict order of keys, as a test.
use Rattle.std.proofs.Common.{◌≡◌, Bool, true, false, List, [], ◌∷◌, refl, ap, ◌∙◌}
use Rattle.std.proofs.lemmas.Bool.{and_from}
use Rattle.std.specs.List.{list_all}
use Rattle.std.specs.Cmp.{first_so, second_so, tied_itself}
use Rattle.std.specs.Ordering.{is_lt, is_eq, ordering_reverse}
use Rattle.std.specs.declared.cmp.Ordering.{Ordering}
use Rattle.std.specs.declared.cmp.Ordering.TheVariants.{Less, Equal, Greater}
use Rattle.rt_value.specs.declared.row.Key.{Key}
use Rattle.rt_value.specs.Order.{key_cmp, same_key}
use Rattle.rt_value.specs.TotalOrder.{key_total}

abbrev pub below : Key → Key → Bool
below k l = is_lt (key_cmp k l)

pub less_from : (o : Ordering) → is_lt o ≡ true → o ≡ Less
less_from Less h = refl
less_from Equal h = cc
less_from Greater h = cc

pub below_trans : (k l m : Key) → below k l ≡ true → below l m ≡ true → below k m ≡ true
below_trans k l m a b = ap is_lt (key_total.trans k l m (less_from _ a) (less_from _ b))

pub not_below_itself : (k : Key) → below k k ≡ false
not_below_itself k = ap is_lt (tied_itself key_total k)

pub below_by_greater : (k l : Key) → key_cmp k l ≡ Greater → below l k ≡ true
below_by_greater k l h = ap is_lt (key_total.antisymm l k ∙ ap ordering_reverse h)

pub below_apart : (k l : Key) → below k l ≡ true → same_key k l ≡ false
below_apart k l h = ap is_eq (less_from _ h)

pub above_apart : (k l : Key) → below k l ≡ true → same_key l k ≡ false
above_apart k l h = ap is_eq (key_total.antisymm l k ∙ ap ordering_reverse (less_from _ h))

pub not_below_back : (k l : Key) → below k l ≡ true → below l k ≡ false
not_below_back k l h = ap is_lt (key_total.antisymm l k ∙ ap ordering_reverse (less_from _ h))

-- what is above a key is above all keys below that
pub all_beyond : {X : Type 0} (key : X → Key) (k l : Key) (xs : List X) → below k l ≡ true → list_all (λ x. below l (key x)) xs ≡ true
    → list_all (λ x. below k (key x)) xs ≡ true
all_beyond key k l [] a h = refl
all_beyond key k l (x ∷ xs) a h =
    let head = first_so (below l (key x)) (list_all (λ x. below l (key x)) xs) h in
    let rest = second_so (below l (key x)) (list_all (λ x. below l (key x)) xs) h in
    and_from (below k (key x)) (list_all (λ x. below k (key x)) xs) (below_trans k l (key x) a head) (all_beyond key k l xs a rest)
