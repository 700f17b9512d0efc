-- The keys in order rise, and are those of the list.
use Rattle.std.proofs.Common.{◌≡◌, Bool, true, false, ◌&&◌, ◌||◌, List, [], ◌∷◌, refl, ap, sym, ◌∙◌}
use Rattle.std.specs.List.{list_all, list_any}
use Rattle.std.specs.Ordering.{is_lt}
use Rattle.std.specs.declared.cmp.Ordering.{Ordering}
use Rattle.std.specs.declared.cmp.Ordering.TheVariants.{Less, Equal, Greater}
use Rattle.std.proofs.lemmas.Bool.{and_from}
use Rattle.rt_value.proofs.Tests.{or_swap}
use Rattle.rt_value.specs.declared.row.Key.{Key}
use Rattle.rt_value.specs.Order.{key_cmp, same_key}
use Rattle.rt_value.specs.Ordered.{inserted_by, inserted, in_order}
use Rattle.rt_value.specs.TotalOrder.{key_total}
use Rattle.rt_value.proofs.InOrder as order
use Rattle.rt_value.proofs.Ties.{key_ties}
use Rattle.rt_value.proofs.KeyOrder.{below}

abbrev pub keys_rise : List Key → Bool
keys_rise [] = true
keys_rise (k ∷ ks) = list_all (below k) ks && keys_rise ks

abbrev pub has : Key → List Key → Bool
has key ks = list_any (same_key key) ks

all_below : (k : Key) (ks : List Key) → order.Above key_cmp key_total k ks → list_all (below k) ks ≡ true
all_below k [] a = refl
all_below k (l ∷ ks) a = and_from (below k l) (list_all (below k) ks) (ap is_lt a.0) (all_below k ks a.1)

rise_so : (ks : List Key) → order.Rises key_cmp key_total ks → keys_rise ks ≡ true
rise_so [] r = refl
rise_so (k ∷ ks) r = and_from (list_all (below k) ks) (keys_rise ks) (all_below k ks r.0) (rise_so ks r.1)

pub in_order_rises : (ks : List Key) → keys_rise (in_order key_cmp ks) ≡ true
in_order_rises ks = rise_so (in_order key_cmp ks) (order.in_order_rises key_cmp key_total ks)

or_again : (a b : Bool) → (a || b) ≡ (a || (a || b))
or_again true b = refl
or_again false b = refl

put_has : (key k l : Key) (ls more : List Key) (o : Ordering) → key_cmp k l ≡ o → has key more ≡ (same_key key k || has key ls)
    → has key (inserted_by key_cmp o k l ls more) ≡ (same_key key k || has key (l ∷ ls))
put_has key k l ls more Less e m = refl
put_has key k l ls more Equal e m =
    or_again (same_key key l) (has key ls) ∙ ap (λ j. same_key key j || (same_key key l || has key ls)) (sym (key_ties k l e))
put_has key k l ls more Greater e m = ap (λ b. same_key key l || b) m ∙ or_swap (same_key key l) (same_key key k) (has key ls)

inserted_has : (key k : Key) (ls : List Key) → has key (inserted key_cmp k ls) ≡ (same_key key k || has key ls)
inserted_has key k [] = refl
inserted_has key k (l ∷ ls) = put_has key k l ls (inserted key_cmp k ls) (key_cmp k l) refl (inserted_has key k ls)

pub in_order_has : (key : Key) (ks : List Key) → has key (in_order key_cmp ks) ≡ has key ks
in_order_has key [] = refl
in_order_has key (k ∷ ks) = inserted_has key k (in_order key_cmp ks) ∙ ap (λ b. same_key key k || b) (in_order_has key ks)
