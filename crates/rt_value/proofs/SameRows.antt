-- Two lists of rows in the order of their keys with the same row at each key are one.
use Rattle.std.proofs.Common.{◌≡◌, Bool, true, false, cond, List, [], ◌∷◌, Some, None, refl, ap, sym, ◌∙◌}
use Rattle.std.specs.List.{list_all}
use Rattle.std.specs.Cmp.{first_so, second_so}
use Rattle.std.specs.Ordering.{is_lt}
use Rattle.std.specs.declared.cmp.Ordering.{Ordering}
use Rattle.std.specs.declared.cmp.Ordering.TheVariants.{Less, Equal, Greater}
use Rattle.std.proofs.lemmas.Bool.{and_from}
use Rattle.rt_value.specs.declared.row.Key.{Key}
use Rattle.rt_value.specs.declared.row.Row.{Row}
use Rattle.rt_value.specs.Order.{key_cmp, same_key}
use Rattle.rt_value.specs.Rows.{is_after, is_rising, row_at}
use Rattle.rt_value.proofs.Ties.{key_ties, same_itself, same_equal}
use Rattle.rt_value.proofs.KeyOrder.{below, below_apart, below_by_greater, all_beyond}

pub at_front : (x : Row) (xs : List Row) → row_at x.key (x ∷ xs) ≡ Some x
at_front x xs = ap (λ b. cond b (Some x) (row_at x.key xs)) (same_itself x.key)

pub behind_front : (key : Key) (x : Row) (xs : List Row) → same_key key x.key ≡ false → row_at key (x ∷ xs) ≡ row_at key xs
behind_front key x xs e = ap (λ b. cond b (Some x) (row_at key xs)) e

-- no row stands at a key below all
pub none_below : (key : Key) (xs : List Row) → list_all (is_after key) xs ≡ true → row_at key xs ≡ None
none_below key [] h = refl
none_below key (x ∷ xs) h =
    behind_front key x xs (below_apart key x.key (first_so (is_after key x) (list_all (is_after key) xs) h))
    ∙ none_below key xs (second_so (is_after key x) (list_all (is_after key) xs) h)

-- a front row below another list's is in that list at no place
only_here : (x y : Row) (xs ys : List Row) → below x.key y.key ≡ true → is_rising (y ∷ ys) ≡ true → row_at x.key (x ∷ xs) ≡ row_at x.key (y ∷ ys) → ⊥
only_here x y xs ys less rises same =
    let behind = all_beyond (λ (r : Row). r.key) x.key y.key ys less (first_so (list_all (is_after y.key) ys) (is_rising ys) rises) in
    let none = none_below x.key (y ∷ ys) (and_from (below x.key y.key) (list_all (is_after x.key) ys) less behind) in
    let w : Some x ≡ None = sym (at_front x xs) ∙ same ∙ none in
    absurd (cc)

rest_at : (x y : Row) (xs ys : List Row) → is_rising (x ∷ xs) ≡ true → is_rising (y ∷ ys) ≡ true → x.key ≡ y.key → ((key : Key) → row_at key (x ∷ xs) ≡ row_at key (y ∷ ys))
    → (key : Key) (b : Bool) → same_key key x.key ≡ b → row_at key xs ≡ row_at key ys
rest_at x y xs ys rx ry k same key true e =
    let here = same_equal key x.key e in
    let left = none_below x.key xs (first_so (list_all (is_after x.key) xs) (is_rising xs) rx) in
    let right = none_below y.key ys (first_so (list_all (is_after y.key) ys) (is_rising ys) ry) in
    ap (λ j. row_at j xs) here ∙ left ∙ sym right ∙ sym (ap (λ j. row_at j ys) (here ∙ k))
rest_at x y xs ys rx ry k same key false e =
    sym (behind_front key x xs e) ∙ same key ∙ behind_front key y ys (ap (same_key key) (sym k) ∙ e)

same_front : (x y : Row) (xs ys : List Row) → x.key ≡ y.key → row_at x.key (x ∷ xs) ≡ row_at x.key (y ∷ ys) → x ≡ y
same_front x y xs ys k same =
    let w : Some x ≡ Some y = sym (at_front x xs) ∙ same ∙ ap (λ j. row_at j (y ∷ ys)) k ∙ at_front y ys in cc

pub same_rows : (xs ys : List Row) → is_rising xs ≡ true → is_rising ys ≡ true → ((key : Key) → row_at key xs ≡ row_at key ys) → xs ≡ ys
same_rows [] [] rx ry same = refl
same_rows [] (y ∷ ys) rx ry same = let w : None ≡ Some y = same y.key ∙ at_front y ys in absurd (cc)
same_rows (x ∷ xs) [] rx ry same = let w : Some x ≡ None = sym (at_front x xs) ∙ same x.key in absurd (cc)
same_rows (x ∷ xs) (y ∷ ys) rx ry same =
    by (key_cmp x.key y.key) refl (same_rows xs ys (second_so (list_all (is_after x.key) xs) (is_rising xs) rx) (second_so (list_all (is_after y.key) ys) (is_rising ys) ry))
  where
    by : (o : Ordering) → key_cmp x.key y.key ≡ o → (((key : Key) → row_at key xs ≡ row_at key ys) → xs ≡ ys) → x ∷ xs ≡ y ∷ ys
    by Less e more = absurd (only_here x y xs ys (ap is_lt e) ry (same x.key))
    by Greater e more = absurd (only_here y x ys xs (below_by_greater x.key y.key e) rx (sym (same y.key)))
    by Equal e more =
        let k = key_ties x.key y.key e in
        let fronts = same_front x y xs ys k (same x.key) in
        let rests = more (λ key. rest_at x y xs ys rx ry k same key (same_key key x.key) refl) in
        cc
