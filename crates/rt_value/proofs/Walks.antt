-- A walk over rows in the order of their keys passes each of them.
use Rattle.std.proofs.Common.{◌≡◌, Bool, true, false, cond, List, [], ◌∷◌, Option, Some, None, slice_get, filter, refl, ap, sym, ◌∙◌}
use Rattle.std.specs.List.{list_all}
use Rattle.std.specs.Cmp.{first_so, second_so}
use Rattle.rt_value.specs.declared.row.Key.{Key}
use Rattle.rt_value.specs.declared.row.Row.{Row}
use Rattle.rt_value.specs.Rows.{is_after, rows_behind, is_rising, rows_from}
use Rattle.rt_value.proofs.KeyOrder.{below_trans, not_below_itself}

false_by : (b : Bool) → (b ≡ true → false ≡ true) → b ≡ false
false_by true h = sym (h refl)
false_by false h = refl

-- a row in front that the walk has passed is not walked again
passed_at : (r x : Row) (xs : List Row) (b : Bool) → is_after r.key x ≡ b → b ≡ false → rows_from (Some r) (x ∷ xs) ≡ rows_from (Some r) xs
passed_at r x xs b e f = ap (λ b. r ∷ cond b (x ∷ rows_behind r.key xs) (rows_behind r.key xs)) (e ∙ f)

-- a test that every row behind one that passes it passes, too
module _ (f : Row → Bool) (upward : (x y : Row) → f x ≡ true → is_after x.key y ≡ true → f y ≡ true) where
  all_pass : (x : Row) (xs : List Row) → f x ≡ true → list_all (is_after x.key) xs ≡ true → filter f xs ≡ xs
  all_pass x [] here h = refl
  all_pass x (y ∷ xs) here h =
      ap (λ b. cond b (y ∷ filter f xs) (filter f xs)) (upward x y here (first_so (is_after x.key y) (list_all (is_after x.key) xs) h))
      ∙ ap (λ ys. y ∷ ys) (all_pass x xs here (second_so (is_after x.key y) (list_all (is_after x.key) xs) h))

  first_passes_at : (x : Row) (xs : List Row) (r : Row) (b : Bool) → f x ≡ b → slice_get (cond b (x ∷ filter f xs) (filter f xs)) 0 ≡ Some r → (slice_get (filter f xs) 0 ≡ Some r → f r ≡ true) → f r ≡ true
  first_passes_at x xs r true e h more = let same : x ≡ r = cc in ap f (sym same) ∙ e
  first_passes_at x xs r false e h more = more h

  pub first_passes : (rows : List Row) (r : Row) → slice_get (filter f rows) 0 ≡ Some r → f r ≡ true
  first_passes [] r h = absurd (cc)
  first_passes (x ∷ xs) r h = first_passes_at x xs r (f x) refl h (first_passes xs r)

  passed : (x : Row) (xs : List Row) (o : Option Row) → ((r : Row) → o ≡ Some r → f r ≡ true) → f x ≡ false → rows_from o (x ∷ xs) ≡ rows_from o xs
  passed x xs None p off = refl
  passed x xs (Some r) p off = passed_at r x xs (is_after r.key x) refl (false_by _ (λ h. sym off ∙ upward r x (p r refl) h))

-- what follows the front row stays behind it
after_front : (x : Row) (xs : List Row) → list_all (is_after x.key) xs ≡ true → rows_behind x.key xs ≡ xs
after_front x [] h = refl
after_front x (y ∷ xs) h =
    ap (λ b. cond b (y ∷ rows_behind x.key xs) (rows_behind x.key xs)) (first_so (is_after x.key y) (list_all (is_after x.key) xs) h)
    ∙ ap (λ ys. y ∷ ys) (after_front x xs (second_so (is_after x.key y) (list_all (is_after x.key) xs) h))

-- where the front row stays, the walk goes on behind it
from_front : (x : Row) (xs : List Row) → list_all (is_after x.key) xs ≡ true → rows_from (Some x) (x ∷ xs) ≡ x ∷ xs
from_front x xs h = ap (λ ys. x ∷ ys) (ap (λ b. cond b (x ∷ rows_behind x.key xs) (rows_behind x.key xs)) (not_below_itself x.key) ∙ after_front x xs h)

-- a walk from the first row walks over all rows
pub from_first : (rows : List Row) → is_rising rows ≡ true → rows_from (slice_get rows 0) rows ≡ rows
from_first [] h = refl
from_first (x ∷ xs) h = from_front x xs (first_so (list_all (is_after x.key) xs) (is_rising xs) h)

module _ (f : Row → Bool) (upward : (x y : Row) → f x ≡ true → is_after x.key y ≡ true → f y ≡ true) where
  from_passing_at : (x : Row) (xs : List Row) (b : Bool) → f x ≡ b → list_all (is_after x.key) xs ≡ true →
      filter f xs ≡ rows_from (slice_get (filter f xs) 0) xs →
      cond b (x ∷ filter f xs) (filter f xs) ≡ rows_from (slice_get (cond b (x ∷ filter f xs) (filter f xs)) 0) (x ∷ xs)
  from_passing_at x xs true e h more = ap (λ ys. x ∷ ys) (all_pass f upward x xs e h) ∙ sym (from_front x xs h)
  from_passing_at x xs false e h more = more ∙ sym (passed f upward x xs (slice_get (filter f xs) 0) (first_passes f upward xs) e)

  -- the rows that pass are a walk from the first of them
  pub from_passing : (rows : List Row) → is_rising rows ≡ true → filter f rows ≡ rows_from (slice_get (filter f rows) 0) rows
  from_passing [] h = refl
  from_passing (x ∷ xs) h =
      from_passing_at x xs (f x) refl (first_so (list_all (is_after x.key) xs) (is_rising xs) h)
      (from_passing xs (second_so (list_all (is_after x.key) xs) (is_rising xs) h))

-- and what is left behind a row is a walk from the next
pub from_next : (k : Key) (rows : List Row) → is_rising rows ≡ true → rows_behind k rows ≡ rows_from (slice_get (rows_behind k rows) 0) rows
from_next k rows h = from_passing (is_after k) (λ x y a b. below_trans k x.key y.key a b) rows h
