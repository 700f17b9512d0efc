-- An edit of rows in the order of their keys leaves at each key what it says, and the rows in that order.
use Rattle.std.proofs.Common.{◌≡◌, Bool, true, false, not, cond, List, [], ◌∷◌, ◌++◌, Option, Some, None, option_map, filter, refl, ap, sym, ◌∙◌}
use Rattle.std.specs.List.{list_all}
use Rattle.std.specs.Cmp.{first_so, second_so}
use Rattle.std.specs.Ordering.{is_lt}
use Rattle.std.specs.declared.cmp.Ordering.{Ordering}
use Rattle.std.specs.declared.cmp.Ordering.TheVariants.{Less, Equal, Greater}
use Rattle.std.specs.Option.{option_or}
use Rattle.std.proofs.lemmas.Bool.{and_from}
use Rattle.rt_value.specs.declared.value.Value.{Value}
use Rattle.rt_value.specs.declared.row.Key.{Key}
use Rattle.rt_value.specs.declared.row.Row.{Row}
use Rattle.rt_value.specs.declared.edit.Edit.{Edit}
use Rattle.rt_value.specs.declared.edit.Edit.TheVariants.{Put, Remove, Clear, Nothing}
use Rattle.rt_value.specs.Choice.{is_at}
use Rattle.rt_value.specs.Order.{key_cmp, same_key}
use Rattle.rt_value.specs.Rows.{is_after, rows_behind, is_rising, row_at, values_at, rows_without, rows_before, rows_with}
use Rattle.rt_value.specs.Edits.{filled, old_values, left_at, row_of, is_gone, rows_unmoved, edited_rows}
use Rattle.rt_value.proofs.Ties.{key_ties, same_equal, same_from}
use Rattle.rt_value.proofs.KeyOrder.{below, not_below_itself, not_below_back, below_by_greater, all_beyond}
use Rattle.rt_value.proofs.SameRows.{at_front, behind_front}

-- ---- filters of rows

all_kept : (test keep : Row → Bool) (rows : List Row) → list_all test rows ≡ true → list_all test (filter keep rows) ≡ true
all_kept test keep [] h = refl
all_kept test keep (x ∷ xs) h = by (keep x) (all_kept test keep xs (second_so (test x) (list_all test xs) h))
  where
    by : (b : Bool) → list_all test (filter keep xs) ≡ true → list_all test (cond b (x ∷ filter keep xs) (filter keep xs)) ≡ true
    by true m = and_from (test x) (list_all test (filter keep xs)) (first_so (test x) (list_all test xs) h) m
    by false m = m

filter_rises : (keep : Row → Bool) (rows : List Row) → is_rising rows ≡ true → is_rising (filter keep rows) ≡ true
filter_rises keep [] h = refl
filter_rises keep (x ∷ xs) h = by (keep x) (filter_rises keep xs (second_so (list_all (is_after x.key) xs) (is_rising xs) h))
  where
    by : (b : Bool) → is_rising (filter keep xs) ≡ true → is_rising (cond b (x ∷ filter keep xs) (filter keep xs)) ≡ true
    by true m =
        and_from (list_all (is_after x.key) (filter keep xs)) (is_rising (filter keep xs))
        (all_kept (is_after x.key) keep xs (first_so (list_all (is_after x.key) xs) (is_rising xs) h)) m
    by false m = m

-- a filter that keeps the rows of a key keeps what stands there
kept_at : (keep : Row → Bool) (key : Key) (rows : List Row) → ((row : Row) → same_key key row.key ≡ true → keep row ≡ true) → row_at key (filter keep rows) ≡ row_at key rows
kept_at keep key [] keeps = refl
kept_at keep key (x ∷ xs) keeps = by (keep x) (same_key key x.key) refl refl (kept_at keep key xs keeps)
  where
    by : (b s : Bool) → keep x ≡ b → same_key key x.key ≡ s → row_at key (filter keep xs) ≡ row_at key xs
        → row_at key (cond b (x ∷ filter keep xs) (filter keep xs)) ≡ cond s (Some x) (row_at key xs)
    by true s e f m = ap (λ b. cond b (Some x) (row_at key (filter keep xs))) f ∙ ap (λ o. cond s (Some x) o) m
    by false true e f m = let w : false ≡ true = sym e ∙ keeps x f in absurd (cc)
    by false false e f m = m

-- and one that keeps none of them leaves none
dropped_at : (keep : Row → Bool) (key : Key) (rows : List Row) → ((row : Row) → same_key key row.key ≡ true → keep row ≡ false) → row_at key (filter keep rows) ≡ None
dropped_at keep key [] drops = refl
dropped_at keep key (x ∷ xs) drops = by (keep x) (same_key key x.key) refl refl (dropped_at keep key xs drops)
  where
    by : (b s : Bool) → keep x ≡ b → same_key key x.key ≡ s → row_at key (filter keep xs) ≡ None → row_at key (cond b (x ∷ filter keep xs) (filter keep xs)) ≡ None
    by true true e f m = let w : true ≡ false = sym e ∙ drops x f in absurd (cc)
    by true false e f m = behind_front key x (filter keep xs) f ∙ m
    by false s e f m = m

append_at : (key : Key) (xs ys : List Row) → row_at key (xs ++ ys) ≡ option_or (row_at key xs) (row_at key ys)
append_at key [] ys = refl
append_at key (x ∷ xs) ys = by (same_key key x.key) (append_at key xs ys)
  where
    by : (b : Bool) → row_at key (xs ++ ys) ≡ option_or (row_at key xs) (row_at key ys) → cond b (Some x) (row_at key (xs ++ ys)) ≡ option_or (cond b (Some x) (row_at key xs)) (row_at key ys)
    by true m = refl
    by false m = m

-- ---- a removal

pub without_at : (gone : Key) (rows : List Row) → row_at gone (rows_without gone rows) ≡ None
without_at gone rows = dropped_at (λ row. not (same_key gone row.key)) gone rows (λ row e. ap not e)

apart_back : (k l : Key) → same_key k l ≡ false → same_key l k ≡ false
apart_back k l apart = by (same_key l k) refl
  where
    by : (b : Bool) → same_key l k ≡ b → b ≡ false
    by true h = sym (same_from k l (sym (same_equal l k h))) ∙ apart
    by false h = refl

pub others_without : (gone key : Key) (rows : List Row) → same_key key gone ≡ false → row_at key (rows_without gone rows) ≡ row_at key rows
others_without gone key rows apart =
    kept_at (λ row. not (same_key gone row.key)) key rows
    (λ row e. ap not (ap (same_key gone) (sym (same_equal key row.key e)) ∙ apart_back key gone apart))

-- ---- a row in its place

all_filtered : (keep : Row → Bool) (rows : List Row) → list_all keep (filter keep rows) ≡ true
all_filtered keep [] = refl
all_filtered keep (x ∷ xs) = by (keep x) refl (all_filtered keep xs)
  where
    by : (b : Bool) → keep x ≡ b → list_all keep (filter keep xs) ≡ true → list_all keep (cond b (x ∷ filter keep xs) (filter keep xs)) ≡ true
    by true e m = and_from (keep x) (list_all keep (filter keep xs)) e m
    by false e m = m

all_append : (test : Row → Bool) (xs ys : List Row) → list_all test xs ≡ true → list_all test ys ≡ true → list_all test (xs ++ ys) ≡ true
all_append test [] ys h g = g
all_append test (x ∷ xs) ys h g =
    and_from (test x) (list_all test (xs ++ ys)) (first_so (test x) (list_all test xs) h) (all_append test xs ys (second_so (test x) (list_all test xs) h) g)

append_rises : (xs ys : List Row) (y : Row) → is_rising xs ≡ true → is_rising (y ∷ ys) ≡ true → list_all (λ x. below x.key y.key) xs ≡ true → is_rising (xs ++ y ∷ ys) ≡ true
append_rises [] ys y rx ry h = ry
append_rises (x ∷ xs) ys y rx ry h =
    let less = first_so (below x.key y.key) (list_all (λ x. below x.key y.key) xs) h in
    let rest = second_so (below x.key y.key) (list_all (λ x. below x.key y.key) xs) h in
    let behind = all_beyond (λ (r : Row). r.key) x.key y.key ys less (first_so (list_all (is_after y.key) ys) (is_rising ys) ry) in
    let after = and_from (below x.key y.key) (list_all (is_after x.key) ys) less behind in
    and_from (list_all (is_after x.key) (xs ++ y ∷ ys)) (is_rising (xs ++ y ∷ ys))
    (all_append (is_after x.key) xs (y ∷ ys) (first_so (list_all (is_after x.key) xs) (is_rising xs) rx) after)
    (append_rises xs ys y (second_so (list_all (is_after x.key) xs) (is_rising xs) rx) ry rest)

pub with_rises : (row : Row) (rows : List Row) → is_rising rows ≡ true → is_rising (rows_with row rows) ≡ true
with_rises row rows h =
    append_rises (rows_before row.key rows) (rows_behind row.key rows) row (filter_rises (λ r. below r.key row.key) rows h)
    (and_from (list_all (is_after row.key) (rows_behind row.key rows)) (is_rising (rows_behind row.key rows))
    (all_filtered (is_after row.key) rows) (filter_rises (is_after row.key) rows h))
    (all_filtered (λ r. below r.key row.key) rows)

at_equal : (test : Key → Bool) (key : Key) (b : Bool) → test key ≡ b → (row : Row) → same_key key row.key ≡ true → test row.key ≡ b
at_equal test key b h row e = ap test (sym (same_equal key row.key e)) ∙ h

none_or : (o p : Option Row) → o ≡ None → option_or o p ≡ p
none_or o p e = ap (λ o. option_or o p) e

or_none : (o p : Option Row) → p ≡ None → option_or o p ≡ o
or_none None p e = e
or_none (Some x) p e = refl

pub with_at : (row : Row) (rows : List Row) → row_at row.key (rows_with row rows) ≡ Some row
with_at row rows =
    append_at row.key (rows_before row.key rows) (row ∷ rows_behind row.key rows)
    ∙ none_or _ _ (dropped_at (λ r. below r.key row.key) row.key rows (at_equal (λ k. below k row.key) row.key false (not_below_itself row.key)))
    ∙ at_front row (rows_behind row.key rows)

pub others_with : (row : Row) (key : Key) (rows : List Row) → same_key key row.key ≡ false → row_at key (rows_with row rows) ≡ row_at key rows
others_with row key rows apart =
    append_at key (rows_before row.key rows) (row ∷ rows_behind row.key rows)
    ∙ ap (λ o. option_or (row_at key (rows_before row.key rows)) o) (behind_front key row (rows_behind row.key rows) apart)
    ∙ by (key_cmp key row.key) refl
  where
    by : (o : Ordering) → key_cmp key row.key ≡ o → option_or (row_at key (rows_before row.key rows)) (row_at key (rows_behind row.key rows)) ≡ row_at key rows
    by Less e =
        let less : below key row.key ≡ true = ap is_lt e in
        or_none _ _ (dropped_at (is_after row.key) key rows (at_equal (below row.key) key false (not_below_back key row.key less)))
        ∙ kept_at (λ r. below r.key row.key) key rows (at_equal (λ k. below k row.key) key true less)
    by Greater e =
        let less = below_by_greater key row.key e in
        none_or _ _ (dropped_at (λ r. below r.key row.key) key rows (at_equal (λ k. below k row.key) key false (not_below_back row.key key less)))
        ∙ kept_at (is_after row.key) key rows (at_equal (below row.key) key true less)
    by Equal e = let w : true ≡ false = sym (same_from key row.key (key_ties key row.key e)) ∙ apart in absurd (cc)

-- ---- an edit

found_key : (key : Key) (rows : List Row) (row : Row) → row_at key rows ≡ Some row → key ≡ row.key
found_key key [] row h = absurd (cc)
found_key key (x ∷ xs) row h = by (same_key key x.key) refl h (found_key key xs row)
  where
    by : (b : Bool) → same_key key x.key ≡ b → cond b (Some x) (row_at key xs) ≡ Some row → (row_at key xs ≡ Some row → key ≡ row.key) → key ≡ row.key
    by true e g more = let same : x ≡ row = cc in same_equal key x.key e ∙ ap (λ (r : Row). r.key) same
    by false e g more = more g

-- a row is its key and its values
values_back : (key : Key) (rows : List Row) → row_at key rows ≡ option_map (row_of key) (values_at key rows)
values_back key rows = by (row_at key rows) (found_key key rows)
  where
    by : (o : Option Row) → ((row : Row) → o ≡ Some row → key ≡ row.key) → o ≡ option_map (row_of key) (option_map (λ r. r.values) o)
    by None h = refl
    by (Some row) h = ap (λ k. Some (row_of k row.values)) (sym (h row refl))

pub edited_rises : (edit : Edit) (rows : List Row) → is_rising rows ≡ true → is_rising (edited_rows edit rows) ≡ true
edited_rises Clear rows h = refl
edited_rises (Remove key) rows h = filter_rises (λ row. not (same_key key row.key)) rows h
edited_rises (Put old new cells) rows h =
    with_rises (row_of new (filled cells (old_values old (λ j. values_at j rows)))) (rows_unmoved old rows)
    (filter_rises (λ row. not (is_gone old row.key)) rows h)
edited_rises Nothing rows h = h

removed_at : (gone key : Key) (rows : List Row) (b : Bool) → same_key key gone ≡ b
    → row_at key (rows_without gone rows) ≡ option_map (row_of key) (elim b as (λ _. Option (List Value)) [ true ↦ None | false ↦ values_at key rows ])
removed_at gone key rows true e = ap (λ k. row_at k (rows_without gone rows)) (same_equal key gone e) ∙ without_at gone rows
removed_at gone key rows false e = others_without gone key rows e ∙ values_back key rows

pub all_unmoved : (rows : List Row) → rows_unmoved None rows ≡ rows
all_unmoved [] = refl
all_unmoved (x ∷ xs) = ap (λ ys. x ∷ ys) (all_unmoved xs)

unmoved_at : (old : Option Key) (key : Key) (rows : List Row)
    → row_at key (rows_unmoved old rows) ≡ option_map (row_of key) (elim (is_at (same_key key) old) as (λ _. Option (List Value)) [ true ↦ None | false ↦ values_at key rows ])
unmoved_at None key rows = ap (row_at key) (all_unmoved rows) ∙ values_back key rows
unmoved_at (Some old) key rows = removed_at old key rows (same_key key old) refl

put_at : (old : Option Key) (new key : Key) (vs : List Value) (rows : List Row) (b : Bool) → same_key key new ≡ b
    → row_at key (rows_with (row_of new vs) (rows_unmoved old rows))
    ≡ option_map (row_of key) (elim b as (λ _. Option (List Value)) [
      | true ↦ Some vs
      | false ↦ elim (is_at (same_key key) old) as (λ _. Option (List Value)) [ true ↦ None | false ↦ values_at key rows ]
    ])
put_at old new key vs rows true e =
    let same = same_equal key new e in
    ap (λ k. row_at k (rows_with (row_of new vs) (rows_unmoved old rows))) same ∙ with_at (row_of new vs) (rows_unmoved old rows)
    ∙ ap (λ k. Some (row_of k vs)) (sym same)
put_at old new key vs rows false e = others_with (row_of new vs) key (rows_unmoved old rows) e ∙ unmoved_at old key rows

pub edited_at : (edit : Edit) (key : Key) (rows : List Row) → row_at key (edited_rows edit rows) ≡ option_map (row_of key) (left_at edit key (λ j. values_at j rows))
edited_at Clear key rows = refl
edited_at (Remove gone) key rows = removed_at gone key rows (same_key key gone) refl
edited_at (Put old new cells) key rows = put_at old new key (filled cells (old_values old (λ j. values_at j rows))) rows (same_key key new) refl
edited_at Nothing key rows = values_back key rows
