-- A table's rows, read and changed in its entries.
use Rattle.std.proofs.Common.{◌≡◌, Bool, true, false, List, [], ◌∷◌, Some, None, cond, slice_get, option_map, if◌then◌else◌, refl, ap, sym, subst, ◌∙◌}
use Rattle.std.specs.declared.cmp.Ordering.{Ordering}
use Rattle.std.specs.declared.cmp.Ordering.TheVariants.{Less, Equal, Greater}
use Rattle.std.specs.BTreeMap.{insert_entry, is_at}
use Rattle.std.specs.List.{AllByRecursion, list_all}
use Rattle.std.specs.List.Sorted.{IsStrictlySortedBy}
use Rattle.std.specs.Map.{keys_of}
use Rattle.std.specs.Ordering.{is_eq, is_le, is_lt, match_ordering}
use Rattle.std.proofs.lemmas.Cmp.{eq_by_cmp_equiv}
use Rattle.rt_ptree.specs.Entries.{IsRising, value_at, entry_after, without_key}
use Rattle.rt_ptree.specs.Walk.{entries_from}
use Rattle.rt_ptree.proofs.Order.{IsRising-insert, IsRising-without}
use Rattle.rt_ptree.proofs.Updates.{Updates-insert, Updates-without}
use Rattle.rt_value.specs.declared.row.Key.{Key}
use Rattle.rt_value.specs.declared.row.Row.{Row}
use Rattle.rt_value.specs.declared.edit.Edit.TheVariants.{Remove}
use Rattle.rt_value.specs.Order.{key_cmp, same_key}
use Rattle.rt_value.specs.TotalOrder.{key_total}
use Rattle.rt_value.specs.Prefix.{rows_onward}
use Rattle.rt_value.specs.Rows.{is_after, is_rising, row_at, rows_behind, rows_with, rows_without}
use Rattle.rt_value.proofs.EditedRows.{edited_rises, with_rises, with_at, others_with, without_at, others_without}
use Rattle.rt_value.proofs.SameRows.{same_rows}
use Rattle.rt_value.proofs.Ties.{same_equal}
use Rattle.rt_replica.specs.Keyed.{rows_of, IsKeyed}

abbrev AllKeyed : List (Key × Row) → Type 0
AllKeyed es = AllByRecursion (λ e. e.0 ≡ e.1.key) es

pub row_at-rows : (q : Key) (es : List (Key × Row)) → AllKeyed es → row_at q (rows_of es) ≡ value_at key_cmp es q
row_at-rows q [] h = refl
row_at-rows q (e ∷ es) h =
    ap (λ k. cond (same_key q k) (Some e.1) (row_at q (rows_of es))) (sym h.0)
    ∙ ap (λ o. cond (same_key q e.0) (Some e.1) o) (row_at-rows q es h.1)

pub first-rows : (es : List (Key × Row)) → slice_get (rows_of es) 0 ≡ option_map (λ e. e.1) (slice_get es 0)
first-rows [] = refl
first-rows (e ∷ es) = refl

pub behind-rows : (q : Key) (es : List (Key × Row)) → AllKeyed es → slice_get (rows_behind q (rows_of es)) 0
    ≡ option_map (λ e. e.1) (entry_after key_cmp es q)
behind-rows q [] h = refl
behind-rows q (e ∷ es) h =
    ap (λ k. slice_get (cond (is_lt (key_cmp q k)) (e.1 ∷ rows_behind q (rows_of es)) (rows_behind q (rows_of es))) 0) (sym h.0)
    ∙ by (is_lt (key_cmp q e.0)) (behind-rows q es h.1)
  where
    by : (b : Bool) → slice_get (rows_behind q (rows_of es)) 0 ≡ option_map (λ e. e.1) (entry_after key_cmp es q)
        → slice_get (cond b (e.1 ∷ rows_behind q (rows_of es)) (rows_behind q (rows_of es))) 0 ≡ option_map
        (λ e. e.1) (cond b (Some e) (entry_after key_cmp es q))
    by true more = refl
    by false more = more

onward_at : (q : Key) (e : Key × Row) (es : List (Key × Row)) (b : Bool) → rows_onward q (rows_of es) ≡ rows_of (entries_from key_cmp es q)
    → cond b (e.1 ∷ rows_onward q (rows_of es)) (rows_onward q (rows_of es)) ≡ rows_of (cond b (e ∷ entries_from key_cmp es q) (entries_from key_cmp es q))
onward_at q e es true more = ap (λ rows. e.1 ∷ rows) more
onward_at q e es false more = more

-- the rows with no lesser key than q, of the entries with none
pub onward-rows : (q : Key) (es : List (Key × Row)) → AllKeyed es → rows_onward q (rows_of es) ≡ rows_of (entries_from key_cmp es q)
onward-rows q [] h = refl
onward-rows q (e ∷ es) h =
    ap (λ k. cond (is_le (key_cmp q k)) (e.1 ∷ rows_onward q (rows_of es)) (rows_onward q (rows_of es))) (sym h.0)
    ∙ onward_at q e es (is_le (key_cmp q e.0)) (onward-rows q es h.1)

all_after : (k : Key) (es : List (Key × Row)) → AllKeyed es → AllByRecursion (λ y. key_cmp k y ≡ Less) (keys_of es)
    → list_all (is_after k) (rows_of es) ≡ true
all_after k [] h above = refl
all_after k (e ∷ es) h above = rw (ap (λ j. is_lt (key_cmp k j)) (sym h.0) ∙ ap is_lt above.0)
    (all_after k es h.1 above.1)

pub rising-rows : (es : List (Key × Row)) → AllKeyed es → IsRising key_cmp es → is_rising (rows_of es) ≡ true
unfolding IsStrictlySortedBy
rising-rows [] h rising = refl
rising-rows (e ∷ es) h rising =
    let behind = all_after e.1.key es h.1
    (subst (λ j. AllByRecursion (λ y. key_cmp j y ≡ Less) (keys_of es)) h.0 rising.0) in
    rw behind (rising-rows es h.1 rising.1)

keyed-insert : (k : Key) (row : Row) (es : List (Key × Row)) → k ≡ row.key → AllKeyed es
    → AllKeyed (insert_entry key_cmp es k row)
keyed-insert k row [] same h = (same, tt)
keyed-insert k row (e ∷ es) same h = by (key_cmp k e.0) refl (keyed-insert k row es same h.1)
  where
    by : (r : Ordering) → key_cmp k e.0 ≡ r → AllKeyed (insert_entry key_cmp es k row)
        → AllKeyed (match_ordering r ((k, row) ∷ e ∷ es) ((e.0, row) ∷ es) (e ∷ insert_entry key_cmp es k row))
    by Less is more = (same, h)
    by Equal is more = (sym (same_equal k e.0 (ap is_eq is)) ∙ same, h.1)
    by Greater is more = (h.0, more)

keyed-without : (k : Key) (es : List (Key × Row)) → AllKeyed es → AllKeyed (without_key key_cmp es k)
keyed-without k [] h = tt
keyed-without k (e ∷ es) h = elim (key_cmp k e.0) as
    (λ r. AllKeyed (if is_eq r then es else e ∷ without_key key_cmp es k)) [
      | Less ↦ (h.0, keyed-without k es h.1)
      | Equal ↦ h.1
      | Greater ↦ (h.0, keyed-without k es h.1)
    ]

pub IsKeyed-insert : (row : Row) (es : List (Key × Row)) → IsKeyed es → IsKeyed (insert_entry key_cmp es row.key row)
IsKeyed-insert row es h =
    record {
      keyed = keyed-insert row.key row es refl h.keyed;
      rising =
          IsRising-insert key_total row.key row es h.rising;
    }

pub IsKeyed-without : (k : Key) (es : List (Key × Row)) → IsKeyed es → IsKeyed (without_key key_cmp es k)
IsKeyed-without k es h = record { keyed = keyed-without k es h.keyed; rising = IsRising-without key_cmp k es h.rising }

-- the order in which two keys are compared makes no difference
flip : (k l : Key) → same_key k l ≡ same_key l k
flip k l = (eq_by_cmp_equiv key_total).symm k l

pub rows-insert : (row : Row) (es : List (Key × Row)) → IsKeyed es → rows_of (insert_entry key_cmp es row.key row)
    ≡ rows_with row (rows_of es)
rows-insert row es h =
    let put = IsKeyed-insert row es h in
    same_rows (rows_of (insert_entry key_cmp es row.key row)) (rows_with row (rows_of es))
    (rising-rows (insert_entry key_cmp es row.key row) put.keyed put.rising)
    (with_rises row (rows_of es) (rising-rows es h.keyed h.rising))
    (λ q. row_at-rows q (insert_entry key_cmp es row.key row) put.keyed ∙
    (Updates-insert key_total row.key row es q ∙ by q (is_at (key_cmp row.key) q) refl))
  where
    by : (q : Key) (b : Bool) → same_key row.key q ≡ b → (if b then Some row else value_at key_cmp es q)
        ≡ row_at q (rows_with row (rows_of es))
    by q true e = sym (with_at row (rows_of es))
        ∙ ap (λ k. row_at k (rows_with row (rows_of es))) (same_equal row.key q e)
    by q false e = sym (row_at-rows q es h.keyed) ∙ sym (others_with row q (rows_of es) (flip q row.key ∙ e))

pub rows-without : (k : Key) (es : List (Key × Row)) → IsKeyed es → rows_of (without_key key_cmp es k)
    ≡ rows_without k (rows_of es)
rows-without k es h =
    let left = IsKeyed-without k es h in
    same_rows (rows_of (without_key key_cmp es k)) (rows_without k (rows_of es))
    (rising-rows (without_key key_cmp es k) left.keyed left.rising)
    (edited_rises (Remove k) (rows_of es) (rising-rows es h.keyed h.rising))
    (λ q. row_at-rows q (without_key key_cmp es k) left.keyed ∙
    (Updates-without key_total k es h.rising q ∙ by q (is_at (key_cmp k) q) refl))
  where
    by : (q : Key) (b : Bool) → same_key k q ≡ b → (if b then None else value_at key_cmp es q)
        ≡ row_at q (rows_without k (rows_of es))
    by q true e = sym (without_at k (rows_of es)) ∙ ap (λ j. row_at j (rows_without k (rows_of es))) (same_equal k q e)
    by q false e = sym (row_at-rows q es h.keyed) ∙ sym (others_without k q (rows_of es) (flip q k ∙ e))
