-- Rows after an edit: how many, and a row put over one with its key.
use Rattle.std.proofs.Common.{◌≡◌, ◌+◌, ◌≤◌, Bool, true, false, not, List, [], ◌∷◌, None, cond, filter, length, refl, ap, sym, ◌∙◌, arith}
use Rattle.std.specs.declared.cmp.Ordering.TheVariants.{Less, Equal, Greater}
use Rattle.std.specs.Ordering.{is_lt, ordering_reverse}
use Rattle.std.proofs.lemmas.List.{length-append}
use Rattle.rt_value.specs.declared.row.Key.{Key}
use Rattle.rt_value.specs.declared.row.Row.{Row}
use Rattle.rt_value.specs.declared.edit.Edit.{Edit}
use Rattle.rt_value.specs.declared.edit.Edit.TheVariants.{Put, Remove, Clear, Nothing}
use Rattle.rt_value.specs.Edits.{edited_rows, filled, is_gone, old_values, row_of, rows_unmoved}
use Rattle.rt_value.specs.Order.{key_cmp, same_key}
use Rattle.rt_value.specs.TotalOrder.{key_total}
use Rattle.rt_value.specs.Rows.{is_rising, row_at, rows_before, rows_behind, rows_with, rows_without, values_at}
use Rattle.rt_value.proofs.EditedRows.{all_unmoved, edited_rises, with_rises, with_at, others_with, others_without}
use Rattle.rt_value.proofs.SameRows.{same_rows}
use Rattle.rt_value.proofs.Ties.{same_equal}

-- a row that is put takes the place of one with its key
pub put_over : (row : Row) (rows : List Row) → is_rising rows ≡ true → rows_with row (rows_without row.key rows)
    ≡ rows_with row rows
put_over row rows h =
    same_rows (rows_with row (rows_without row.key rows)) (rows_with row rows)
    (with_rises row (rows_without row.key rows) (edited_rises (Remove row.key) rows h)) (with_rises row rows h)
    (λ q. by q (same_key q row.key) refl)
  where
    by : (q : Key) (b : Bool) → same_key q row.key ≡ b → row_at q (rows_with row (rows_without row.key rows))
        ≡ row_at q (rows_with row rows)
    by q true e =
        let same = same_equal q row.key e in
        ap (λ k. row_at k (rows_with row (rows_without row.key rows))) same ∙ with_at row (rows_without row.key rows)
        ∙ sym (with_at row rows) ∙ ap (λ k. row_at k (rows_with row rows)) (sym same)
    by q false e = others_with row q (rows_without row.key rows) e ∙ others_without row.key q rows e
        ∙ sym (others_with row q rows e)

fewer : (keep : Row → Bool) (rows : List Row) → length (filter keep rows) ≤ length rows
fewer keep [] = omega arith
fewer keep (x ∷ xs) = elim (keep x) as (λ b. length (cond b (x ∷ filter keep xs) (filter keep xs)) ≤ length (x ∷ xs)) [
  | true ↦ omega (arith, fewer keep xs)
  | false ↦ omega (arith, fewer keep xs)
]

-- no row is both before a key and behind it
parted : (k : Key) (rows : List Row) → length (rows_before k rows) + length (rows_behind k rows) ≤ length rows
parted k [] = omega arith
parted k (x ∷ xs) =
    rw (key_total.antisymm k x.key)
    (elim (key_cmp x.key k) as
    (λ r. length (cond (is_lt r) (x ∷ rows_before k xs) (rows_before k xs)) + length
    (cond (is_lt (ordering_reverse r)) (x ∷ rows_behind k xs) (rows_behind k xs)) ≤ length (x ∷ xs)) [
      | Less ↦ omega (arith, parted k xs)
      | Equal ↦ omega (arith, parted k xs)
      | Greater ↦ omega (arith, parted k xs)
    ])

with_len : (row : Row) (rows : List Row) → length (rows_with row rows) ≤ length rows + 1
with_len row rows =
    let len = length-append (rows_before row.key rows) (row ∷ rows_behind row.key rows) in
    let apart = parted row.key rows in
    rw len (omega (arith, apart))

-- an edit makes at most one row
pub edited_len : (edit : Edit) (rows : List Row) → length (edited_rows edit rows) ≤ length rows + 1
edited_len Clear rows = omega arith
edited_len (Remove key) rows = let left = fewer (λ row. not (same_key key row.key)) rows in omega (arith, left)
edited_len (Put old new cells) rows =
    let left = fewer (λ row. not (is_gone old row.key)) rows in
    let put = with_len (row_of new (filled cells (old_values old (λ key. values_at key rows))))
    (rows_unmoved old rows) in
    omega (arith, left, put)
edited_len Nothing rows = omega arith

-- where no row is moved
pub unmoved : (rows : List Row) → rows_unmoved None rows ≡ rows
unmoved rows = all_unmoved rows
