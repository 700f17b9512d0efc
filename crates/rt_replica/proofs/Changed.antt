-- Tables of which one is changed, as lists that are written to.
use Rattle.std.proofs.Common.{◌≡◌, ◌≢◌, ℕ, zero, suc, ◌+◌, ◌<◌, true, List, [], ◌∷◌, ◌++◌, length, map, get_or, slice_set, refl, ap, subst, ◌∙◌, arith, replicate}
use Rattle.std.specs.List.{list_all, range_with_len}
use Rattle.std.specs.Cmp.{first_so, second_so}
use Rattle.rt_value.specs.declared.edit.Edit.{Edit}
use Rattle.rt_value.specs.declared.row.Row.{Row}
use Rattle.rt_value.specs.Edits.{TableEdit, edited_rows, tables_after}
use Rattle.rt_value.specs.Rows.{is_rising}
use Rattle.rt_value.proofs.TablesAfter.{edited_table, other_table}
use Rattle.std.proofs.lemmas.List.Sums.{sum_by-set}
use Rattle.std.proofs.lemmas.List.{replicate_more}
use Rattle.std.proofs.lemmas.List.Folds.{sum_by-replicate}
use Rattle.rt_replica.specs.Changed.{changed_at, count_rows, IsCounted}

module _ {A : Type 0} (f : A → A) where
  pub changed-set : (n : ℕ) (xs : List A) (x : A) → n < length xs → x ≡ get_or xs n x → slice_set xs n (f x)
      ≡ changed_at n f xs
  changed-set n [] x within read = refl
  changed-set zero (y ∷ xs) x within read = ap (λ z. f z ∷ xs) read
  changed-set (suc n) (y ∷ xs) x within read = ap (λ ys. y ∷ ys) (changed-set n xs x (omega (arith, within)) read)

  pub changed-past : (n : ℕ) (xs : List A) → (n < length xs → ⊥) → changed_at n f xs ≡ xs
  changed-past n [] past = refl
  changed-past zero (y ∷ xs) past = absurd (past (omega arith))
  changed-past (suc n) (y ∷ xs) past = ap (λ ys. y ∷ ys) (changed-past n xs (λ within. past (omega (arith, within))))

-- the rows of one table more or less
pub counted-set : (n : ℕ) (tables : List (List Row)) (old new : List Row) → n < length tables → old
    ≡ get_or tables n old → count_rows (slice_set tables n new) + length old ≡ count_rows tables + length new
counted-set n tables old new within read =
    ap (λ m. count_rows (slice_set tables n new) + m) (ap length read) ∙ sum_by-set length tables n new old within

-- a list whose keys rise, put among others
pub rising-set : (n : ℕ) (tables : List (List Row)) (rows : List Row) → list_all is_rising tables ≡ true
    → is_rising rows ≡ true → list_all is_rising (slice_set tables n rows) ≡ true
rising-set n [] rows all rising = refl
rising-set zero (t ∷ ts) rows all rising = rw rising (second_so (is_rising t) (list_all is_rising ts) all)
rising-set (suc n) (t ∷ ts) rows all rising =
    rw (first_so (is_rising t) (list_all is_rising ts) all)
    (rising-set n ts rows (second_so (is_rising t) (list_all is_rising ts) all) rising)

-- ---- tables without rows

abbrev none : List Row
none = []

pub one_more_empty : (n : ℕ) → replicate n (none) ++ none ∷ [] ≡ replicate (n + 1) none
one_more_empty n = replicate_more n none

rising_empty : (n : ℕ) → list_all is_rising (replicate n []) ≡ true
rising_empty zero = refl
rising_empty (suc n) = rising_empty n

pub counted_empty : (n : ℕ) → IsCounted (replicate n []) 0
counted_empty n = let sum = sum_by-replicate
    (λ (rows : List Row). length rows) n none in record { rising = rising_empty n; counted = omega (arith, sum) }

-- ---- one edit more

module _ {A : Type 0} (g h : ℕ → A) (f : A → A) (t : ℕ) (here : h t ≡ f (g t))
    (others : (n : ℕ) → t ≢ n → h n ≡ g n) where
  same_behind : (k s : ℕ) → t < s → map h (range_with_len s k) ≡ map g (range_with_len s k)
  same_behind zero s past = refl
  same_behind (suc k) s past =
      ap (λ x. x ∷ map h (range_with_len (s + 1) k)) (others s (λ e. omega (arith, e, past)))
      ∙ ap (λ xs. g s ∷ xs) (same_behind k (s + 1) (omega (arith, past)))

  one_changed : (k s d : ℕ) → t ≡ s + d → map h (range_with_len s k) ≡ changed_at d f (map g (range_with_len s k))
  one_changed zero s d e = refl
  one_changed (suc k) s zero e =
      let same : t ≡ s = omega (arith, e) in
      ap (λ x. x ∷ map h (range_with_len (s + 1) k)) (subst (λ n. h n ≡ f (g n)) same here)
      ∙ ap (λ xs. f (g s) ∷ xs) (same_behind k (s + 1) (omega (arith, same)))
  one_changed (suc k) s (suc d) e =
      ap (λ x. x ∷ map h (range_with_len (s + 1) k)) (others s (λ same. omega (arith, e, same)))
      ∙ ap (λ xs. g s ∷ xs) (one_changed k (s + 1) d (omega (arith, e)))

pub one_more : (before : List TableEdit) (table : ℕ) (edit : Edit) (tables : ℕ)
    → map (tables_after ((table, edit) ∷ before)) (range_with_len 0 tables) ≡ changed_at table (edited_rows edit)
    (map (tables_after before) (range_with_len 0 tables))
one_more before table edit tables =
    one_changed (tables_after before) (tables_after ((table, edit) ∷ before)) (edited_rows edit) table
    (edited_table before table edit) (λ other apart. other_table before table other edit apart) tables 0 table
    (omega arith)
