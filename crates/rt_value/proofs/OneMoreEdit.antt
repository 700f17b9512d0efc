-- What one more edit does to the rows.
use Rattle.std.proofs.Common.{◌≡◌, ◌≢◌, ℕ, Bool, true, false, ◌==◌, List, ◌∷◌, Option, Some, None, refl, ap, sym, ◌∙◌}
use Rattle.std.proofs.lemmas.Bool.{false_from_ne_true}
use Rattle.std.specs.Cmp.{unsigned_Decides}
use Rattle.rt_value.specs.declared.value.Value.{Value}
use Rattle.rt_value.specs.declared.row.Key.{Key}
use Rattle.rt_value.specs.declared.edit.Edit.{Edit}
use Rattle.rt_value.specs.declared.edit.Edit.TheVariants.{Put, Remove}
use Rattle.rt_value.specs.Choice.{is_at}
use Rattle.rt_value.specs.Order.{same_key}
use Rattle.rt_value.specs.Edits.{TableEdit, filled, old_values, left_at, row_after}
use Rattle.rt_value.proofs.Ties.{same_itself, other_keys}

abbrev Rows : Type 0
Rows = Key → Option (List Value)

same_number : (n : ℕ) → (n == n) ≡ true
same_number n = (unsigned_Decides n n).1 refl

other_numbers : (m n : ℕ) → m ≢ n → (m == n) ≡ false
other_numbers m n differ = false_from_ne_true (m == n) (λ h. differ ((unsigned_Decides m n).0 h))

-- an edit of the table
pub here : (table : ℕ) (edit : Edit) (before : List TableEdit) (key : Key)
    → row_after ((table, edit) ∷ before) table key ≡ left_at edit key (row_after before table)
here table edit before key =
    ap (λ b. elim b [ true ↦ left_at edit key (row_after before table) | false ↦ row_after before table key ]) (same_number table)

-- and of another table
pub elsewhere : (table other : ℕ) (edit : Edit) (before : List TableEdit) (key : Key) → table ≢ other
    → row_after ((table, edit) ∷ before) other key ≡ row_after before other key
elsewhere table other edit before key differ =
    ap (λ b. elim b [ true ↦ left_at edit key (row_after before other) | false ↦ row_after before other key ]) (other_numbers table other differ)

module _ (before : Rows) where
  removes : (key : Key) → left_at (Remove key) key before ≡ None
  removes key = ap (λ b. elim b as (λ _. Option (List Value)) [ true ↦ None | false ↦ before key ]) (same_itself key)

  keeps_others : (gone key : Key) → key ≢ gone → left_at (Remove gone) key before ≡ before key
  keeps_others gone key differ = ap (λ b. elim b as (λ _. Option (List Value)) [ true ↦ None | false ↦ before key ]) (other_keys key gone differ)

  puts : (old : Option Key) (new : Key) (cells : List (Option Value)) → left_at (Put old new cells) new before ≡ Some (filled cells (old_values old before))
  puts old new cells =
      ap (λ b. elim b [ true ↦ Some (filled cells (old_values old before)) | false ↦ elim (is_at (same_key new) old) [ true ↦ None | false ↦ before new ] ]) (same_itself new)

  -- at a key that is not the new one
  put_beside : (old : Option Key) (new key : Key) (cells : List (Option Value)) (b : Bool) → key ≢ new → is_at (same_key key) old ≡ b
      → left_at (Put old new cells) key before ≡ elim b as (λ _. Option (List Value)) [ true ↦ None | false ↦ before key ]
  put_beside old new key cells b differ moved =
      ap (λ b. elim b [ true ↦ Some (filled cells (old_values old before)) | false ↦ elim (is_at (same_key key) old) [ true ↦ None | false ↦ before key ] ]) (other_keys key new differ)
      ∙ ap (λ b. elim b as (λ _. Option (List Value)) [ true ↦ None | false ↦ before key ]) moved

  moves_away : (old new : Key) (cells : List (Option Value)) → old ≢ new → left_at (Put (Some old) new cells) old before ≡ None
  moves_away old new cells differ = put_beside (Some old) new old cells true differ (same_itself old)

  not_old : (old : Option Key) (key : Key) → old ≢ Some key → is_at (same_key key) old ≡ false
  not_old None key differ = refl
  not_old (Some old) key differ = other_keys key old (λ e. differ (ap Some (sym e)))

  leaves_others : (old : Option Key) (new key : Key) (cells : List (Option Value)) → key ≢ new → old ≢ Some key → left_at (Put old new cells) key before ≡ before key
  leaves_others old new key cells apart unmoved = put_beside old new key cells false apart (not_old old key unmoved)

module _ (before : List TableEdit) (table : ℕ) where
  pub removed : (key : Key) → row_after ((table, Remove key) ∷ before) table key ≡ None
  removed key = here table (Remove key) before key ∙ removes (row_after before table) key

  pub remove_others : (gone key : Key) → key ≢ gone → row_after ((table, Remove gone) ∷ before) table key ≡ row_after before table key
  remove_others gone key differ = here table (Remove gone) before key ∙ keeps_others (row_after before table) gone key differ

  pub put : (old : Option Key) (new : Key) (cells : List (Option Value))
      → row_after ((table, Put old new cells) ∷ before) table new ≡ Some (filled cells (old_values old (row_after before table)))
  put old new cells = here table (Put old new cells) before new ∙ puts (row_after before table) old new cells

  pub moved : (old new : Key) (cells : List (Option Value)) → old ≢ new → row_after ((table, Put (Some old) new cells) ∷ before) table old ≡ None
  moved old new cells differ = here table (Put (Some old) new cells) before old ∙ moves_away (row_after before table) old new cells differ

  pub put_others : (old : Option Key) (new key : Key) (cells : List (Option Value)) → key ≢ new → old ≢ Some key
      → row_after ((table, Put old new cells) ∷ before) table key ≡ row_after before table key
  put_others old new key cells apart unmoved = here table (Put old new cells) before key ∙ leaves_others (row_after before table) old new key cells apart unmoved
