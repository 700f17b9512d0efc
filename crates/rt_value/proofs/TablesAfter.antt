-- The rows of the tables after one more edit.
use Rattle.std.proofs.Common.{◌≡◌, ◌≢◌, ℕ, List, ◌∷◌, Option, Some, None, option_map, refl, ap, sym, ◌∙◌}
use Rattle.rt_value.specs.declared.value.Value.{Value}
use Rattle.rt_value.specs.declared.row.Key.{Key}
use Rattle.rt_value.specs.declared.row.Row.{Row}
use Rattle.rt_value.specs.declared.edit.Edit.{Edit}
use Rattle.rt_value.specs.Rows.{values_at}
use Rattle.rt_value.specs.Edits.{TableEdit, left_at, row_after, row_of, edited_rows, tables_after}
use Rattle.rt_value.proofs.OneMoreEdit.{here, elsewhere}
use Rattle.rt_value.proofs.SameRows.{same_rows}
use Rattle.rt_value.proofs.EditedRows.{edited_rises, edited_at}
use Rattle.rt_value.proofs.TableRows.{row_at_table, table_rises}

values_given : (key : Key) (o : Option (List Value)) → option_map (λ (row : Row). row.values) (option_map (row_of key) o) ≡ o
values_given key None = refl
values_given key (Some vs) = refl

pub values_at_table : (edits : List TableEdit) (table : ℕ) (key : Key) → values_at key (tables_after edits table) ≡ row_after edits table key
values_at_table edits table key = ap (option_map (λ (row : Row). row.values)) (row_at_table edits table key) ∙ values_given key (row_after edits table key)

pub edited_table : (before : List TableEdit) (table : ℕ) (edit : Edit) → tables_after ((table, edit) ∷ before) table ≡ edited_rows edit (tables_after before table)
edited_table before table edit =
    let rows = tables_after before table in
    same_rows (tables_after ((table, edit) ∷ before) table) (edited_rows edit rows) (table_rises ((table, edit) ∷ before) table)
    (edited_rises edit rows (table_rises before table))
    (λ key. row_at_table ((table, edit) ∷ before) table key ∙ ap (option_map (row_of key)) (here table edit before key)
    ∙ (λ i. option_map (row_of key) (left_at edit key (λ j. sym (values_at_table before table j) i)))
    ∙ sym (edited_at edit key rows))

pub other_table : (before : List TableEdit) (table other : ℕ) (edit : Edit) → table ≢ other → tables_after ((table, edit) ∷ before) other ≡ tables_after before other
other_table before table other edit differ =
    same_rows (tables_after ((table, edit) ∷ before) other) (tables_after before other) (table_rises ((table, edit) ∷ before) other) (table_rises before other)
    (λ key. row_at_table ((table, edit) ∷ before) other key ∙ ap (option_map (row_of key)) (elsewhere table other edit before key differ)
    ∙ sym (row_at_table before other key))
