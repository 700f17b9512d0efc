-- A poll's edits, one after another.
use Rattle.std.proofs.Common.{◌≡◌, ℕ, zero, suc, ◌+◌, Bool, List, [], ◌∷◌, ◌++◌, map, reverse, length, refl, sym, ap}
use Rattle.std.proofs.Common.{◌∙◌}
use Rattle.std.proofs.Common.{append_assoc, inl, inr}
use Rattle.std.specs.Prelude.{if◌then◌else◌, sum_by}
use Rattle.std.specs.List.{enumerate_from, range_with_len, fold}
use Rattle.std.proofs.lemmas.Bool.Decides.{eqb_tells}
use Rattle.std.proofs.lemmas.List.{reverse-append}
use Rattle.std.proofs.lemmas.List.FromFn.{length-map-range_with_len}
use Rattle.rt_value.specs.declared.row.Row.{Row}
use Rattle.rt_value.specs.Edits.{TableEdit, edited_rows, tables_after}
use Rattle.rt_value.proofs.TablesAfter.{other_table}
use Rattle.rt_value.proofs.TablesAfter as rows
use Rattle.rt_catalog.specs.declared.catalog.Catalog.{Catalog}
use Rattle.rt_entry.specs.declared.input.Settings.{Settings}
use Rattle.rt_entry.specs.Story.{edit_of_change, edits_at, tables_of}
use Rattle.rt_entry.specs.Doings.{story}
use Rattle.rt_entry.specs.Edited.{edited_table, edited_tables, TablesAreEdited, TablesAreTheCatalogues}
use Rattle.rt_entry.specs.Edited.{RowsAreOfTables}

one_table : (e : TableEdit) (old : List TableEdit) (n : ℕ)
    → tables_after (e ∷ old) n ≡ edited_table e (n, tables_after old n)
one_table e old n =
    let before = tables_after old n in
    elim (eqb_tells e.0 n) [
      | inl t ↦
          ap (λ k. tables_after ((k, e.1) ∷ old) n) t.1 ∙ rows.edited_table old n e.1
          ∙ sym (ap (λ (b : Bool). if b then edited_rows e.1 before else before) t.0)
      | inr t ↦
          other_table old e.0 n e.1 t.1 ∙ sym (ap (λ (b : Bool). if b then edited_rows e.1 before else before) t.0)
    ]

tables_from : (e : TableEdit) (old : List TableEdit) (k n : ℕ)
    → map (tables_after (e ∷ old)) (range_with_len k n)
    ≡ map (edited_table e) (enumerate_from k (map (tables_after old) (range_with_len k n)))
tables_from e old k zero = refl
tables_from e old k (suc n) =
    ap (λ (rs : List Row). rs ∷ map (tables_after (e ∷ old)) (range_with_len (k + 1) n)) (one_table e old k)
    ∙ ap (λ (ts : List (List Row)). edited_table e (k, tables_after old k) ∷ ts) (tables_from e old (k + 1) n)

module _ (c : Catalog) where
  one_edit : (e : TableEdit) (old : List TableEdit) → tables_of c (e ∷ old) ≡ edited_tables (tables_of c old) e
  one_edit e old = tables_from e old 0 (length c.tables)

  all_edits : (es old : List TableEdit) → tables_of c (reverse es ++ old) ≡ fold edited_tables (tables_of c old) es
  all_edits [] old = refl
  all_edits (e ∷ es) old =
      ap (λ (xs : List TableEdit). tables_of c (xs ++ old)) (reverse-append (e ∷ []) es)
      ∙ ap (tables_of c) (append_assoc (reverse es) (e ∷ []) old)
      ∙ all_edits es (e ∷ old)
      ∙ ap (λ (ts : List (List Row)). fold edited_tables ts es) (one_edit e old)

module _ (c : Catalog) (s : Settings) where
  pub tables_edited : TablesAreEdited c s
  tables_edited before changes = all_edits c (map edit_of_change changes) (edits_at (story c s before))

  pub tables_counted : TablesAreTheCatalogues c s
  tables_counted before = length-map-range_with_len (tables_after (edits_at (story c s before))) 0 (length c.tables)

  pub rows_counted : RowsAreOfTables c s
  rows_counted before changes = ap (sum_by length) (tables_edited before changes)
