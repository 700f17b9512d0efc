-- The rows of a table after edits rise, and at each key stands the row that the edits leave there.
use Rattle.std.proofs.Common.{◌≡◌, ℕ, Bool, true, false, ◌==◌, ◌||◌, cond, List, [], ◌∷◌, ◌++◌, Option, Some, None, option_map, refl, ap, sym, ◌∙◌}
use Rattle.std.specs.List.{list_all, filter_map, flat_map, cons_option}
use Rattle.std.specs.Cmp.{first_so, second_so}
use Rattle.std.proofs.lemmas.Bool.{and_from, or_parts}
use Rattle.rt_value.specs.declared.value.Value.{Value}
use Rattle.rt_value.specs.declared.row.Key.{Key}
use Rattle.rt_value.specs.declared.row.Row.{Row}
use Rattle.rt_value.specs.declared.edit.Edit.{Edit}
use Rattle.rt_value.specs.declared.edit.Edit.TheVariants.{Put, Remove, Clear, Nothing}
use Rattle.rt_value.specs.Choice.{is_at}
use Rattle.rt_value.specs.Order.{key_cmp, same_key}
use Rattle.rt_value.specs.Ordered.{in_order}
use Rattle.rt_value.specs.Rows.{is_after, is_rising, row_at}
use Rattle.rt_value.specs.Edits.{TableEdit, filled, old_values, left_at, row_after, keys_put, row_of, tables_after}
use Rattle.rt_value.proofs.Ties.{same_equal}
use Rattle.rt_value.proofs.KeyOrder.{below}
use Rattle.rt_value.proofs.SortedKeys.{keys_rise, has, in_order_rises, in_order_has}

-- the rows that a function gives at keys
module _ (values : Key → Option (List Value)) where
  abbrev rows_given : List Key → List Row
  rows_given ks = filter_map (λ key. option_map (row_of key) (values key)) ks

  abbrev front : Key → Option (List Value) → List Key → List Row
  front k o ks = cons_option (option_map (row_of k) o) (rows_given ks)

  kept_after : (k l : Key) (ks : List Key) (o : Option (List Value)) → below k l ≡ true → list_all (is_after k) (rows_given ks) ≡ true
      → list_all (is_after k) (front l o ks) ≡ true
  kept_after k l ks None a h = h
  kept_after k l ks (Some vs) a h = and_from (below k l) (list_all (is_after k) (rows_given ks)) a h

  given_after : (k : Key) (ks : List Key) → list_all (below k) ks ≡ true → list_all (is_after k) (rows_given ks) ≡ true
  given_after k [] h = refl
  given_after k (l ∷ ks) h =
      kept_after k l ks (values l) (first_so (below k l) (list_all (below k) ks) h) (given_after k ks (second_so (below k l) (list_all (below k) ks) h))

  kept_rises : (k : Key) (ks : List Key) (o : Option (List Value)) → list_all (is_after k) (rows_given ks) ≡ true → is_rising (rows_given ks) ≡ true
      → is_rising (front k o ks) ≡ true
  kept_rises k ks None a h = h
  kept_rises k ks (Some vs) a h = and_from (list_all (is_after k) (rows_given ks)) (is_rising (rows_given ks)) a h

  given_rises : (ks : List Key) → keys_rise ks ≡ true → is_rising (rows_given ks) ≡ true
  given_rises [] h = refl
  given_rises (k ∷ ks) h =
      kept_rises k ks (values k) (given_after k ks (first_so (list_all (below k) ks) (keys_rise ks) h)) (given_rises ks (second_so (list_all (below k) ks) (keys_rise ks) h))

  passed_over : (key k : Key) (ks : List Key) (b : Bool) (o : Option (List Value)) → same_key key k ≡ b → values k ≡ o → values key ≡ None
      → row_at key (rows_given ks) ≡ None → row_at key (front k o ks) ≡ None
  passed_over key k ks b None s v e h = h
  passed_over key k ks true (Some vs) s v e h = let w : Some vs ≡ None = sym v ∙ ap values (sym (same_equal key k s)) ∙ e in absurd (cc)
  passed_over key k ks false (Some vs) s v e h = ap (λ b. cond b (Some (row_of k vs)) (row_at key (rows_given ks))) s ∙ h

  absent : (key : Key) (ks : List Key) → values key ≡ None → row_at key (rows_given ks) ≡ None
  absent key [] e = refl
  absent key (k ∷ ks) e = passed_over key k ks (same_key key k) (values k) refl refl e (absent key ks e)

  found : (key : Key) (vs : List Value) (k : Key) (ks : List Key) (b : Bool) (o : Option (List Value)) → same_key key k ≡ b → values k ≡ o → values key ≡ Some vs
      → (b || has key ks) ≡ true → (has key ks ≡ true → row_at key (rows_given ks) ≡ Some (row_of key vs)) → row_at key (front k o ks) ≡ Some (row_of key vs)
  found key vs k ks true None s v e h more = let w : None ≡ Some vs = sym v ∙ ap values (sym (same_equal key k s)) ∙ e in absurd (cc)
  found key vs k ks true (Some ws) s v e h more =
      let same = same_equal key k s in
      let w : Some ws ≡ Some vs = sym v ∙ ap values (sym same) ∙ e in
      let here : row_at key (front k (Some ws) ks) ≡ Some (row_of k ws) = ap (λ b. cond b (Some (row_of k ws)) (row_at key (rows_given ks))) s in
      let alike : ws ≡ vs = cc in
      here ∙ ap (λ j. Some (row_of j ws)) (sym same) ∙ ap (λ us. Some (row_of key us)) alike
  found key vs k ks false None s v e h more = more h
  found key vs k ks false (Some ws) s v e h more = ap (λ b. cond b (Some (row_of k ws)) (row_at key (rows_given ks))) s ∙ more h

  present : (key : Key) (vs : List Value) (ks : List Key) → values key ≡ Some vs → has key ks ≡ true → row_at key (rows_given ks) ≡ Some (row_of key vs)
  present key vs [] e h = absurd (cc)
  present key vs (k ∷ ks) e h = found key vs k ks (same_key key k) (values k) refl refl e h (present key vs ks e)

has_append : (key : Key) (ks ls : List Key) → has key (ks ++ ls) ≡ (has key ks || has key ls)
has_append key [] ls = refl
has_append key (k ∷ ks) ls = ap (λ b. same_key key k || b) (has_append key ks ls) ∙ or_assoc (same_key key k) (has key ks) (has key ls)
  where
    or_assoc : (a b c : Bool) → (a || (b || c)) ≡ ((a || b) || c)
    or_assoc true b c = refl
    or_assoc false b c = refl

none_either : (b : Bool) (o : Option (List Value)) → o ≡ None → elim b as (λ _. Option (List Value)) [ true ↦ None | false ↦ o ] ≡ None
none_either true o h = refl
none_either false o h = h

-- an edit of the table leaves no row at a key to which it puts none and where there was none
left_none : (edit : Edit) (key : Key) (before : Key → Option (List Value)) (t table : ℕ) → has key (keys_put table (t, edit)) ≡ false → (t == table) ≡ true
    → before key ≡ None → left_at edit key before ≡ None
left_none Clear key before t table h s e = refl
left_none (Remove gone) key before t table h s e = none_either (same_key key gone) (before key) e
left_none (Put old new cells) key before t table h s e =
    let apart : same_key key new ≡ false = (or_parts (same_key key new) false (ap (λ b. has key (cond b (new ∷ []) [])) (sym s) ∙ h)).0 in
    ap (λ b. elim b [ true ↦ Some (filled cells (old_values old before)) | false ↦ elim (is_at (same_key key) old) [ true ↦ None | false ↦ before key ] ]) apart
    ∙ none_either (is_at (same_key key) old) (before key) e
left_none Nothing key before t table h s e = e

module _ (table : ℕ) (key : Key) where
  -- one edit more, where it is one of the table or not
  one_more : (t : ℕ) (edit : Edit) (before : List TableEdit) (b : Bool) → (t == table) ≡ b → has key (keys_put table (t, edit)) ≡ false → row_after before table key ≡ None
      → row_after ((t, edit) ∷ before) table key ≡ None
  one_more t edit before true e h none =
      ap (λ b. elim b [ true ↦ left_at edit key (row_after before table) | false ↦ row_after before table key ]) e
      ∙ left_none edit key (row_after before table) t table h e none
  one_more t edit before false e h none =
      ap (λ b. elim b [ true ↦ left_at edit key (row_after before table) | false ↦ row_after before table key ]) e ∙ none

  -- where no edit puts a row to the key, there is none
  none_put : (edits : List TableEdit) → has key (flat_map (keys_put table) edits) ≡ false → row_after edits table key ≡ None
  none_put [] h = refl
  none_put ((t, edit) ∷ before) h =
      let parts = or_parts (has key (keys_put table (t, edit))) (has key (flat_map (keys_put table) before))
      (sym (has_append key (keys_put table (t, edit)) (flat_map (keys_put table) before)) ∙ h) in
      one_more t edit before (t == table) refl parts.0 (none_put before parts.1)

  put_by : (b : Bool) (edits : List TableEdit) (vs : List Value) → has key (flat_map (keys_put table) edits) ≡ b → row_after edits table key ≡ Some vs → b ≡ true
  put_by true edits vs e h = refl
  put_by false edits vs e h = let w : Some vs ≡ None = sym h ∙ none_put edits e in absurd (cc)

  at_key : (edits : List TableEdit) (o : Option (List Value)) → row_after edits table key ≡ o → row_at key (tables_after edits table) ≡ option_map (row_of key) o
  unfolding tables_after
  at_key edits None e = absent (row_after edits table) key (in_order key_cmp (flat_map (keys_put table) edits)) e
  at_key edits (Some vs) e =
      let keys = flat_map (keys_put table) edits in
      present (row_after edits table) key vs (in_order key_cmp keys) e (in_order_has key keys ∙ put_by (has key keys) edits vs refl e)

-- at each key stands the row that the edits leave
pub row_at_table : (edits : List TableEdit) (table : ℕ) (key : Key) → row_at key (tables_after edits table) ≡ option_map (row_of key) (row_after edits table key)
row_at_table edits table key = at_key table key edits (row_after edits table key) refl

pub table_rises : (edits : List TableEdit) (table : ℕ) → is_rising (tables_after edits table) ≡ true
unfolding tables_after
table_rises edits table =
    let keys = flat_map (keys_put table) edits in given_rises (row_after edits table) (in_order key_cmp keys) (in_order_rises keys)
