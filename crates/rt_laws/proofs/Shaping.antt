-- The data of a change is readable, where the catalogue's names are UTF-8 and the change's trees were read of a line.
use Rattle.std.proofs.Common.{ℕ, zero, suc, ◌+◌, Bool, true, false, not, ◌||◌, List, [], ◌∷◌, ◌++◌, map, Option, Some}
use Rattle.std.proofs.Common.{None, refl}
use Rattle.std.specs.Prelude.{IsUtf8, codes, slice_get, unwrap_or, option_map, if◌then◌else◌}
use Rattle.std.specs.List.{filter_map, cons_option, enumerate_from, AllByRecursion}
use Rattle.rt_value.specs.Choice.{some_if}
use Rattle.rt_value.proofs.Plain.{AllOf, Maybe, all_append, all_map_of}
use Rattle.rt_json.specs.declared.tree.Json.{Json, Null, Text}
use Rattle.rt_json.specs.declared.tree.Json.TheVariants as j
use Rattle.rt_json.specs.Fits.{FitsWithin}
use Rattle.rt_json.specs.Trees.{field}
use Rattle.rt_catalog.specs.declared.catalog.Catalog.{Catalog}
use Rattle.rt_catalog.specs.declared.catalog.Column.{Column}
use Rattle.rt_catalog.specs.Access.{may_select, table_at, no_table, is_secured}
use Rattle.rt_catalog.specs.Names.{IsReadableColumn, IsReadableTable, HasReadableNames}
use Rattle.rt_change.specs.declared.change.Verb.{Verb}
use Rattle.rt_change.specs.declared.change.Verb.TheVariants.{Insert, Update, Delete, Truncate}
use Rattle.rt_change.specs.declared.change.Change.{Change}
use Rattle.rt_change.specs.Verdicts.{writes, lacks_key, hides_key}
use Rattle.rt_change.specs.Shape.{verb_name, error_list, is_large, shown_columns, is_kept, field_of, record_of}
use Rattle.rt_change.specs.Shape.{is_key_column, old_columns, head, column_tree, records, refused, whole, shape_of}
use Rattle.rt_laws.proofs.Fitting.{MemberFits, null_fits, text_fits, list_fits, object_fits}
use Rattle.rt_laws.proofs.Texts.{word}
use Rattle.rt_laws.proofs.Incoming.{bind_of, if_of, unwrap_of}
use Rattle.rt_laws.proofs.Outgoing.{text_member}

-- trees as they stand in a line
pub record ChangeFits (ch : Change) : Type 0 where
  pub moment : Maybe IsUtf8 ch.moment
  pub new : AllOf (Maybe (FitsWithin 64)) ch.new_trees
  pub old : AllOf (Maybe (FitsWithin 64)) ch.old_trees

-- lists

pub all_filter_map : {A C : Type 0} (B : A → Type 0) (D : C → Type 0) (f : A → Option C) (xs : List A)
    → ((x : A) → B x → Maybe D (f x))
    → AllOf B xs → AllOf D (filter_map f xs)
all_filter_map B D f [] k a = tt
all_filter_map B D f (x ∷ xs) k a = by (f x) (k x a.0) (all_filter_map B D f xs k a.1)
  where
    by : (o : Option _) → Maybe D o → AllOf D (filter_map f xs) → AllOf D (cons_option o (filter_map f xs))
    by None h more = more
    by (Some y) h more = (h, more)

abbrev Second : {A : Type 0} → (A → Type 0) → ℕ × A → Type 0
Second B x = B x.1

numbered : {A : Type 0} (B : A → Type 0) (n : ℕ) (xs : List A) → AllByRecursion B xs
    → AllOf (Second B) (enumerate_from n xs)
numbered B n [] a = tt
numbered B n (x ∷ xs) a = (a.0, numbered B (n + 1) xs a.1)

pub got : {A : Type 0} (B : A → Type 0) (xs : List A) (n : ℕ) → AllOf B xs → Maybe B (slice_get xs n)
got B [] n a = tt
got B (x ∷ xs) zero a = a.0
got B (x ∷ xs) (suc n) a = got B xs n a.1

module _ (c : Catalog) (names : HasReadableNames c) where
  table_readable : (n : ℕ) → IsReadableTable (table_at c n)
  table_readable n =
      unwrap_of IsReadableTable (slice_get c.tables n) no_table (got IsReadableTable c.tables n names.tables)
      (record { schema = word [] refl; name = word [] refl; columns = tt })

  module _ (role max : ℕ) (ch : Change) (f : ChangeFits ch) where
    abbrev Named : ℕ × Column → Type 0
    Named = Second IsReadableColumn

    shown_named : AllOf Named (shown_columns c role max ch)
    shown_named =
        all_filter_map Named Named (λ n. some_if (may_select c role ch.table n.0) n)
        (enumerate_from 0 (table_at c ch.table).columns)
        (λ n h. if_of Named (may_select c role ch.table n.0) n h)
        (numbered IsReadableColumn 0 (table_at c ch.table).columns (table_readable ch.table).columns)

    old_named : AllOf Named (old_columns c role max ch)
    old_named =
        all_filter_map Named Named (λ n.
        some_if (writes ch.verb || not (is_secured c ch.table) || is_key_column c role max ch n.0) n)
        (shown_columns c role max ch)
        (λ n h. if_of Named (writes ch.verb || not (is_secured c ch.table) || is_key_column c role max ch n.0) n h)
        shown_named

    field_fits : (trees : List (Option Json)) → AllOf (Maybe (FitsWithin 64)) trees → (n : ℕ × Column) → Named n
        → Maybe (MemberFits 64) (field_of c role max ch trees n)
    field_fits trees a n h =
        bind_of (FitsWithin 64) (MemberFits 64) (unwrap_or (slice_get trees n.0) None)
        (λ tree. some_if (is_kept c role max ch tree) (field n.1.name tree))
        (unwrap_of (Maybe (FitsWithin 64)) (slice_get trees n.0) None (got (Maybe (FitsWithin 64)) trees n.0 a) tt)
        (λ tree fits. if_of (MemberFits 64) (is_kept c role max ch tree) (field n.1.name tree) (h.name, fits))

    record_fits : (columns : List (ℕ × Column)) (trees : List (Option Json)) → AllOf Named columns
        → AllOf (Maybe (FitsWithin 64)) trees
        → FitsWithin 65 (record_of c role max ch columns trees)
    record_fits columns trees named a =
        let members = filter_map (field_of c role max ch trees) columns in
        object_fits 64 members (all_filter_map Named (MemberFits 64) (field_of c role max ch trees) columns
        (field_fits trees a) named)

    verb_utf8 : (v : Verb) → IsUtf8 (verb_name v)
    verb_utf8 Insert = word (codes "INSERT") refl
    verb_utf8 Update = word (codes "UPDATE") refl
    verb_utf8 Delete = word (codes "DELETE") refl
    verb_utf8 Truncate = word (codes "TRUNCATE") refl

    error_fits : (text : List ℕ) → IsUtf8 text → FitsWithin 65 (error_list text)
    error_fits text u = list_fits 64 (Text text ∷ []) (text_fits 64 text u, tt)

    head_fits : AllOf (MemberFits 65) (head c role max ch)
    head_fits =
        let t = table_readable ch.table in (
          text_member 65 (codes "schema") (table_at c ch.table).schema refl t.schema,
          (
            text_member 65 (codes "table") (table_at c ch.table).name refl t.name,
            (text_member 65 (codes "type") (verb_name ch.verb) refl (verb_utf8 ch.verb), tt),
          ),
        )

    new_record : MemberFits 65 (field (codes "record")
        (record_of c role max ch (shown_columns c role max ch) ch.new_trees))
    new_record = (word (codes "record") refl, record_fits (shown_columns c role max ch) ch.new_trees shown_named f.new)

    old_record : MemberFits 65 (field (codes "old_record")
        (record_of c role max ch (old_columns c role max ch) ch.old_trees))
    old_record = (word (codes "old_record") refl, record_fits (old_columns c role max ch) ch.old_trees old_named f.old)

    records_fit : (v : Verb) → AllOf (MemberFits 65) (records c role max ch v)
    records_fit Insert = (new_record, tt)
    records_fit Update = (new_record, (old_record, tt))
    records_fit Delete = (old_record, tt)
    records_fit Truncate = tt

    refused_fits : (text : List ℕ) → IsUtf8 text → FitsWithin 66 (refused c role max ch text)
    refused_fits text u =
        let errors = field (codes "errors") (error_list text) ∷ [] in
        object_fits 65 (head c role max ch ++ errors)
        (all_append (MemberFits 65) (head c role max ch) errors head_fits
        ((word (codes "errors") refl, error_fits text u), tt))

    moment_fits : (o : Option (List ℕ)) → Maybe IsUtf8 o → FitsWithin 65 (unwrap_or (option_map Text o) Null)
    moment_fits None h = null_fits 65
    moment_fits (Some t) h = text_fits 65 t h

    columns_fit : FitsWithin 65 (j.List (map (column_tree c role max ch) (shown_columns c role max ch)))
    columns_fit =
        let shown = shown_columns c role max ch in
        list_fits 64 (map (column_tree c role max ch) shown)
        (all_map_of (FitsWithin 64) Named (column_tree c role max ch) shown (λ n h.
        object_fits 63 (field (codes "name") (Text n.1.name) ∷ field (codes "type") (Text n.1.shown) ∷ []) (
          text_member 63 (codes "name") n.1.name refl h.name,
          (text_member 63 (codes "type") n.1.shown refl h.shown, tt),
        )) shown_named)

    errors_fit : (b : Bool) → FitsWithin 65 (if b then error_list (codes "Error 413: Payload Too Large") else Null)
    errors_fit true = error_fits (codes "Error 413: Payload Too Large")
        (word (codes "Error 413: Payload Too Large") refl)
    errors_fit false = null_fits 65

    whole_fits : FitsWithin 66 (whole c role max ch)
    whole_fits =
        let front = head c role max ch in
        let middle = field (codes "commit_timestamp") (unwrap_or (option_map Text ch.moment) Null)
        ∷ field (codes "columns") (j.List (map (column_tree c role max ch) (shown_columns c role max ch)))
        ∷ records c role max ch ch.verb in
        let last = field (codes "errors")
        (if is_large c role max ch then error_list (codes "Error 413: Payload Too Large") else Null) ∷ [] in
        let fits = all_append (MemberFits 65) (front ++ middle) last
        (all_append (MemberFits 65) front middle head_fits (
          (word (codes "commit_timestamp") refl, moment_fits ch.moment f.moment),
          ((word (codes "columns") refl, columns_fit), records_fit ch.verb),
        ))
        ((word (codes "errors") refl, errors_fit (is_large c role max ch)), tt) in
        object_fits 65 ((front ++ middle) ++ last) fits

    pub shape_fits : FitsWithin 66 (shape_of c role max ch)
    unfolding shape_of
    shape_fits = by (lacks_key ch) (hides_key c role ch)
      where
        by : (a b : Bool)
            → FitsWithin 66 (if a then refused c role max ch (codes "Error 400: Bad Request, no primary key") else
            (if b then refused c role max ch (codes "Error 401: Unauthorized") else whole c role max ch))
        by true b = refused_fits (codes "Error 400: Bad Request, no primary key")
            (word (codes "Error 400: Bad Request, no primary key") refl)
        by false true = refused_fits (codes "Error 401: Unauthorized") (word (codes "Error 401: Unauthorized") refl)
        by false false = whole_fits
