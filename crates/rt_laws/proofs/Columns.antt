-- What the data of a change shows.
use Rattle.std.proofs.Common.{◌≡◌, ℕ, suc, ◌+◌, Bool, true, false, ◌||◌, not, cond, List, [], ◌∷◌, ◌++◌, map, Option}
use Rattle.std.proofs.Common.{Some, None, refl, sym, ap, subst, ◌∙◌, arith, inl, inr}
use Rattle.std.specs.Prelude.{⊤, codes, All, slice_get, option_map, unwrap_or}
use Rattle.std.specs.List.{filter_map, enumerate_from}
use Rattle.std.proofs.lemmas.List.Elements.{All-nil, All-cons}
use Rattle.rt_value.specs.Choice.{◌>>=◌, some_if}
use Rattle.rt_value.proofs.Among.{Among, among_filter_map}
use Rattle.rt_value.proofs.Plain.{AllOf, all_weaker, all_themselves}
use Rattle.rt_json.specs.Trees.{field}
use Rattle.rt_json.specs.Lookup.{last_named, member_of}
use Rattle.rt_json.specs.declared.tree.Json.{Json, Null, Text}
use Rattle.rt_json.specs.declared.tree.Json.TheVariants as j
use Rattle.rt_json.specs.declared.tree.named.Member.{Member}
use Rattle.rt_json.proofs.Lookups.{object_members, object_at}
use Rattle.rt_catalog.specs.declared.catalog.Catalog.{Catalog}
use Rattle.rt_catalog.specs.declared.catalog.Column.{Column}
use Rattle.rt_catalog.specs.Access.{may_select, table_at, is_secured}
use Rattle.rt_change.specs.declared.change.Verb.{Verb}
use Rattle.rt_change.specs.declared.change.Verb.TheVariants.{Insert, Update, Delete, Truncate}
use Rattle.rt_change.specs.declared.change.Change.{Change}
use Rattle.rt_change.specs.Verdicts.{writes, lacks_key, hides_key}
use Rattle.rt_change.specs.Shape.{error_list, is_large, shown_columns, is_kept, field_of, record_of, is_key_column}
use Rattle.rt_change.specs.Shape.{old_columns, head, column_tree, records, refused, whole, shape_of}
use Rattle.rt_entry.specs.declared.input.Settings.{Settings}
use Rattle.rt_entry.specs.Access.{IsShownColumn, ShowsOnly, IsRecordName}
use Rattle.rt_filter.proofs.Options.{some_if_gives}

-- a numbered element stands at its number
numbered_at : {A : Type 0} (k : ℕ) (xs : List A) (n : ℕ × A) → Among (enumerate_from k xs) n
    → (i : ℕ) × (n.0 ≡ k + i) × (slice_get xs i ≡ Some n.1)
numbered_at k [] n h = absurd h
numbered_at k (x ∷ xs) n (inl e) =
    (0, ap (λ (p : _). p.0) (sym e) ∙ (let z : k ≡ k + 0 = omega arith in z), ap (λ (p : _). Some p.1) e)
numbered_at k (x ∷ xs) n (inr h) = let r = numbered_at (k + 1) xs n h in let e = r.1 in (suc r.0, omega arith, r.2)

pub all_from : {A : Type 0} (B : A → Type 0) (xs : List A) → AllOf B xs → All B xs
all_from B [] a = All-nil B
all_from B (x ∷ xs) a = All-cons B x xs a.0 (all_from B xs a.1)

module _ (c : Catalog) (s : Settings) (role max : ℕ) (ch : Change) where
  abbrev IsShown : ℕ × Column → Type 0
  IsShown n = (slice_get (table_at c ch.table).columns n.0 ≡ Some n.1) × (may_select c role ch.table n.0 ≡ true)

  shown_is : (n : ℕ × Column) → Among (shown_columns c role max ch) n → IsShown n
  shown_is n h =
      let r =
      among_filter_map (λ (m : ℕ × Column). some_if (may_select c role ch.table m.0) m)
      (enumerate_from 0 (table_at c ch.table).columns) n h in
      let t = some_if_gives (may_select c role ch.table r.0.0) r.0 n r.2 in
      let at = numbered_at 0 (table_at c ch.table).columns r.0 r.1 in
      let i : at.0 ≡ r.0.0 = let e = at.1 in omega arith in
      let here : IsShown r.0 = (ap (slice_get (table_at c ch.table).columns) (sym i) ∙ at.2, t.0) in
      subst IsShown t.1 here

  old_is : (n : ℕ × Column) → Among (old_columns c role max ch) n → IsShown n
  old_is n h =
      let r =
      among_filter_map (λ (m : ℕ × Column).
      some_if (writes ch.verb || not (is_secured c ch.table) || is_key_column c role max ch m.0) m)
      (shown_columns c role max ch) n h in
      let t = some_if_gives (writes ch.verb || not (is_secured c ch.table) || is_key_column c role max ch r.0.0) r.0 n
      r.2 in
      subst IsShown t.1 (shown_is r.0 r.1)

  field_name : (n : ℕ × Column) (o : Option Json) (m : Member)
      → (o >>= λ tree. some_if (is_kept c role max ch tree) (field n.1.name tree)) ≡ Some m
      → n.1.name ≡ m.name
  field_name n None m e = absurd (cc)
  field_name n (Some tree) m e =
      ap (λ (x : Member). x.name) (some_if_gives (is_kept c role max ch tree) (field n.1.name tree) m e).1

  shown_field : (columns : List (ℕ × Column)) (trees : List (Option Json))
      → ((n : ℕ × Column) → Among columns n → IsShown n) → (m : Member)
      → Among (filter_map (field_of c role max ch trees) columns) m → IsShownColumn c s role ch.table m.name
  shown_field columns trees f m h =
      let r = among_filter_map (field_of c role max ch trees) columns m h in
      let k = f r.0 r.1 in
      record {
        number = r.0.0;
        column = r.0.1;
        there = k.0;
        named = field_name r.0 (unwrap_or (slice_get trees r.0.0) None) m r.2;
        may = k.1;
      }

  record_shows : (columns : List (ℕ × Column)) (trees : List (Option Json))
      → ((n : ℕ × Column) → Among columns n → IsShown n)
      → ShowsOnly c s role ch.table (record_of c role max ch columns trees)
  record_shows columns trees f =
      let fields = filter_map (field_of c role max ch trees) columns in
      let P : List Member → Type 0 = All (λ (m : Member). IsShownColumn c s role ch.table m.name) in
      subst P (sym (object_members fields)) (all_from (λ (m : Member). IsShownColumn c s role ch.table m.name) fields
      (all_weaker (Among fields) (λ (m : Member). IsShownColumn c s role ch.table m.name) fields
      (shown_field columns trees f)
      (all_themselves fields)))

  -- a refusal has no record
  refused_none : (text part : List ℕ) → IsRecordName c s part → member_of (refused c role max ch text) part ≡ None
  refused_none text part (inl e) =
      object_at (head c role max ch ++ field (codes "errors") (error_list text) ∷ []) part
      ∙ ap (λ (name : List ℕ). last_named name (head c role max ch ++ field (codes "errors") (error_list text) ∷ [])) e
  refused_none text part (inr e) =
      object_at (head c role max ch ++ field (codes "errors") (error_list text) ∷ []) part
      ∙ ap (λ (name : List ℕ). last_named name (head c role max ch ++ field (codes "errors") (error_list text) ∷ [])) e

  abbrev Shows : Option Json → Type 0
  Shows None = ⊤
  Shows (Some tree) = ShowsOnly c s role ch.table tree

  abbrev around : Json → Json → Json → List Member → List Member
  around moment columns errors ms =
      head c role max ch ++ field (codes "commit_timestamp") moment ∷ field (codes "columns") columns ∷ ms
      ++ field (codes "errors") errors ∷ []

  shown_records : (v : Verb) (moment columns errors : Json)
      → Shows (last_named (codes "record") (around moment columns errors (records c role max ch v))) × Shows
      (last_named (codes "old_record") (around moment columns errors (records c role max ch v)))
  shown_records Insert moment columns errors = (record_shows (shown_columns c role max ch) ch.new_trees shown_is, tt)
  shown_records Update moment columns errors = (
    record_shows (shown_columns c role max ch) ch.new_trees shown_is,
    record_shows (old_columns c role max ch) ch.old_trees old_is,
  )
  shown_records Delete moment columns errors = (tt, record_shows (old_columns c role max ch) ch.old_trees old_is)
  shown_records Truncate moment columns errors = (tt, tt)

  whole_shows : (part : List ℕ) → IsRecordName c s part → Shows (member_of (whole c role max ch) part)
  whole_shows part name =
      let moment = unwrap_or (option_map (λ (t : List ℕ). Text t) ch.moment) Null in
      let columns = j.List (map (column_tree c role max ch) (shown_columns c role max ch)) in
      let errors : Json = cond (is_large c role max ch) (error_list (codes "Error 413: Payload Too Large")) Null in
      let ms = around moment columns errors (records c role max ch ch.verb) in
      let both = shown_records ch.verb moment columns errors in
      let P : List ℕ → Type 0 = λ n. Shows (last_named n ms) in
      let found : Shows (last_named part ms) =
      elim name [ inl e ↦ subst P (sym e) both.0 | inr e ↦ subst P (sym e) both.1 ] in
      subst Shows (sym (object_at ms part)) found

  no_some : (o : Option Json) (tree : Json) → o ≡ None → o ≡ Some tree → ⊥
  no_some o tree e f = let k : None ≡ Some tree = sym e ∙ f in cc

  -- where it shows a record, the change has its key and the role may SELECT it, and it shows only columns that the role
  -- may SELECT
  shape_case : (a b : Bool) → lacks_key ch ≡ a → hides_key c role ch ≡ b → (part : List ℕ) (tree : Json)
      → IsRecordName c s part
      → member_of (cond a (refused c role max ch (codes "Error 400: Bad Request, no primary key"))
      (cond b (refused c role max ch (codes "Error 401: Unauthorized")) (whole c role max ch))) part ≡ Some tree
      → (lacks_key ch ≡ false) × (hides_key c role ch ≡ false) × ShowsOnly c s role ch.table tree
  shape_case true b e f part tree name h =
      absurd (no_some _ tree (refused_none (codes "Error 400: Bad Request, no primary key") part name) h)
  shape_case false true e f part tree name h =
      absurd (no_some _ tree (refused_none (codes "Error 401: Unauthorized") part name) h)
  shape_case false false e f part tree name h = (e, f, subst Shows h (whole_shows part name))

  pub shape_shows : (part : List ℕ) (tree : Json) → IsRecordName c s part
      → member_of (shape_of c role max ch) part ≡ Some tree
      → (lacks_key ch ≡ false) × (hides_key c role ch ≡ false) × ShowsOnly c s role ch.table tree
  unfolding shape_of
  shape_shows part tree name h = shape_case (lacks_key ch) (hides_key c role ch) refl refl part tree name h
