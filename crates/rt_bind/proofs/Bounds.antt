-- A change by its parts, and what a record does by its place.
use Rattle.std.proofs.Common.{◌≡◌, ℕ, ◌<◌, Bool, ◌&&◌, not, List, [], ◌∷◌, length, Option, Some, None, Result, Ok, Err}
use Rattle.std.proofs.Common.{refl, sym, ap, ◌∙◌, eqb, arith}
use Rattle.std.specs.Str.{bytes_eq}
use Rattle.std.proofs.lemmas.Bool.Decides.{nat_tests}
use Rattle.rt_value.specs.Choice.{◌>>=◌, some_if}
use Rattle.rt_json.specs.declared.tree.Json.{Json}
use Rattle.rt_wal.specs.declared.records.Record.{Record}
use Rattle.rt_catalog.specs.declared.catalog.Catalog.{Catalog}
use Rattle.rt_catalog.specs.declared.catalog.Table.{Table}
use Rattle.rt_catalog.specs.Access.{table_named, table_at}
use Rattle.rt_catalog.proofs.Found.{number_within}
use Rattle.rt_change.specs.declared.change.Verb.{Verb}
use Rattle.rt_change.specs.declared.change.Bound.{Bound}
use Rattle.rt_change.specs.declared.change.Bound.TheVariants as bound
use Rattle.rt_change.specs.declared.fault.ChangeFault.{ChangeFault}
use Rattle.rt_change.specs.declared.fault.ChangeFault.TheVariants.{KeyDiffers}
use Rattle.rt_change.specs.Binding.{◌>>◌, or_fault, keys_differ, fields_fit, used, key_given, new_fields, old_fields}
use Rattle.rt_change.specs.Binding.{cells_for, faces_for, edit_of, is_empty, bound_to, bound_at, verb_of, change_of}
use Rattle.rt_bind.specs.declared.parts.Parts.{Parts}
use Rattle.rt_bind.specs.Parts.{parts_of, change_from, place_of}

chain : {A B C D P X : Type 0} (a : Result A ChangeFault) (b : Result B ChangeFault) (c : Result C ChangeFault)
    (d : Result D ChangeFault) (p : P) (f : P → X)
    → (a >> λ _. b >> λ _. c >> λ _. d >> λ _. Ok (f p))
    ≡ (((a >> λ _. b >> λ _. c >> λ _. d) >> λ _. Ok p) >> λ q. Ok (f q))
chain (Err e) b c d p f = refl
chain (Ok x) (Err e) c d p f = refl
chain (Ok x) (Ok y) (Err e) d p f = refl
chain (Ok x) (Ok y) (Ok z) (Err e) p f = refl
chain (Ok x) (Ok y) (Ok z) (Ok w) p f = refl

module _ (number : ℕ) (t : Table) (r : Record) (verb : Verb) where
  abbrev new_trees_of : List (Option Json)
  new_trees_of = faces_for t (new_fields verb r)

  abbrev old_trees_of : List (Option Json)
  old_trees_of = faces_for t (old_fields verb r)

  abbrev made : Parts → Result Bound ChangeFault
  made p = Ok (bound.Change (change_from number verb r p new_trees_of old_trees_of))

  by_parts : bound_to number t r verb ≡ (parts_of verb t r >> made)
  by_parts =
      let new = cells_for t (new_fields verb r) in
      let old = cells_for t (old_fields verb r) in
      let parts : Parts = record { new = new; old = old; edit = edit_of verb t new old } in
      chain (or_fault KeyDiffers (some_if (not (keys_differ verb t r)) r)) (fields_fit t (used verb r.columns))
      (fields_fit t (used verb r.identity)) (key_given verb t new) parts
      (λ (p : Parts). bound.Change (change_from number verb r p new_trees_of old_trees_of))

  abbrev shaped : Parts → Bool → Option (List ℕ) → List (Option Json) → List (Option Json) → Result Bound ChangeFault
  shaped parts empty moment new_trees old_trees =
      Ok (bound.Change (record {
        table = number;
        verb = verb;
        has_key = not empty;
        size = r.size;
        moment = moment;
        new = parts.new;
        old = parts.old;
        new_trees = new_trees;
        old_trees = old_trees;
        edit = parts.edit;
      }))

  -- the record is bound to the change of these parts
  pub is_change : (parts : Parts) (empty : Bool) (moment : Option (List ℕ)) (new_trees old_trees : List (Option Json))
      → Ok parts ≡ parts_of verb t r → empty ≡ is_empty r.keys → moment ≡ r.moment → new_trees ≡ new_trees_of
      → old_trees ≡ old_trees_of
      → shaped parts empty moment new_trees old_trees ≡ bound_to number t r verb
  is_change parts empty moment new_trees old_trees h e m n o =
      ap (λ (b : Bool). shaped parts b moment new_trees old_trees) e
      ∙ ap (λ (x : Option (List ℕ)). shaped parts (is_empty r.keys) x new_trees old_trees) m
      ∙ ap (λ (x : List (Option Json)). shaped parts (is_empty r.keys) r.moment x old_trees) n
      ∙ ap (λ (x : List (Option Json)). shaped parts (is_empty r.keys) r.moment new_trees_of x) o
      ∙ ap (λ (p : Result Parts ChangeFault). p >> made) h
      ∙ sym by_parts

  -- or refused
  pub is_refused : (fault : ChangeFault) → Err fault ≡ parts_of verb t r → Err fault ≡ bound_to number t r verb
  is_refused fault h = ap (λ (p : Result Parts ChangeFault). p >> made) h ∙ sym by_parts

pub has_none : {A : Type 0} (xs : List A) → eqb (length xs) 0 ≡ is_empty xs
has_none [] = refl
has_none (x ∷ xs) = grind (arith, nat_tests)

module _ (c : Catalog) (r : Record) where
  abbrev pair : Option ℕ → Option Verb → Option (ℕ × Verb)
  pair n v = v >>= λ verb. n >>= λ number. Some (number, verb)

  skip_at : (n : Option ℕ) (v : Option Verb) → None ≡ pair n v → Ok bound.Skip ≡ bound_at c r n v
  skip_at (Some n) (Some v) h = absurd (cc)
  skip_at (Some n) None h = refl
  skip_at None (Some v) h = refl
  skip_at None None h = refl

  pub is_skip : None ≡ place_of c r → Ok bound.Skip ≡ change_of c r
  unfolding change_of
  is_skip h = skip_at (table_named c r.schema r.table) (verb_of r.action) h

  bound_there : (n : Option ℕ) (v : Option Verb) (number : ℕ) (verb : Verb) → Some (number, verb) ≡ pair n v
      → bound_to number (table_at c number) r verb ≡ bound_at c r n v
  bound_there (Some n) (Some v) number verb h =
      let here : ℕ × Verb = (number, verb) in
      let there : ℕ × Verb = (n, v) in
      let same : here ≡ there = cc in
      let one = ap (λ (p : ℕ × Verb). p.0) same in
      let two = ap (λ (p : ℕ × Verb). p.1) same in
      ap (λ (m : ℕ). bound_to m (table_at c m) r verb) one ∙ ap (λ (w : Verb). bound_to n (table_at c n) r w) two
  bound_there (Some n) None number verb h = absurd (cc)
  bound_there None (Some v) number verb h = absurd (cc)
  bound_there None None number verb h = absurd (cc)

  pub is_there : (number : ℕ) (verb : Verb) → Some (number, verb) ≡ place_of c r
      → bound_to number (table_at c number) r verb ≡ change_of c r
  unfolding change_of
  is_there number verb h = bound_there (table_named c r.schema r.table) (verb_of r.action) number verb h

  found_there : (n : Option ℕ) (v : Option Verb) (number : ℕ) (verb : Verb) → Some (number, verb) ≡ pair n v
      → n ≡ Some number
  found_there (Some n) (Some v) number verb h =
      let here : ℕ × Verb = (number, verb) in
      let there : ℕ × Verb = (n, v) in
      let same : here ≡ there = cc in
      ap (λ (p : ℕ × Verb). Some p.0) (sym same)
  found_there (Some n) None number verb h = absurd (cc)
  found_there None (Some v) number verb h = absurd (cc)
  found_there None None number verb h = absurd (cc)

  pub is_within : (number : ℕ) (verb : Verb) → Some (number, verb) ≡ place_of c r → number < length c.tables
  is_within number verb h =
      number_within (λ (t : Table). bytes_eq t.schema r.schema && bytes_eq t.name r.table) c.tables number
      (found_there (table_named c r.schema r.table) (verb_of r.action) number verb h)
