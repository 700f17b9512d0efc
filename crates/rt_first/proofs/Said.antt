-- The law for every script that is said of every catalogue of the first form.
use Rattle.std.proofs.Common.{◌≡◌, ◌≢◌, ℕ, ◌<◌, Bool, true, false, List, [], ◌∷◌, ◌++◌, length, Some, sym, ap, ap₂, subst, ◌∙◌, arith}
use Rattle.std.specs.Prelude.{codes, slice_get}
use Rattle.std.specs.Str.{bytes_eq}
use Rattle.rt_json.specs.Grammar.{IsJson}
use Rattle.rt_json.specs.declared.tree.Json.{Json}
use Rattle.rt_json.specs.declared.tree.Json.TheVariants as j
use Rattle.rt_first.specs.First.{IsDue, GivenIsDue}
use Rattle.rt_form.specs.Lexing.{is_name}
use Rattle.rt_form.specs.Script.{IsRowLine, AreSaid, insert_tree, join_tree}
use Rattle.rt_form.specs.Statements.{key_place}
use Rattle.rt_form.specs.declared.catalogue.Catalogue.{Catalogue}
use Rattle.rt_form.specs.declared.catalogue.Column.{Column}
use Rattle.rt_form.specs.declared.script.Script.{Script}
use Rattle.rt_first.proofs.Bytes.{other_name}
use Rattle.rt_first.proofs.Form.{key_column, catalogue_with, row_tree}
use Rattle.rt_first.proofs.Given.{script_with, AreTexts, due_by_texts}

-- a name of a table isn't `*`
no_star : (name : List ℕ) → is_name name ≡ true → bytes_eq name (codes "*") ≡ false
no_star name h = other_name name (codes "*") (λ e. let no : false ≡ true = ap is_name (sym e) ∙ h in cc)

key_is : (is_key : Bool) (first second key : Column)
    → slice_get (first ∷ second ∷ []) (key_place is_key) ≡ Some key → key ≡ key_column is_key first second
key_is true first second key e = cc
key_is false first second key e = cc

module _ (name : List ℕ) (first second : Column) (is_key : Bool) (role : List ℕ) (claims frame line : List ℕ) where
  abbrev c : Catalogue
  c = catalogue_with name first second is_key role

  same_row : (f s k : Column) → first ∷ second ∷ [] ≡ f ∷ s ∷ [] → k ≡ key_column is_key first second → (row : List Json)
      → IsRowLine name f s k line row
      → IsRowLine name first second (key_column is_key first second) line row
  same_row f s k e h row r =
      let one : f ≡ first = cc in
      let two : s ≡ second = cc in
      let key = key_column is_key first second in
      let P : Column → Type 0 = λ x. IsRowLine name x s k line row in
      let Q : Column → Type 0 = λ x. IsRowLine name first x k line row in
      let R : Column → Type 0 = λ x. IsRowLine name first second x line row in
      subst R h (subst Q two (subst P one r))

  -- the parts of what is said, with their trees
  module _ (slot : ℕ) (script : Script) (said : AreSaid c slot claims frame line script)
      (differ : first.name ≢ second.name) (named : is_name name ≡ true) (within : slot < 256) where
    row_line : IsRowLine name first second (key_column is_key first second) line script.row
    row_line =
        let ins = said.inserted in
        let k : ins.key ≡ key_column is_key first second = key_is is_key first second ins.key ins.columns.1 in
        same_row ins.first ins.second ins.key ins.columns.0 k script.row ins.row_is

    by_row : IsRowLine name first second (key_column is_key first second) line script.row → IsDue c slot claims frame line script
    by_row r =
        subst (IsDue c slot claims frame line) (sym whole)
        (due_by_texts name first second is_key role slot channel reference one two differ (no_star name named) within on.1 claims frame line texts)
      where
        one : Json
        one = r.row_is.one

        two : Json
        two = r.row_is.two

        channel : List ℕ
        channel = script.join.channel

        reference : List ℕ
        reference = script.join.reference

        kind : Json
        kind = r.row_is.inserts.fields_are.first_field.kind

        other : Json
        other = r.row_is.inserts.fields_are.second_field.kind

        third : Json
        third = r.row_is.inserts.key_is.kind

        on : (script.join.topic ≡ codes "realtime:" ++ channel) × (0 < length channel)
        on = said.joined.join_is.1

        whole : script ≡ script_with name first second is_key role slot channel reference one two
        whole = λ i. record { slot = sym said.slot_is i; join = record { topic = on.0 i; channel = channel; reference = reference }; row = r.row_is.values i }

        joined : IsJson frame (join_tree (codes "realtime:" ++ channel) reference name)
        joined = subst (IsJson frame) (said.joined.join_is.0 ∙ ap (λ (t : List ℕ). join_tree t reference name) on.0) said.joined.read

        inserted : IsJson line (row_tree name first.name second.name (key_column is_key first second).name kind other third one two)
        inserted =
            let f = r.row_is.inserts.fields_are in
            subst (IsJson line)
            (r.row_is.inserts.is
            ∙ ap₂ (insert_tree name) (f.is ∙ ap₂ (λ (a b : Json). j.List (a ∷ b ∷ [])) f.first_field.is f.second_field.is) r.row_is.inserts.key_is.is) r.read

        texts : AreTexts name first second is_key role slot channel reference one two claims frame line
        texts = record {
          claimed = said.claimed;
          short = said.joined.short;
          joined = joined;
          few = r.short;
          kind = kind;
          other = other;
          third = third;
          inserted = inserted;
          first_fits = r.row_is.inserts.fields_are.first_field.of_type;
          second_fits = r.row_is.inserts.fields_are.second_field.of_type;
        }

    pub due_by_said : IsDue c slot claims frame line script
    due_by_said = by_row row_line

pub given_due : GivenIsDue
given_due words c slot claims frame line script within st said =
    let same : c ≡ catalogue_with c.table.name st.first st.second st.is_key c.role =
    λ i. record { table = record { name = c.table.name; columns = st.columns i; key = st.key i }; role = c.role } in
    let P : Catalogue → Type 0 = λ x. AreSaid x slot claims frame line script → IsDue x slot claims frame line script in
    subst P (sym same)
    (λ h. due_by_said c.table.name st.first st.second st.is_key c.role claims frame line slot script h
    st.named.columns_are.2 st.named.table_is (omega (arith, within))) said
