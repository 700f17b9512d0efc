-- What is due by a script of the first form is what its slot is given.
use Rattle.std.proofs.Common.{◌≡◌, ◌≢◌, ℕ, ◌<◌, ◌≤◌, Bool, true, false, List, [], ◌∷◌, ◌++◌, length, refl, sym, arith}
use Rattle.std.specs.Prelude.{codes, nat_lt}
use Rattle.std.specs.Str.{bytes_eq}
use Rattle.std.proofs.lemmas.Bool.Decides.{nat_tests}
use Rattle.rt_json.specs.Grammar.{IsJson}
use Rattle.rt_json.specs.declared.tree.Json.{Json}
use Rattle.rt_entry.specs.declared.input.Input.{Input}
use Rattle.rt_script.specs.Reading.{default_settings}
use Rattle.rt_first.specs.First.{kind_of, IsDue}
use Rattle.rt_form.specs.Script.{IsClaims, join_tree, fits, text_limit}
use Rattle.rt_form.specs.declared.catalogue.Column.{Column}
use Rattle.rt_form.specs.declared.script.Script.{Script}
use Rattle.rt_first.proofs.Binds.{change_is, bound_is}
use Rattle.rt_first.proofs.Bytes.{other_name}
use Rattle.rt_first.proofs.Channels.{channel_topic}
use Rattle.rt_first.proofs.Claims.{held_by, claims_found}
use Rattle.rt_first.proofs.Due.{three_printed}
use Rattle.rt_first.proofs.Form.{key_column, catalogue_with, catalog_with, row_tree}
use Rattle.rt_first.proofs.Inserts.{entry_with, entry_written, one_sound, two_sound}
use Rattle.rt_first.proofs.Polls.{reply, told, change_told, journal, all_given}
use Rattle.rt_first.proofs.Values.{Stands, fitting}

module _ (name : List ℕ) (first second : Column) (is_key : Bool) (role : List ℕ) (slot : ℕ)
    (channel reference : List ℕ) (one two : Json) where
  abbrev topic : List ℕ
  topic = codes "realtime:" ++ channel

  abbrev pub script_with : Script
  script_with = record { slot = slot; join = record { topic = topic; channel = channel; reference = reference }; row = one ∷ two ∷ [] }

  abbrev key_name : List ℕ
  key_name = (key_column is_key first second).name

  -- the texts, by the trees that they are
  pub record AreTexts (claims frame line : List ℕ) : Type 0 where
    pub claimed : IsClaims role claims
    pub short : length frame ≤ text_limit
    pub joined : IsJson frame (join_tree topic reference name)
    pub few : length line ≤ text_limit
    pub kind : Json
    pub other : Json
    pub third : Json
    pub inserted : IsJson line (row_tree name first.name second.name key_name kind other third one two)
    pub first_fits : fits first.column_type one ≡ true
    pub second_fits : fits second.column_type two ≡ true

  module _ (differ : first.name ≢ second.name) (no_star : bytes_eq name (codes "*") ≡ false) (within : slot < 256) (some : 0 < length channel)
      (claims frame line : List ℕ) (texts : AreTexts claims frame line) where
    of_one : Stands (kind_of first.column_type) one
    of_one =
        fitting first.column_type one
        (one_sound name first.name second.name key_name texts.kind texts.other texts.third one two line texts.inserted) texts.first_fits

    of_two : Stands (kind_of second.column_type) two
    of_two =
        fitting second.column_type two
        (two_sound name first.name second.name key_name texts.kind texts.other texts.third one two line texts.inserted) texts.second_fits

    small : nat_lt default_settings.max_record (length line) ≡ false
    small = let le = texts.few in grind (arith, nat_tests, le)

    abbrev inputs : List Input
    inputs = journal name first second is_key role default_settings slot topic reference frame one two (length line) differ of_one of_two small

    pub due_by_texts : IsDue (catalogue_with name first second is_key role) slot claims frame line script_with
    due_by_texts = record {
      journal = inputs;
      inputs = record {
        held = held_by role;
        claimed = claims_found role claims texts.claimed;
        entry = entry_with name first.name second.name key_name one two (length line);
        written =
            entry_written name first.name second.name key_name texts.kind texts.other texts.third one two
            (other_name first.name second.name differ) line texts.inserted;
        change = change_is name first second is_key one two (length line);
        bound = bound_is name first second is_key one two (length line) role differ of_one of_two;
        are = refl;
      };
      printed_is =
          sym (three_printed slot (reply name first second is_key role default_settings slot topic reference frame one two (length line))
          (told name first second is_key role default_settings slot topic reference frame one two (length line))
          (change_told name first second is_key role default_settings slot topic reference frame one two (length line))
          (catalog_with name first second is_key role) default_settings inputs within
          (all_given name first second is_key role default_settings slot topic reference frame one two (length line)
          differ of_one of_two small no_star (channel_topic channel some) texts.short texts.joined within));
    }
