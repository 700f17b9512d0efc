-- A delete of a table with row security: the key columns alone are sent, and filters are asked of the identity.
use Rattle.std.specs.Prelude.{◌≡◌, ℕ, List, [], ◌∷◌, ◌++◌, ◌&&◌, true, false, nat_le, codes, Option, Some, None, pos}
use Rattle.std.proofs.Common.{lit<, ap}
use Rattle.rt_value.specs.declared.value.Value.{Value}
use Rattle.rt_value.specs.declared.value.Value.TheVariants as value
use Rattle.rt_value.specs.declared.edit.Edit.TheVariants.{Remove}
use Rattle.rt_json.specs.declared.tree.Json.{Json, Num, Text}
use Rattle.rt_phx.specs.declared.message.Version.TheVariants.{V1}
use Rattle.rt_policy.specs.declared.tables.TableRules.{TableRules}
use Rattle.rt_policy.specs.declared.tables.Policy.{Policy}
use Rattle.rt_policy.specs.Ranks.{has_no_ring}
use Rattle.rt_catalog.specs.declared.catalog.Catalog.{Catalog}
use Rattle.rt_change.specs.declared.change.Change.{Change}
use Rattle.rt_change.specs.declared.change.Verb.TheVariants.{Delete}
use Rattle.rt_entry.specs.declared.input.Input.{Input}
use Rattle.rt_entry.specs.declared.input.Input.TheVariants.{Opened, Frame, Poll}
use Rattle.rt_entry.specs.declared.answer.Item.{Item}
use Rattle.rt_entry.specs.Answers.{due}
use Rattle.rt_examples.specs.Notes.{notes, settings, authenticated}
use Rattle.rt_examples.specs.Texts.{join_for, joined_with, subscribed, changed, content, note_columns}
use Rattle.rt_examples.specs.Policies.{anyone, reach_anyone}

abbrev pub anyone_policy : Policy
anyone_policy = record { name = codes "p"; restrictive = false; selects = true; roles = None; judge = Some anyone }

abbrev pub anyone_rules : List TableRules
anyone_rules = record { secured = true; rank = 0; policies = anyone_policy ∷ []; few = lit< tt } ∷ []

pub anyone_rules_descend : has_no_ring anyone_rules ≡ true
anyone_rules_descend = ap (λ n. (nat_le n 0 && true) && true) (reach_anyone anyone_rules)

-- notes, and: alter table notes enable row level security; create policy p on notes using (true);
abbrev pub secured_notes : Catalog
secured_notes = record notes { rules = record { tables = anyone_rules; no_ring = anyone_rules_descend } }

-- a delete of id 1 whose identity has a body or not
abbrev pub delete : Option Value → Option Json → Change
delete body tree =
    record {
      table = 0;
      verb = Delete;
      has_key = false;
      size = 200;
      moment = None;
      new = None ∷ None ∷ [];
      old = Some (value.Int (pos 1)) ∷ body ∷ [];
      new_trees = None ∷ None ∷ [];
      old_trees = Some (Num (codes "1")) ∷ tree ∷ [];
      edit = Remove (record { values = value.Int (pos 1) ∷ [] });
    }

abbrev pub binding : List ℕ → List ℕ
binding filter = codes "\"event\":\"*\",\"schema\":\"public\",\"table\":\"notes\"" ++ filter ++ codes "}"

-- three bindings: without a filter, with one on the key, with one on the body; each begins with this
abbrev pub bindings : List ℕ → List ℕ → List ℕ → List ℕ
bindings first second third =
    first ++ binding [] ++ second ++ binding (codes ",\"filter\":\"id=eq.1\"")
    ++ third ++ binding (codes ",\"filter\":\"body=eq.hi\"")

abbrev pub join : List ℕ
join = join_for (codes "realtime:notes") (bindings (codes "{") (codes ",{") (codes ",{"))

abbrev pub journal : List Input
journal =
    Poll (delete (Some (value.Text (codes "hi"))) (Some (Text (codes "hi"))) ∷ delete None None ∷ [])
    ∷ Frame 0 join ∷ Opened 0 V1 authenticated ∷ []

abbrev pub deleted : List ℕ → Item
deleted ids =
    changed ids (codes "DELETE") (content (codes "null") note_columns (codes "\"old_record\":{\"id\":1}"))
    (codes "null")

abbrev pub DeletesShowTheKey : Type 0
DeletesShowTheKey =
    due secured_notes settings journal 0 ≡
    joined_with (codes "realtime:notes") (bindings (codes "{\"id\":1,") (codes ",{\"id\":2,") (codes ",{\"id\":3,"))
    ∷ subscribed (codes "notes")
    ∷ deleted (codes "[1,2,3]")
    ∷ deleted (codes "[1,2]")
    ∷ []
