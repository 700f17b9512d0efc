-- A binding with two filters: a change passes both, or isn't sent.
use Rattle.std.specs.Prelude.{◌≡◌, ℕ, List, [], ◌∷◌, ◌++◌, true, codes, Some, None, pos}
use Rattle.std.specs.Fmt.{decimal}
use Rattle.rt_value.specs.declared.value.Value.TheVariants as value
use Rattle.rt_value.specs.declared.edit.Edit.TheVariants.{Put}
use Rattle.rt_json.specs.declared.tree.Json.{Num, Text}
use Rattle.rt_phx.specs.declared.message.Version.TheVariants.{V1}
use Rattle.rt_change.specs.declared.change.Change.{Change}
use Rattle.rt_change.specs.declared.change.Verb.TheVariants.{Insert}
use Rattle.rt_entry.specs.declared.input.Input.{Input}
use Rattle.rt_entry.specs.declared.input.Input.TheVariants.{Opened, Frame, Poll}
use Rattle.rt_entry.specs.declared.answer.Item.{Item}
use Rattle.rt_entry.specs.Answers.{due}
use Rattle.rt_examples.specs.Notes.{notes, settings, authenticated}
use Rattle.rt_examples.specs.Texts as texts
use Rattle.rt_examples.specs.Texts.{join_for, joined_with, subscribed, changed, content, note_columns}

-- the insert of an id with a body
abbrev pub insert : ℕ → List ℕ → Change
insert id body =
    record {
      table = 0;
      verb = Insert;
      has_key = true;
      size = 300;
      moment = None;
      new = Some (value.Int (pos id)) ∷ Some (value.Text body) ∷ [];
      old = None ∷ None ∷ [];
      new_trees = Some (Num (decimal id)) ∷ Some (Text body) ∷ [];
      old_trees = None ∷ None ∷ [];
      edit =
          Put None (record { values = value.Int (pos id) ∷ [] })
          (Some (value.Int (pos id)) ∷ Some (value.Text body) ∷ []);
    }

-- a binding with these filters, as it is asked for and as the reply shows it
abbrev pub filtered : List ℕ → List ℕ
filtered filter = codes "\"event\":\"*\",\"schema\":\"public\",\"table\":\"notes\",\"filter\":" ++ filter ++ codes "}"

abbrev pub join : List ℕ → List ℕ
join filter = join_for (codes "realtime:notes") (codes "{" ++ filtered filter)

abbrev pub two_filters : List ℕ
two_filters = codes "[\"id=gt.1\",\"body=eq.x\"]"

abbrev pub journal : List Input
journal =
    Poll (insert 1 (codes "x") ∷ insert 2 (codes "y") ∷ insert 3 (codes "x") ∷ [])
    ∷ Frame 0 (join two_filters) ∷ Opened 0 V1 authenticated ∷ []

abbrev pub items : List Item
items =
    joined_with (codes "realtime:notes") (codes "{\"id\":1," ++ filtered two_filters)
    ∷ subscribed (codes "notes")
    ∷ changed (codes "[1]") (codes "INSERT")
    (content (codes "null") note_columns (codes "\"record\":{\"id\":3,\"body\":\"x\"}")) (codes "null")
    ∷ []

abbrev pub BothFiltersPass : Type 0
BothFiltersPass = due notes settings journal 0 ≡ items

-- nine filters are too many, also where each of them is empty
abbrev pub refused : List ℕ → Item
refused reason = texts.refused (codes "realtime:notes") reason (codes "\"1\"")

abbrev pub nine : List ℕ
nine = codes "[\"\",\"\",\"\",\"\",\"\",\"\",\"\",\"\",\"\"]"

abbrev pub NineAreTooMany : Type 0
NineAreTooMany =
    due notes settings (Frame 0 (join nine) ∷ Opened 0 V1 authenticated ∷ []) 0
    ≡ refused (codes "binding 1: too many filters") ∷ []

-- an empty text is no filter, and in a list it is a bad one
abbrev pub EmptyIsBad : Type 0
EmptyIsBad =
    due notes settings (Frame 0 (join (codes "[\"\"]")) ∷ Opened 0 V1 authenticated ∷ []) 0
    ≡ refused (codes "binding 1: bad filter") ∷ []
