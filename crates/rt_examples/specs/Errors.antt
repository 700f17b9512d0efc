-- A record without a key, a key that the role may not SELECT, and a record that is too large.
use Rattle.std.specs.Prelude.{◌≡◌, ℕ, List, [], ◌∷◌, ◌++◌, false, codes, Some, None, pos}
use Rattle.rt_value.specs.declared.value.Value.TheVariants as value
use Rattle.rt_value.specs.declared.edit.Edit.TheVariants.{Remove}
use Rattle.rt_json.specs.declared.tree.Json.{Num}
use Rattle.rt_phx.specs.declared.message.Version.TheVariants.{V1}
use Rattle.rt_catalog.specs.declared.catalog.Catalog.{Catalog}
use Rattle.rt_change.specs.declared.change.Change.{Change}
use Rattle.rt_change.specs.declared.change.Verb.TheVariants.{Delete}
use Rattle.rt_entry.specs.declared.input.Input.{Input}
use Rattle.rt_entry.specs.declared.input.Input.TheVariants.{Opened, Frame, Poll}
use Rattle.rt_entry.specs.declared.answer.Item.{Item}
use Rattle.rt_entry.specs.Answers.{due}
use Rattle.rt_examples.specs.Notes.{notes, settings, authenticated, insert, join_frame, join_items}
use Rattle.rt_examples.specs.Texts.{join_for, joined_with, subscribed, changed, content, note_columns}

abbrev pub without_key : Change
without_key = record (insert (codes "hi")) { has_key = false }

abbrev pub too_large : List ℕ → Change
too_large body = record (insert body) { size = 1048577; moment = None }

abbrev pub delete : Change
delete =
    record {
      table = 0;
      verb = Delete;
      has_key = false;
      size = 200;
      moment = None;
      new = None ∷ None ∷ [];
      old = Some (value.Int (pos 1)) ∷ None ∷ [];
      new_trees = None ∷ None ∷ [];
      old_trees = Some (Num (codes "1")) ∷ None ∷ [];
      edit = Remove (record { values = value.Int (pos 1) ∷ [] });
    }

-- 62 and 63 letters print in 64 and 65 bytes
abbrev pub letters_62 : List ℕ
letters_62 = codes "aaaaaaaaaaaaaaaaaaaaaaaaaaaaaaaaaaaaaaaaaaaaaaaaaaaaaaaaaaaaaa"

abbrev pub letters_63 : List ℕ
letters_63 = codes "aaaaaaaaaaaaaaaaaaaaaaaaaaaaaaaaaaaaaaaaaaaaaaaaaaaaaaaaaaaaaaa"

abbrev pub joined : List Input
joined = Frame 0 join_frame ∷ Opened 0 V1 authenticated ∷ []

abbrev pub journal : List Input
journal = Poll (too_large letters_62 ∷ too_large letters_63 ∷ []) ∷ Poll (without_key ∷ delete ∷ []) ∷ joined

abbrev pub change : List ℕ → List ℕ → List ℕ → Item
change verb rest errors = changed (codes "[1]") verb rest errors

abbrev pub told : List ℕ → List ℕ
told records = content (codes "null") note_columns records

abbrev pub too_large_error : List ℕ
too_large_error = codes "[\"Error 413: Payload Too Large\"]"

abbrev pub ErrorsAreSent : Type 0
ErrorsAreSent =
    due notes settings journal 0 ≡
    join_items
    ++ change (codes "INSERT") [] (codes "[\"Error 400: Bad Request, no primary key\"]")
    ∷ change (codes "DELETE") (told (codes "\"old_record\":{\"id\":1}")) (codes "null")
    ∷ change (codes "INSERT") (told (codes "\"record\":{\"id\":1,\"body\":\"" ++ letters_62 ++ codes "\"}"))
    too_large_error
    ∷ change (codes "INSERT") (told (codes "\"record\":{\"id\":1}")) too_large_error
    ∷ []

-- notes, but: grant select (body) on notes to authenticated;
abbrev pub body_alone : Catalog
body_alone = record notes { grants = record { table = 0; column = Some 1; role = Some 0 } ∷ [] }

-- its filter wouldn't pass, but the key comes first
abbrev pub filtered : List ℕ
filtered = codes "\"event\":\"*\",\"schema\":\"public\",\"table\":\"notes\",\"filter\":\"body=eq.x\"}"

abbrev pub hidden_journal : List Input
hidden_journal =
    Poll (insert (codes "y") ∷ []) ∷ Frame 0 (join_for (codes "realtime:notes") (codes "{" ++ filtered))
    ∷ Opened 0 V1 authenticated ∷ []

abbrev pub HiddenKeyIsAnError : Type 0
HiddenKeyIsAnError =
    due body_alone settings hidden_journal 0 ≡
    joined_with (codes "realtime:notes") (codes "{\"id\":1," ++ filtered)
    ∷ subscribed (codes "notes")
    ∷ change (codes "INSERT") [] (codes "[\"Error 401: Unauthorized\"]")
    ∷ []
