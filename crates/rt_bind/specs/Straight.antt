-- Fields that are a table's columns in their order.
use Rattle.std.specs.Prelude.{Bool, true, false, ◌&&◌, List, [], ◌∷◌, ◌++◌, length, slice_get, Option, Some, None}
use Rattle.std.specs.Str.{bytes_eq}
use Rattle.rt_json.specs.declared.tree.Json.{Json}
use Rattle.rt_wal.specs.declared.records.Field.{Field}
use Rattle.rt_catalog.specs.declared.catalog.Column.{Column}
use Rattle.rt_change.specs.Binding.{face}

-- the fields are the columns, one after another
abbrev pub are_straight : List Column → List Field → Bool
are_straight [] [] = true
are_straight (col ∷ columns) (f ∷ fields) = bytes_eq f.name col.name && are_straight columns fields
are_straight _ _ = false

-- how the fields are shown, each in the column at its place
abbrev pub faces_in_turn : List Column → List Field → List (Option Json)
faces_in_turn (col ∷ columns) (f ∷ fields) = Some (face col.kind f.tree) ∷ faces_in_turn columns fields
faces_in_turn _ _ = []

abbrev pub face_behind : Option Column → Field → List (Option Json)
face_behind None f = []
face_behind (Some col) f = Some (face col.kind f.tree) ∷ []

-- the faces with that of one field more
abbrev pub faces_with : List Column → List (Option Json) → Field → List (Option Json)
faces_with columns faces f = faces ++ face_behind (slice_get columns (length faces)) f
