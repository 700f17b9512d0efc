-- Fields that are the columns in their order: each column's field is the one at its place.
use Rattle.std.proofs.Common.{◌≡◌, ◌≢◌, ℕ, suc, ◌+◌, ◌<◌, ◌≤◌, Bool, true, false, ◌&&◌, List, [], ◌∷◌, ◌++◌, length}
use Rattle.std.proofs.Common.{get_or, drop, map, find, Option, Some, None, option_map, refl, sym, ap, subst, ◌∙◌, arith}
use Rattle.std.proofs.Common.{append_assoc}
use Rattle.std.specs.Prelude.{⊤}
use Rattle.std.specs.Str.{bytes_eq}
use Rattle.std.specs.Cmp.{first_so, second_so}
use Rattle.std.proofs.Math.Bool.{and-false}
use Rattle.std.proofs.lemmas.Slice.Eq.{bytes_eq-Decides}
use Rattle.rt_json.specs.declared.tree.Json.{Json}
use Rattle.rt_wal.specs.declared.records.Field.{Field}
use Rattle.rt_wal.specs.Shapes.{are_distinct}
use Rattle.rt_catalog.specs.declared.catalog.Column.{Column}
use Rattle.rt_change.specs.Binding.{face, face_for}
use Rattle.rt_bind.specs.Apart.{FieldsAreApart, field_names}
use Rattle.std.specs.Prelude.{slice_get}
use Rattle.std.proofs.lemmas.Option.{slice_get_past}
use Rattle.std.proofs.lemmas.List.{append-nil}
use Rattle.rt_bind.specs.Straight.{are_straight, faces_in_turn, faces_with, face_behind}
use Rattle.rt_bind.proofs.Names.{found_at, from_first}
use Rattle.rt_bind.proofs.Places.{at_place, past}

module _ (columns : List Column) (fields : List Field) (i : ℕ) (col : Column) (f : Field)
    (h : i < length columns) (k : i < length fields) (e : col ≡ get_or columns i col) (g : f ≡ get_or fields i f) where
  abbrev are_behind : Bool
  are_behind = are_straight (drop (i + 1) columns) (drop (i + 1) fields)

  next : are_straight (drop i columns) (drop i fields) ≡ (bytes_eq f.name col.name && are_behind)
  next =
      ap (λ (l : List Column). are_straight l (drop i fields)) (at_place columns i col col h e)
      ∙ ap (λ (l : List Field). are_straight (col ∷ drop (i + 1) columns) l) (at_place fields i f f k g)

  pub straight_more : bytes_eq f.name col.name ≡ true
      → are_straight (drop i columns) (drop i fields) ≡ are_straight (drop (i + 1) columns) (drop (i + 1) fields)
  straight_more same = next ∙ ap (λ b. b && are_behind) same

  pub straight_differs : bytes_eq f.name col.name ≡ false → are_straight (drop i columns) (drop i fields) ≡ false
  straight_differs same = next ∙ ap (λ b. b && are_behind) same

pub straight_all : (columns : List Column) (fields : List Field) (i : ℕ) → length columns ≤ i → length fields ≤ i
    → are_straight (drop i columns) (drop i fields) ≡ true
straight_all columns fields i h k =
    ap (λ (l : List Column). are_straight l (drop i fields)) (past columns i h)
    ∙ ap (λ (l : List Field). are_straight [] l) (past fields i k)

pub not_as_long : (columns : List Column) (fields : List Field) → length columns ≢ length fields
    → are_straight columns fields ≡ false
not_as_long [] [] h = absurd (h refl)
not_as_long [] (f ∷ fields) h = refl
not_as_long (col ∷ columns) [] h = refl
not_as_long (col ∷ columns) (f ∷ fields) h =
    ap (λ b. bytes_eq f.name col.name && b) (not_as_long columns fields (λ e. h (ap suc e)))
    ∙ and-false (bytes_eq f.name col.name)

-- faces, one more at a time
abbrev Faces : Type 0
Faces = List (Option Json)

no_faces : (columns : List Column) → faces_in_turn columns [] ≡ []
no_faces [] = refl
no_faces (col ∷ columns) = refl

pub turn_none : (columns : List Column) → [] ≡ faces_in_turn columns []
turn_none columns = sym (no_faces columns)

pub turn_next : (columns : List Column) (fields : List Field) (f : Field)
    → faces_with columns (faces_in_turn columns fields) f ≡ faces_in_turn columns (fields ++ f ∷ [])
turn_next [] fields f = refl
turn_next (c ∷ columns) [] f = ap (λ (l : Faces). Some (face c.kind f.tree) ∷ l) (sym (no_faces columns))
turn_next (c ∷ columns) (g ∷ fields) f =
    ap (λ (l : Faces). Some (face c.kind g.tree) ∷ l) (turn_next columns fields f)

-- each of the fields is what is found among all by its name
abbrev AreFound : List Field → List Field → Type 0
AreFound all [] = ⊤
AreFound all (f ∷ fields) = (find (λ g. bytes_eq g.name f.name) all ≡ Some f) × AreFound all fields

at_end : (before : List Field) (f : Field) (fields : List Field) → f ≡ get_or (before ++ f ∷ fields) (length before) f
at_end [] f fields = refl
at_end (g ∷ before) f fields = at_end before f fields

longer : (before : List Field) (f : Field) (fields : List Field) → length before < length (before ++ f ∷ fields)
longer [] f fields = omega arith
longer (g ∷ before) f fields = let more = longer before f fields in omega arith

all_found : (before fields : List Field) → are_distinct (field_names (before ++ fields)) ≡ true
    → AreFound (before ++ fields) fields
all_found before [] d = tt
all_found before (f ∷ fields) d =
    let same : (before ++ f ∷ []) ++ fields ≡ before ++ f ∷ fields = append_assoc before (f ∷ []) fields in
    let P : List Field → Type 0 = λ l. are_distinct (field_names l) ≡ true in
    let Q : List Field → Type 0 = λ l. AreFound l fields in
    let within = longer before f fields in
    let itself = (bytes_eq-Decides f.name f.name).1 refl in (
      found_at (λ g. g.name) f.name (before ++ f ∷ fields) (length before) f d within (at_end before f fields) itself,
      subst Q same (all_found (before ++ f ∷ []) fields (subst P (sym same) d)),
    )

in_turn : (all second : List Field) (columns : List Column) (fields : List Field) → are_straight columns fields ≡ true
    → AreFound all fields → faces_in_turn columns fields ≡ map (face_for (all ++ second)) columns
in_turn all second [] [] h found = refl
in_turn all second [] (f ∷ fields) h found = refl
in_turn all second (col ∷ columns) [] h found = absurd (cc)
in_turn all second (col ∷ columns) (f ∷ fields) h found =
    let same = first_so (bytes_eq f.name col.name) (are_straight columns fields) h in
    let more = second_so (bytes_eq f.name col.name) (are_straight columns fields) h in
    let name : f.name ≡ col.name = (bytes_eq-Decides f.name col.name).0 same in
    let P : List ℕ → Type 0 = λ n. Some f ≡ find (λ g. bytes_eq g.name n) all in
    let tree = from_first all second col f (subst P name (sym found.0)) in
    let face_is = ap (λ (o : Option Json). option_map (face col.kind) o) tree in
    ap (λ (o : Option Json). o ∷ faces_in_turn columns fields) face_is
    ∙ ap (λ (l : Faces). face_for (all ++ second) col ∷ l) (in_turn all second columns fields more found.1)

pub straight_faces : (columns : List Column) (first second : List Field) → are_straight columns first ≡ true
    → FieldsAreApart first → faces_in_turn columns first ≡ map (face_for (first ++ second)) columns
straight_faces columns first second h d = in_turn first second columns first h (all_found [] first d.apart)

-- where every column has a face, a field more adds none
pub push_past : (columns : List Column) (faces seen : Faces) (f : Field) → length columns ≤ length seen
    → seen ≡ faces → faces ≡ faces_with columns faces f
push_past columns faces seen f h same =
    let past_all = subst (λ (l : Faces). length columns ≤ length l) same h in
    let none : slice_get columns (length faces) ≡ None = slice_get_past columns (length faces) past_all in
    sym (ap (λ (o : Option Column). faces ++ face_behind o f) none ∙ append-nil faces)

pub ruleset straight_steps = (straight_more, straight_differs, straight_all, not_as_long)
