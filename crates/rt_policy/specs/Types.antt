-- The kind of a type's name and how it is shown (PostgreSQL, "Data Types").
use Rattle.std.specs.Prelude.{ℕ, Bool, true, false, List, [], ◌∷◌, ◌++◌, codes, option_map, unwrap_or, find}
use Rattle.std.specs.Str.{bytes_eq}
use Rattle.rt_value.specs.declared.value.Kind.{Kind}
use Rattle.rt_value.specs.declared.value.Kind.TheVariants.{Int2, Int4, Int8, Text, Varchar, Bool as Truth, Uuid, Timestamptz, Json, Opaque}
use Rattle.rt_policy.specs.declared.expr.TypeName.{TypeName}
use Rattle.rt_policy.specs.declared.expr.TypeName.TheVariants.{TimestampWithTimeZone, TimestampWithoutTimeZone, DoublePrecision, CharacterVarying, Named}

-- a kind, and the name that is shown
pub record TypeMeaning : Type 0 where
  pub kind : Kind
  pub shown : List ℕ

abbrev pub type_of : Kind → List ℕ → TypeMeaning
type_of kind shown = record { kind = kind; shown = shown }

-- the names of a kind
abbrev pub kind_names : List (List ℕ × TypeMeaning)
kind_names =
    (codes "smallint", type_of Int2 (codes "int2")) ∷ (codes "smallserial", type_of Int2 (codes "int2")) ∷ (codes "int2", type_of Int2 (codes "int2"))
    ∷ (codes "integer", type_of Int4 (codes "int4")) ∷ (codes "int", type_of Int4 (codes "int4")) ∷ (codes "serial", type_of Int4 (codes "int4"))
    ∷ (codes "int4", type_of Int4 (codes "int4"))
    ∷ (codes "bigint", type_of Int8 (codes "int8")) ∷ (codes "bigserial", type_of Int8 (codes "int8")) ∷ (codes "int8", type_of Int8 (codes "int8"))
    ∷ (codes "text", type_of Text (codes "text")) ∷ (codes "varchar", type_of Varchar (codes "varchar"))
    ∷ (codes "boolean", type_of Truth (codes "bool")) ∷ (codes "bool", type_of Truth (codes "bool"))
    ∷ (codes "uuid", type_of Uuid (codes "uuid")) ∷ (codes "timestamptz", type_of Timestamptz (codes "timestamptz"))
    ∷ (codes "json", type_of Json (codes "json")) ∷ (codes "jsonb", type_of Json (codes "jsonb")) ∷ []

-- the names of an opaque type that is shown by another name
abbrev pub opaque_names : List (List ℕ × TypeMeaning)
opaque_names =
    (codes "real", type_of Opaque (codes "float4")) ∷ (codes "float", type_of Opaque (codes "float8")) ∷ (codes "decimal", type_of Opaque (codes "numeric"))
    ∷ (codes "dec", type_of Opaque (codes "numeric")) ∷ (codes "char", type_of Opaque (codes "bpchar")) ∷ (codes "character", type_of Opaque (codes "bpchar"))
    ∷ []

-- every other type is opaque and shown by its name
abbrev pub meaning_of_name : List ℕ → TypeMeaning
meaning_of_name name = unwrap_or (option_map (λ n. n.1) (find (λ n. bytes_eq n.0 name) (kind_names ++ opaque_names))) (type_of Opaque name)

-- an array is opaque, and shown with `_` before its element's shown name
abbrev pub array_of : Bool → TypeMeaning → TypeMeaning
array_of false t = t
array_of true t = type_of Opaque (codes "_" ++ t.shown)

abbrev pub meaning_of : TypeName → TypeMeaning
meaning_of TimestampWithTimeZone = type_of Timestamptz (codes "timestamptz")
meaning_of TimestampWithoutTimeZone = type_of Opaque (codes "timestamp")
meaning_of DoublePrecision = type_of Opaque (codes "float8")
meaning_of CharacterVarying = type_of Varchar (codes "varchar")
meaning_of (Named name array) = array_of array (meaning_of_name name)
