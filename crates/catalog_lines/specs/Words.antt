-- The words of kinds.
use Rattle.std.specs.Prelude.{ℕ, List, codes}
use Rattle.rt_value.specs.declared.value.Kind.{Kind}
use Rattle.rt_value.specs.declared.value.Kind.TheVariants.{Int2, Int4, Int8, Text, Varchar, Bool, Uuid, Timestamptz, Json, Opaque}

abbrev pub word_of : Kind → List ℕ
word_of Int2 = codes "int2"
word_of Int4 = codes "int4"
word_of Int8 = codes "int8"
word_of Text = codes "text"
word_of Varchar = codes "varchar"
word_of Bool = codes "bool"
word_of Uuid = codes "uuid"
word_of Timestamptz = codes "timestamptz"
word_of Json = codes "json"
word_of Opaque = codes "opaque"
