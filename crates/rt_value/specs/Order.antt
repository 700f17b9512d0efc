-- How values compare: whole numbers, uuids and moments by value, texts by bytes, false before true. A null or opaque
-- value compares with nothing, and no value compares with one of another variant.
use Rattle.std.specs.Prelude.{ℕ, Bool, false, ℤ, pos, List, [], Option, Some, None}
use Rattle.std.specs.declared.cmp.Ordering.{Ordering}
use Rattle.std.specs.Ordering.{nat_cmp, int_cmp, bool_cmp, ordering_then, is_eq, is_lt}
use Rattle.std.specs.Cmp.Lexicographic.{slice_cmp}
use Rattle.rt_value.specs.declared.value.Value.{Value}
use Rattle.rt_value.specs.declared.value.Value.TheVariants.{Null, Int, Text, Bool as Truth, Uuid, Moment, Opaque}
use Rattle.rt_value.specs.declared.row.Key.{Key}
use Rattle.rt_value.specs.Choice.{is_at}

abbrev pub compared : Value → Value → Option Ordering
compared (Int a) (Int b) = Some (int_cmp a b)
compared (Text a) (Text b) = Some (slice_cmp nat_cmp a b)
compared (Truth a) (Truth b) = Some (bool_cmp a b)
compared (Uuid a) (Uuid b) = Some (nat_cmp a b)
compared (Moment a) (Moment b) = Some (int_cmp a b)
compared _ _ = None

-- the first is less; false where the two do not compare
abbrev pub less : Value → Value → Bool
less a b = is_at is_lt (compared a b)

-- the two compare and are equal; false where they do not compare
abbrev pub are_equal : Value → Value → Bool
are_equal a b = is_at is_eq (compared a b)

abbrev pub variant_of : Value → ℕ
variant_of Null = 0
variant_of (Int n) = 1
variant_of (Text t) = 2
variant_of (Truth b) = 3
variant_of (Uuid n) = 4
variant_of (Moment n) = 5
variant_of Opaque = 6

-- the number of a whole number or a moment
abbrev pub int_in : Value → ℤ
int_in (Int n) = n
int_in (Moment n) = n
int_in _ = pos 0

abbrev pub text_in : Value → List ℕ
text_in (Text t) = t
text_in _ = []

abbrev pub truth_in : Value → Bool
truth_in (Truth b) = b
truth_in _ = false

abbrev pub uuid_in : Value → ℕ
uuid_in (Uuid n) = n
uuid_in _ = 0

-- a total order, for the keys of a table: by the variant, and then by the value
abbrev pub value_cmp : Value → Value → Ordering
value_cmp a b =
    ordering_then (nat_cmp (variant_of a) (variant_of b)) (ordering_then (int_cmp (int_in a) (int_in b))
    (ordering_then (slice_cmp nat_cmp (text_in a) (text_in b)) (ordering_then (bool_cmp (truth_in a) (truth_in b))
    (nat_cmp (uuid_in a) (uuid_in b)))))

-- keys, value by value; where one begins the other, the shorter is less
abbrev pub key_cmp : Key → Key → Ordering
key_cmp k l = slice_cmp value_cmp k.values l.values

abbrev pub same_key : Key → Key → Bool
same_key k l = is_eq (key_cmp k l)
