-- The value that a text has in a kind.
use Rattle.std.specs.Prelude.{ℕ, ◌-◌, ◌^◌, ℤ, pos, neg_ℤ, int_le, nat_lt, Bool, true, false, ◌&&◌, ◌||◌, List, length, codes, ◌∷◌, [], Option, Some, None, option_map}
use Rattle.std.specs.Int.{from_be_bytes, w128}
use Rattle.std.specs.Str.{bytes_eq, all_ascii_digits}
use Rattle.std.specs.Str.Parse.{without_leading_sign, signed_digits_value}
use Rattle.uuid.specs.Text.{parsed}
use Rattle.rt_value.specs.declared.value.Value.{Value}
use Rattle.rt_value.specs.declared.value.Value.TheVariants.{Int, Text, Bool as Truth, Uuid, Moment}
use Rattle.rt_value.specs.declared.value.Kind.{Kind}
use Rattle.rt_value.specs.declared.value.Kind.TheVariants as kind
use Rattle.rt_value.specs.Choice.{◌>>=◌, some_if, first_case}
use Rattle.rt_value.specs.Moments.{moment_in_text}

-- one or more decimal digits, and nothing else
abbrev pub is_numeral : List ℕ → Bool
is_numeral text = nat_lt 0 (length text) && all_ascii_digits text

-- a whole number: an optional `+` or `-`, and one or more digits
abbrev pub whole_in_text : List ℕ → Option ℤ
whole_in_text text = some_if (is_numeral (without_leading_sign text)) (signed_digits_value 10 text)

-- a whole number of so many bits, one of them for the sign
abbrev pub fits : ℕ → ℤ → Bool
fits bits n = int_le (neg_ℤ (pos (2 ^ (bits - 1)))) n && int_le n (pos (2 ^ (bits - 1) - 1))

abbrev pub int_in_text : ℕ → List ℕ → Option ℤ
int_in_text bits text = whole_in_text text >>= λ n. some_if (fits bits n) n

abbrev pub truth_in_text : List ℕ → Option Bool
truth_in_text text =
    first_case
    ((bytes_eq text (codes "t") || bytes_eq text (codes "true"), Some true)
    ∷ (bytes_eq text (codes "f") || bytes_eq text (codes "false"), Some false)
    ∷ [])
    None

-- a uuid: 32 hexadecimal digits, or the hyphenated form, alone, in braces or behind `urn:uuid:`
abbrev pub uuid_in_text : List ℕ → Option ℕ
uuid_in_text text = option_map (from_be_bytes w128) (parsed text)

-- the value of a text in a kind; no text is read in an opaque kind or in a JSON kind
abbrev pub value_in_text : Kind → List ℕ → Option Value
value_in_text kind.Int2 text = option_map Int (int_in_text 16 text)
value_in_text kind.Int4 text = option_map Int (int_in_text 32 text)
value_in_text kind.Int8 text = option_map Int (int_in_text 64 text)
value_in_text kind.Text text = Some (Text text)
value_in_text kind.Varchar text = Some (Text text)
value_in_text kind.Bool text = option_map Truth (truth_in_text text)
value_in_text kind.Uuid text = option_map Uuid (uuid_in_text text)
value_in_text kind.Timestamptz text = option_map Moment (moment_in_text text)
value_in_text kind.Json text = None
value_in_text kind.Opaque text = None
