-- How a reader goes on, a byte at a time. It is the middle between the grammar and the code, and computes the tree of a text.
use Rattle.std.specs.Prelude.{ℕ, zero, suc, ◌+◌, ◌*◌, Bool, true, false, ◌==◌, ◌||◌, ◌&&◌, not, nat_le, nat_lt, if◌then◌else◌, List, [], ◌∷◌, ◌++◌, length, Option, Some, None, encode_utf8}
use lib.Utf8.{scalar}
use Rattle.rt_value.specs.Places.{Answer, next, ends, stuck}
use Rattle.rt_json.specs.Text.{is_digit, short_escape, hex_value, is_high, is_low, pair_code}
use Rattle.rt_json.specs.Grammar.{is_blank, member, max_levels}
use Rattle.rt_json.specs.declared.tree.Json.{Json}
use Rattle.rt_json.specs.declared.tree.Json.TheVariants as j
use Rattle.rt_json.specs.declared.tree.named.Member.{Member}
use Rattle.rt_json.specs.declared.state.Frame.{Frame}
use Rattle.rt_json.specs.declared.state.Frame.TheVariants as frame
use Rattle.rt_json.specs.declared.state.Mode.{Mode}
use Rattle.rt_json.specs.declared.state.Mode.TheVariants as mode
use Rattle.rt_json.specs.declared.bytes.Class.{Class}
use Rattle.rt_json.specs.declared.bytes.Class.TheVariants as c
use Rattle.rt_json.specs.declared.bytes.Word.{Word}
use Rattle.rt_json.specs.declared.bytes.Word.TheVariants as w
use Rattle.rt_json.specs.declared.bytes.Digits.{Digits}
use Rattle.rt_json.specs.declared.bytes.Digits.TheVariants as d
use Rattle.rt_json.specs.declared.bytes.Tail.{Tail}
use Rattle.rt_json.specs.declared.bytes.Tail.TheVariants as tail

unfoldable pub class_of : ℕ → Class
class_of b =
    if is_blank b then c.Blank else
    (if b == 34 then c.Quote else
    (if b == 44 then c.Comma else
    (if b == 45 then c.NumberStart d.Minus else
    (if b == 48 then c.NumberStart d.Zero else
    (if is_digit b then c.NumberStart d.Whole else
    (if b == 58 then c.Colon else
    (if b == 91 then c.LeftBracket else
    (if b == 93 then c.RightBracket else
    (if b == 102 then c.WordStart w.False else
    (if b == 110 then c.WordStart w.Null else
    (if b == 116 then c.WordStart w.True else
    (if b == 123 then c.LeftBrace else
    (if b == 125 then c.RightBrace else c.Other)))))))))))))

-- where a number goes on
abbrev pub digits_after : Digits → ℕ → Option Digits
digits_after d.Minus b = if b == 48 then Some d.Zero else (if is_digit b then Some d.Whole else None)
digits_after d.Zero b = if b == 46 then Some d.Point else (if (b == 101) || (b == 69) then Some d.Mark else None)
digits_after d.Whole b = if is_digit b then Some d.Whole else (if b == 46 then Some d.Point else (if (b == 101) || (b == 69) then Some d.Mark else None))
digits_after d.Point b = if is_digit b then Some d.Fraction else None
digits_after d.Fraction b = if is_digit b then Some d.Fraction else (if (b == 101) || (b == 69) then Some d.Mark else None)
digits_after d.Mark b = if is_digit b then Some d.Exponent else (if (b == 43) || (b == 45) then Some d.Sign else None)
digits_after d.Sign b = if is_digit b then Some d.Exponent else None
digits_after d.Exponent b = if is_digit b then Some d.Exponent else None

-- where a number may end
abbrev pub may_end : Digits → Bool
may_end d.Zero = true
may_end d.Whole = true
may_end d.Fraction = true
may_end d.Exponent = true
may_end _ = false

-- a byte of a character after its first
abbrev pub in_tail : Tail → ℕ → Bool
in_tail tail.Any b = nat_le 128 b && nat_lt b 192
in_tail tail.FromA0 b = nat_le 160 b && nat_lt b 192
in_tail tail.UpTo9F b = nat_le 128 b && nat_lt b 160
in_tail tail.From90 b = nat_le 144 b && nat_lt b 192
in_tail tail.UpTo8F b = nat_le 128 b && nat_lt b 144

-- what follows the first byte of a character: the byte after it, and how many more
unfoldable pub lead : ℕ → Option (Tail × ℕ)
lead b =
    if nat_lt b 194 then None else
    (if nat_lt b 224 then Some (tail.Any, 0) else
    (if b == 224 then Some (tail.FromA0, 1) else
    (if b == 237 then Some (tail.UpTo9F, 1) else
    (if nat_lt b 240 then Some (tail.Any, 1) else
    (if b == 240 then Some (tail.From90, 2) else
    (if nat_lt b 244 then Some (tail.Any, 2) else
    (if b == 244 then Some (tail.UpTo8F, 2) else None)))))))

-- which half of a pair a unit is, and the high one before it
pub data Half : Type 0 where
  first_unit : Half
  second_unit : ℕ → Half

-- where in a text
pub data Inner : Type 0 where
  -- between two characters
  between : Inner
  -- within a character: its next byte, and how many more
  filling : Tail → ℕ → Inner
  -- behind a backslash
  escape : Inner
  -- behind `\u` and so many digits, with their value
  unit0 : Half → Inner
  unit1 : Half → ℕ → Inner
  unit2 : Half → ℕ → Inner
  unit3 : Half → ℕ → Inner
  -- behind a high surrogate, and the backslash behind it
  high : ℕ → Inner
  high_backslash : ℕ → Inner

pub data TextAnswer : Type 0 where
  goes : List ℕ → Inner → TextAnswer
  closed : TextAnswer
  broken : TextAnswer

abbrev pub led : List ℕ → Option (Tail × ℕ) → TextAnswer
led text None = broken
led text (Some (t, more)) = goes text (filling t more)

abbrev pub text_between : List ℕ → ℕ → TextAnswer
text_between text b =
    if b == 34 then closed else (if b == 92 then goes text escape else (if nat_lt b 32 then broken else
    (if nat_lt b 128 then goes (text ++ b ∷ []) between else led (text ++ b ∷ []) (lead b))))

abbrev pub awaiting : ℕ → Inner
awaiting zero = between
awaiting (suc more) = filling tail.Any more

abbrev pub escaped : List ℕ → ℕ → Option ℕ → TextAnswer
escaped text b (Some c) = goes (text ++ c ∷ []) between
escaped text b None = if b == 117 then goes text (unit0 first_unit) else broken

-- the first digit of a low surrogate is 13, and its first two make 220 to 223
abbrev pub first_digit : Half → ℕ → Bool
first_digit first_unit v = true
first_digit (second_unit u) v = v == 13

abbrev pub is_low_front : ℕ → Bool
is_low_front v = nat_le 220 v && nat_lt v 224

abbrev pub two_digits : Half → ℕ → Bool
two_digits first_unit v = not (is_low_front v)
two_digits (second_unit u) v = is_low_front v

abbrev pub unit_ended : List ℕ → Half → ℕ → TextAnswer
unit_ended text first_unit u = if scalar u then goes (text ++ encode_utf8 u) between else (if is_high u then goes text (high u) else broken)
unit_ended text (second_unit h) u = if is_low u then goes (text ++ encode_utf8 (pair_code h u)) between else broken

abbrev pub first_read : List ℕ → Half → Option ℕ → TextAnswer
first_read text half None = broken
first_read text half (Some v) = if first_digit half v then goes text (unit1 half v) else broken

abbrev pub second_read : List ℕ → Half → ℕ → Option ℕ → TextAnswer
second_read text half v None = broken
second_read text half v (Some x) = if two_digits half (v * 16 + x) then goes text (unit2 half (v * 16 + x)) else broken

abbrev pub third_read : List ℕ → Half → ℕ → Option ℕ → TextAnswer
third_read text half v None = broken
third_read text half v (Some x) = goes text (unit3 half (v * 16 + x))

abbrev pub fourth_read : List ℕ → Half → ℕ → Option ℕ → TextAnswer
fourth_read text half v None = broken
fourth_read text half v (Some x) = unit_ended text half (v * 16 + x)

-- a byte of a text
abbrev pub text_step : List ℕ → Inner → ℕ → TextAnswer
text_step text between b = text_between text b
text_step text (filling t more) b = if in_tail t b then goes (text ++ b ∷ []) (awaiting more) else broken
text_step text escape b = escaped text b (short_escape b)
text_step text (unit0 half) b = first_read text half (hex_value b)
text_step text (unit1 half v) b = second_read text half v (hex_value b)
text_step text (unit2 half v) b = third_read text half v (hex_value b)
text_step text (unit3 half v) b = fourth_read text half v (hex_value b)
text_step text (high u) b = if b == 92 then goes text (high_backslash u) else broken
text_step text (high_backslash u) b = if b == 117 then goes text (unit0 (second_unit u)) else broken

-- what a text is: a value, or the name of a member behind others
pub data Slot : Type 0 where
  as_value : Slot
  as_name : List Member → Slot

pub data State : Type 0 where
  -- outside of words, numbers and texts
  outside : List Frame → Mode → State
  -- in a word: its next byte, and the others
  in_word : List Frame → ℕ → List ℕ → Json → State
  in_number : List Frame → Digits → List ℕ → State
  in_text : List Frame → Slot → List ℕ → Inner → State

-- a value is read
abbrev pub completed : List Frame → Json → State
completed [] tree = outside [] (mode.Done tree)
completed (frame.Item items ∷ outer) tree = outside outer (mode.AfterItem (items ++ tree ∷ []))
completed (frame.Member members name ∷ outer) tree = outside outer (mode.AfterMember (members ++ member name tree ∷ []))

-- a text is read
abbrev pub given : List Frame → Slot → List ℕ → State
given stack as_value t = completed stack (j.Text t)
given stack (as_name members) t = outside stack (mode.Colon members t)

-- a list or an object may begin where fewer than so many are open
abbrev pub opened : ℕ → List Frame → Mode → Answer State Json
opened levels stack m = if nat_lt (length stack) levels then next (outside stack m) else stuck

abbrev pub word_begun : List Frame → Word → State
word_begun stack w.Null = in_word stack 117 (108 ∷ 108 ∷ []) j.Null
word_begun stack w.True = in_word stack 114 (117 ∷ 101 ∷ []) (j.Bool true)
word_begun stack w.False = in_word stack 97 (108 ∷ 115 ∷ 101 ∷ []) (j.Bool false)

abbrev pub begun : ℕ → List Frame → ℕ → Class → Answer State Json
begun levels stack b c.Quote = next (in_text stack as_value [] between)
begun levels stack b (c.NumberStart digits) = next (in_number stack digits (b ∷ []))
begun levels stack b (c.WordStart which) = next (word_begun stack which)
begun levels stack b c.LeftBracket = opened levels stack mode.FirstItem
begun levels stack b c.LeftBrace = opened levels stack mode.FirstName
begun levels stack b _ = stuck

abbrev pub at_value : ℕ → List Frame → ℕ → Class → Answer State Json
at_value levels stack b c.Blank = next (outside stack mode.Value)
at_value levels stack b class = begun levels stack b class

abbrev pub at_first_item : ℕ → List Frame → ℕ → Class → Answer State Json
at_first_item levels stack b c.Blank = next (outside stack mode.FirstItem)
at_first_item levels stack b c.RightBracket = next (completed stack (j.List []))
at_first_item levels stack b class = begun levels (frame.Item [] ∷ stack) b class

abbrev pub after_item : List Frame → List Json → Class → Answer State Json
after_item stack items c.Blank = next (outside stack (mode.AfterItem items))
after_item stack items c.Comma = next (outside (frame.Item items ∷ stack) mode.Value)
after_item stack items c.RightBracket = next (completed stack (j.List items))
after_item stack items _ = stuck

abbrev pub at_first_name : List Frame → Class → Answer State Json
at_first_name stack c.Blank = next (outside stack mode.FirstName)
at_first_name stack c.RightBrace = next (completed stack (j.Object []))
at_first_name stack c.Quote = next (in_text stack (as_name []) [] between)
at_first_name stack _ = stuck

abbrev pub at_name : List Frame → List Member → Class → Answer State Json
at_name stack members c.Blank = next (outside stack (mode.Name members))
at_name stack members c.Quote = next (in_text stack (as_name members) [] between)
at_name stack members _ = stuck

abbrev pub at_colon : List Frame → List Member → List ℕ → Class → Answer State Json
at_colon stack members t c.Blank = next (outside stack (mode.Colon members t))
at_colon stack members t c.Colon = next (outside (frame.Member members t ∷ stack) mode.Value)
at_colon stack members t _ = stuck

abbrev pub after_member : List Frame → List Member → Class → Answer State Json
after_member stack members c.Blank = next (outside stack (mode.AfterMember members))
after_member stack members c.Comma = next (outside stack (mode.Name members))
after_member stack members c.RightBrace = next (completed stack (j.Object members))
after_member stack members _ = stuck

abbrev pub after_all : List Frame → Json → Class → Answer State Json
after_all stack tree c.Blank = next (outside stack (mode.Done tree))
after_all stack tree _ = stuck

abbrev pub outside_next : ℕ → List Frame → Mode → ℕ → Class → Answer State Json
outside_next levels stack mode.Value b class = at_value levels stack b class
outside_next levels stack mode.FirstItem b class = at_first_item levels stack b class
outside_next levels stack (mode.AfterItem items) b class = after_item stack items class
outside_next levels stack mode.FirstName b class = at_first_name stack class
outside_next levels stack (mode.Name members) b class = at_name stack members class
outside_next levels stack (mode.Colon members t) b class = at_colon stack members t class
outside_next levels stack (mode.AfterMember members) b class = after_member stack members class
outside_next levels stack (mode.Done tree) b class = after_all stack tree class

abbrev pub word_left : List Frame → List ℕ → Json → State
word_left stack [] tree = completed stack tree
word_left stack (b ∷ bs) tree = in_word stack b bs tree

-- the byte behind a value that is read
abbrev pub past_value : List Frame → Json → Class → Answer State Json
past_value [] tree class = after_all [] tree class
past_value (frame.Item items ∷ outer) tree class = after_item outer (items ++ tree ∷ []) class
past_value (frame.Member members name ∷ outer) tree class = after_member outer (members ++ member name tree ∷ []) class

abbrev pub number_next : List Frame → List ℕ → ℕ → Bool → Option Digits → Answer State Json
number_next stack t b may (Some digits) = next (in_number stack digits (t ++ b ∷ []))
number_next stack t b may None = if may then past_value stack (j.Num t) (class_of b) else stuck

abbrev pub text_next : List Frame → Slot → List ℕ → TextAnswer → Answer State Json
text_next stack slot t (goes more inner) = next (in_text stack slot more inner)
text_next stack slot t closed = next (given stack slot t)
text_next stack slot t broken = stuck

abbrev pub byte_step : ℕ → State → ℕ → Answer State Json
byte_step levels (outside stack m) b = outside_next levels stack m b (class_of b)
byte_step levels (in_word stack wanted bs tree) b = if b == wanted then next (word_left stack bs tree) else stuck
byte_step levels (in_number stack digits t) b = number_next stack t b (may_end digits) (digits_after digits b)
byte_step levels (in_text stack slot t inner) b = text_next stack slot t (text_step t inner b)

-- the end of the bytes
abbrev pub number_ended : List Frame → List ℕ → Bool → Answer State Json
number_ended [] t true = ends (j.Num t)
number_ended _ t _ = stuck

abbrev pub end_step : State → Answer State Json
end_step (outside stack (mode.Done tree)) = ends tree
end_step (in_number stack digits t) = number_ended stack t (may_end digits)
end_step _ = stuck

abbrev pub step : ℕ → State → Option ℕ → Answer State Json
step levels s (Some b) = byte_step levels s b
step levels s None = end_step s

abbrev pub start : State
start = outside [] mode.Value

-- a list or an object begins where too many are open
abbrev pub opens : Class → Bool
opens c.LeftBracket = true
opens c.LeftBrace = true
opens _ = false

abbrev pub is_deep : ℕ → State → ℕ → Bool
is_deep levels (outside stack mode.Value) b = opens (class_of b) && not (nat_lt (length stack) levels)
is_deep levels (outside stack mode.FirstItem) b = opens (class_of b) && not (nat_lt (suc (length stack)) levels)
is_deep levels _ b = false

-- What reading gives: the tree, or how many bytes are left from the first that can't go on.
pub data Outcome : Type 0 where
  is_tree : Json → Outcome
  bad : ℕ → Outcome
  too_deep : ℕ → Outcome

abbrev pub finished : Answer State Json → Outcome
finished (ends t) = is_tree t
finished _ = bad 0

abbrev pub stopped : Bool → ℕ → Outcome
stopped true left = too_deep left
stopped false left = bad left

abbrev pub goes_on : (State → Outcome) → Bool → ℕ → Answer State Json → Outcome
goes_on more is left (next s) = more s
goes_on more is left (ends t) = stopped is left
goes_on more is left stuck = stopped is left

abbrev pub outcome : State → List ℕ → Outcome
outcome s [] = finished (end_step s)
outcome s (b ∷ bs) = goes_on (λ t. outcome t bs) (is_deep max_levels s b) (length (b ∷ bs)) (byte_step max_levels s b)

abbrev pub tree_in : Outcome → Option Json
tree_in (is_tree t) = Some t
tree_in (bad left) = None
tree_in (too_deep left) = None

-- The tree of a text, if it is one. That it is the tree of the grammar is a law of the crate.
unfoldable pub tree_of : List ℕ → Option Json
tree_of bytes = tree_in (outcome start bytes)
