-- In every sound state some bytes lead to the end, and a step leads to sound states.
use Rattle.std.proofs.Common.{◌≡◌, ℕ, zero, suc, ◌+◌, ◌*◌, ◌<◌, ◌≤◌, ◌⊎◌, inl, inr, Bool, true, false, List, [], ◌∷◌, ◌++◌, Option, Some, None, refl, length, arith, not}
use Rattle.std.specs.Prelude.{◌==◌, nat_lt, encode_utf8}
use Rattle.std.proofs.lemmas.Bool.{cond_both, eqb-true}
use lib.Utf8.{scalar, low_scalar}
use Rattle.rt_value.specs.Places.{Answer, next, ends, stuck}
use Rattle.rt_value.proofs.Places.{IsSoundNext}
use Rattle.rt_json.specs.Text as t
use Rattle.rt_json.specs.Text.{hex_value, short_escape, is_high, is_low}
use Rattle.rt_json.specs.Grammar as g
use Rattle.rt_json.specs.Grammar.{AreBlanks, member}
use Rattle.rt_json.specs.Machine as m
use Rattle.rt_json.specs.Machine.{Inner, Half, Slot, State, TextAnswer, class_of, digits_after, may_end, step}
use Rattle.rt_json.specs.declared.tree.Json.{Json}
use Rattle.rt_json.specs.declared.tree.Json.TheVariants as j
use Rattle.rt_json.specs.declared.tree.named.Member.{Member}
use Rattle.rt_json.specs.declared.state.Frame.{Frame}
use Rattle.rt_json.specs.declared.state.Frame.TheVariants as frame
use Rattle.rt_json.specs.declared.state.Mode.{Mode}
use Rattle.rt_json.specs.declared.state.Mode.TheVariants as mode
use Rattle.rt_json.specs.declared.bytes.Class.{Class}
use Rattle.rt_json.specs.declared.bytes.Class.TheVariants as c
use Rattle.rt_json.specs.declared.bytes.Word.{Word}
use Rattle.rt_json.specs.declared.bytes.Word.TheVariants as w
use Rattle.rt_json.specs.declared.bytes.Digits.{Digits}
use Rattle.rt_json.specs.declared.bytes.Digits.TheVariants as d
use Rattle.rt_json.specs.declared.bytes.Tail.{Tail}
use Rattle.rt_json.specs.declared.bytes.Tail.TheVariants as tail
use Rattle.rt_json.proofs.Numbers.{number_ends}
use Rattle.rt_json.proofs.Utf8.{Fills, is_a_scalar}
use Rattle.rt_json.proofs.Hex.{hex_small, low_by, is_high_by, front_range, no_front}
use Rattle.rt_json.proofs.Rest.{Behind, BehindValue, BehindItem, BehindMember, AtValue, AtName, AtColon, Outside, AtRest, BehindUnit, Unit0, Unit1, Unit2, Unit3, InText, BehindText, Rest, inside, left}
use Rattle.rt_json.proofs.ByteTests.{order}

-- digits that can still become a unit
abbrev SoundInner : Inner → Type 0
SoundInner (m.unit1 m.first_unit v) = v < 16
SoundInner (m.unit1 (m.second_unit u) v) = v ≡ 13
SoundInner (m.unit2 m.first_unit v) = (v < 256) × ((v < 220) ⊎ (224 ≤ v))
SoundInner (m.unit2 (m.second_unit u) v) = (220 ≤ v) × (v < 224)
SoundInner (m.unit3 m.first_unit v) = (v < 4096) × ((v < 3520) ⊎ (3584 ≤ v))
SoundInner (m.unit3 (m.second_unit u) v) = (3520 ≤ v) × (v < 3584)
SoundInner _ = Unit {0}

abbrev pub Sound : State → Type 0
Sound (m.in_text stack slot text inner) = SoundInner inner
Sound _ = Unit {0}

abbrev Ends : (List ℕ → Json → Type 0) → Type 0
Ends P = (zs : List ℕ) × (out : Json) × P zs out

value_some : (levels : ℕ) (stack : List Frame) (v : Json) → Ends (BehindValue levels stack v)
value_some levels [] v = ([], v, (g.no_blank, refl))
value_some levels (frame.Item items ∷ outer) v =
    let all : List Json = items ++ v ∷ [] in let k = value_some levels outer (j.List all) in (93 ∷ k.0, k.1, (all, k.0, g.close_list g.no_blank, k.2))
value_some levels (frame.Member members name ∷ outer) v =
    let all : List Member = members ++ member name v ∷ [] in let k = value_some levels outer (j.Object all) in (125 ∷ k.0, k.1, (all, k.0, g.close_object g.no_blank, k.2))

items_some : (levels : ℕ) (stack : List Frame) (items : List Json) → Ends (BehindItem (BehindValue levels stack) (inside levels stack) items)
items_some levels stack items = let k = value_some levels stack (j.List items) in (93 ∷ k.0, k.1, (items, k.0, g.close_list g.no_blank, k.2))

members_some : (levels : ℕ) (stack : List Frame) (members : List Member) → Ends (BehindMember (BehindValue levels stack) (inside levels stack) members)
members_some levels stack members = let k = value_some levels stack (j.Object members) in (125 ∷ k.0, k.1, (members, k.0, g.close_object g.no_blank, k.2))

abbrev null_and : List ℕ → List ℕ
null_and zs = 110 ∷ 117 ∷ 108 ∷ 108 ∷ zs

at_value_some : (levels : ℕ) (stack : List Frame) → Ends (AtValue (BehindValue levels stack) (left levels stack))
at_value_some levels stack = let k = value_some levels stack j.Null in (null_and k.0, k.1, (j.Null, null_and k.0, k.0, g.no_blank, g.null, k.2))

colon_some : (levels : ℕ) (stack : List Frame) (members : List Member) (name : List ℕ) → Ends (AtColon (BehindValue levels stack) (inside levels stack) members name)
colon_some levels stack members name =
    let k = members_some levels stack (members ++ member name j.Null ∷ []) in
    (58 ∷ null_and k.0, k.1, (j.Null, null_and k.0, null_and k.0, k.0, g.no_blank, g.no_blank, g.null, k.2))

name_some : (levels : ℕ) (stack : List Frame) (members : List Member) → Ends (AtName (BehindValue levels stack) (inside levels stack) members)
name_some levels stack members =
    let one : Member = member [] j.Null in let k = members_some levels stack (members ++ one ∷ []) in
    (34 ∷ 34 ∷ 58 ∷ null_and k.0, k.1, (one, k.0, g.named g.no_blank (t.quoted t.quote) g.no_blank g.no_blank g.null, k.2))

outside_some : (levels : ℕ) (stack : List Frame) (o : Mode) → Ends (Outside levels stack o)
outside_some levels stack mode.Value = at_value_some levels stack
outside_some levels stack mode.FirstItem = let k = value_some levels stack (j.List []) in (93 ∷ k.0, k.1, inl (k.0, g.no_blank, k.2))
outside_some levels stack (mode.AfterItem items) = items_some levels stack items
outside_some levels stack mode.FirstName = let k = value_some levels stack (j.Object []) in (125 ∷ k.0, k.1, inl (k.0, g.no_blank, k.2))
outside_some levels stack (mode.Name members) = name_some levels stack members
outside_some levels stack (mode.Colon members name) = colon_some levels stack members name
outside_some levels stack (mode.AfterMember members) = members_some levels stack members
outside_some levels stack (mode.Done tree) = ([], tree, (g.no_blank, refl))

-- texts
rest_some : (K : Behind (List ℕ)) → ((text : List ℕ) → Ends (K text)) → (text : List ℕ) → Ends (AtRest K text)
rest_some K some text = let k = some text in (34 ∷ k.0, k.1, (text, k.0, t.quote, k.2))

fills_some : (kind : Tail) (count : ℕ) → (more : List ℕ) × Fills kind count more
fills_some tail.Any zero = (128 ∷ [], (refl, refl))
fills_some tail.FromA0 zero = (160 ∷ [], (refl, refl))
fills_some tail.UpTo9F zero = (128 ∷ [], (refl, refl))
fills_some tail.From90 zero = (144 ∷ [], (refl, refl))
fills_some tail.UpTo8F zero = (128 ∷ [], (refl, refl))
fills_some tail.Any (suc count) = let k = fills_some tail.Any count in (128 ∷ k.0, (refl, k.1))
fills_some tail.FromA0 (suc count) = let k = fills_some tail.Any count in (160 ∷ k.0, (refl, k.1))
fills_some tail.UpTo9F (suc count) = let k = fills_some tail.Any count in (128 ∷ k.0, (refl, k.1))
fills_some tail.From90 (suc count) = let k = fills_some tail.Any count in (144 ∷ k.0, (refl, k.1))
fills_some tail.UpTo8F (suc count) = let k = fills_some tail.Any count in (128 ∷ k.0, (refl, k.1))

module _ (K : Behind (List ℕ)) (some : (text : List ℕ) → Ends (K text)) (text : List ℕ) where
  second_unit_some : (h u : ℕ) → 56320 ≤ u → u < 57344 → Ends (BehindUnit K text (m.second_unit h) u)
  second_unit_some h u l r = let k = rest_some K some (text ++ encode_utf8 (t.pair_code h u)) in (k.0, k.1, (low_by u l r, k.2))

  first_unit_some : (u : ℕ) → u < 65536 → (u < 56320) ⊎ (57344 ≤ u) → Ends (BehindUnit K text m.first_unit u)
  first_unit_some u top s = by (order u 55296) s
    where
      as_scalar : scalar u ≡ true → Ends (BehindUnit K text m.first_unit u)
      as_scalar e = let k = rest_some K some (text ++ encode_utf8 u) in (k.0, k.1, inl (e, k.2))

      by : (u < 55296) ⊎ (55296 ≤ u) → (u < 56320) ⊎ (57344 ≤ u) → Ends (BehindUnit K text m.first_unit u)
      by (inl a) _ = as_scalar (low_scalar u a)
      by (inr a) (inr b) = as_scalar (is_a_scalar u (omega (arith, top)) (inr b))
      by (inr a) (inl b) =
          let k = rest_some K some (text ++ encode_utf8 (t.pair_code u 56320)) in (
            92 ∷ 117 ∷ 100 ∷ 99 ∷ 48 ∷ 48 ∷ k.0,
            k.1,
            inr (is_high_by u a b, 56320, 100 ∷ 99 ∷ 48 ∷ 48 ∷ k.0, k.0, refl, t.four {p = 13} {q = 12} {r = 0} {s = 0} refl refl refl refl, refl, k.2),
          )

  unit3_some : (half : Half) (v : ℕ) → SoundInner (m.unit3 half v) → Ends (Unit3 K text half v)
  unit3_some m.first_unit v s =
      let k = first_unit_some (v * 16 + 0) (omega (arith, s.0)) (elim s.1 [ inl h ↦ inl (omega (arith, h)) | inr h ↦ inr (omega (arith, h)) ]) in
      (48 ∷ k.0, k.1, (48, 0, k.0, refl, refl, k.2))
  unit3_some (m.second_unit h) v s = let k = second_unit_some h (v * 16 + 0) (omega (arith, s.0)) (omega (arith, s.1)) in (48 ∷ k.0, k.1, (48, 0, k.0, refl, refl, k.2))

  unit2_some : (half : Half) (v : ℕ) → SoundInner (m.unit2 half v) → Ends (Unit2 K text half v)
  unit2_some m.first_unit v s =
      let k = unit3_some m.first_unit (v * 16 + 0) (omega (arith, s.0), elim s.1 [ inl h ↦ inl (omega (arith, h)) | inr h ↦ inr (omega (arith, h)) ]) in
      (48 ∷ k.0, k.1, (48, 0, k.0, refl, refl, k.2))
  unit2_some (m.second_unit h) v s = let k = unit3_some (m.second_unit h) (v * 16 + 0) (omega (arith, s.0), omega (arith, s.1)) in (48 ∷ k.0, k.1, (48, 0, k.0, refl, refl, k.2))

  unit1_some : (half : Half) (v : ℕ) → SoundInner (m.unit1 half v) → Ends (Unit1 K text half v)
  unit1_some m.first_unit v s =
      let k = unit2_some m.first_unit (v * 16 + 0) (omega (arith, s), elim (order v 14) [ inl h ↦ inl (omega (arith, h)) | inr h ↦ inr (omega (arith, h)) ]) in
      (48 ∷ k.0, k.1, (48, 0, k.0, refl, refl, k.2))
  unit1_some (m.second_unit h) v s = let k = unit2_some (m.second_unit h) (v * 16 + 12) (omega (arith, s), omega (arith, s)) in (99 ∷ k.0, k.1, (99, 12, k.0, refl, refl, k.2))

  unit0_some : (half : Half) → Ends (Unit0 K text half)
  unit0_some m.first_unit = let k = unit1_some m.first_unit 0 (omega arith) in (48 ∷ k.0, k.1, (48, 0, k.0, refl, refl, k.2))
  unit0_some (m.second_unit h) = let k = unit1_some (m.second_unit h) 13 refl in (100 ∷ k.0, k.1, (100, 13, k.0, refl, refl, k.2))

  text_some : (inner : Inner) → SoundInner inner → Ends (InText K text inner)
  text_some m.between s = rest_some K some text
  text_some (m.filling kind count) s =
      let f = fills_some kind count in let k = rest_some K some (text ++ f.0) in (f.0 ++ k.0, k.1, (f.0, k.0, refl, f.1, k.2))
  text_some m.escape s = let k = rest_some K some (text ++ 10 ∷ []) in (110 ∷ k.0, k.1, inl (110, 10, k.0, refl, refl, k.2))
  text_some (m.unit0 half) s = unit0_some half
  text_some (m.unit1 half v) s = unit1_some half v s
  text_some (m.unit2 half v) s = unit2_some half v s
  text_some (m.unit3 half v) s = unit3_some half v s
  text_some (m.high u) s = let k = unit0_some (m.second_unit u) in (92 ∷ 117 ∷ k.0, k.1, (k.0, refl, k.2))
  text_some (m.high_backslash u) s = let k = unit0_some (m.second_unit u) in (117 ∷ k.0, k.1, (k.0, refl, k.2))

behind_text_some : (levels : ℕ) (stack : List Frame) (slot : Slot) (text : List ℕ) → Ends (BehindText levels stack slot text)
behind_text_some levels stack m.as_value text = value_some levels stack (j.Text text)
behind_text_some levels stack (m.as_name members) text = colon_some levels stack members text

-- the digits that complete a number
digits_some : (s : Digits) → (more : List ℕ) × (number_ends s more ≡ true)
digits_some d.Minus = (48 ∷ [], refl)
digits_some d.Zero = ([], refl)
digits_some d.Whole = ([], refl)
digits_some d.Point = (48 ∷ [], refl)
digits_some d.Fraction = ([], refl)
digits_some d.Mark = (48 ∷ [], refl)
digits_some d.Sign = (48 ∷ [], refl)
digits_some d.Exponent = ([], refl)

pub state_some : (levels : ℕ) (s : State) → Sound s → Ends (Rest levels s)
state_some levels (m.outside stack o) s = outside_some levels stack o
state_some levels (m.in_word stack b bs tree) s = let k = value_some levels stack tree in ((b ∷ bs) ++ k.0, k.1, (k.0, refl, k.2))
state_some levels (m.in_number stack digits text) s =
    let f = digits_some digits in let k = value_some levels stack (j.Num (text ++ f.0)) in (f.0 ++ k.0, k.1, (f.0, k.0, refl, f.1, k.2))
state_some levels (m.in_text stack slot text inner) s = text_some (BehindText levels stack slot) (behind_text_some levels stack slot) text inner s

-- a byte leads to sound states, and never to an end
abbrev pub IsNext : Answer State Json → Type 0
IsNext (next s) = Sound s
IsNext (ends t) = ⊥
IsNext stuck = Unit {0}

completed_sound : (stack : List Frame) (v : Json) → Sound (m.completed stack v)
completed_sound [] v = tt
completed_sound (frame.Item items ∷ outer) v = tt
completed_sound (frame.Member members name ∷ outer) v = tt

opened_sound : (levels : ℕ) (stack : List Frame) (o : Mode) → IsNext (m.opened levels stack o)
opened_sound levels stack o = cond_both (nat_lt (length stack) levels) _ _ IsNext (λ _. tt) (λ _. tt)

word_sound : (stack : List Frame) (which : Word) → Sound (m.word_begun stack which)
word_sound stack w.Null = tt
word_sound stack w.True = tt
word_sound stack w.False = tt

begun_sound : (levels : ℕ) (stack : List Frame) (b : ℕ) (class : Class) → IsNext (m.begun levels stack b class)
begun_sound levels stack b c.Quote = tt
begun_sound levels stack b (c.NumberStart digits) = tt
begun_sound levels stack b (c.WordStart which) = word_sound stack which
begun_sound levels stack b c.LeftBracket = opened_sound levels stack mode.FirstItem
begun_sound levels stack b c.LeftBrace = opened_sound levels stack mode.FirstName
begun_sound levels stack b _ = tt

after_item_sound : (stack : List Frame) (items : List Json) (class : Class) → IsNext (m.after_item stack items class)
after_item_sound stack items c.RightBracket = completed_sound stack (j.List items)
after_item_sound stack items c.Blank = tt
after_item_sound stack items c.Comma = tt
after_item_sound stack items _ = tt

after_member_sound : (stack : List Frame) (members : List Member) (class : Class) → IsNext (m.after_member stack members class)
after_member_sound stack members c.RightBrace = completed_sound stack (j.Object members)
after_member_sound stack members c.Blank = tt
after_member_sound stack members c.Comma = tt
after_member_sound stack members _ = tt

after_all_sound : (stack : List Frame) (tree : Json) (class : Class) → IsNext (m.after_all stack tree class)
after_all_sound stack tree c.Blank = tt
after_all_sound stack tree _ = tt

outside_sound : (levels : ℕ) (stack : List Frame) (o : Mode) (b : ℕ) (class : Class) → IsNext (m.outside_next levels stack o b class)
outside_sound levels stack mode.Value b c.Blank = tt
outside_sound levels stack mode.Value b class = begun_sound levels stack b class
outside_sound levels stack mode.FirstItem b c.Blank = tt
outside_sound levels stack mode.FirstItem b c.RightBracket = completed_sound stack (j.List [])
outside_sound levels stack mode.FirstItem b class = begun_sound levels (frame.Item [] ∷ stack) b class
outside_sound levels stack (mode.AfterItem items) b class = after_item_sound stack items class
outside_sound levels stack mode.FirstName b c.Blank = tt
outside_sound levels stack mode.FirstName b c.Quote = tt
outside_sound levels stack mode.FirstName b c.RightBrace = completed_sound stack (j.Object [])
outside_sound levels stack mode.FirstName b _ = tt
outside_sound levels stack (mode.Name members) b c.Blank = tt
outside_sound levels stack (mode.Name members) b c.Quote = tt
outside_sound levels stack (mode.Name members) b _ = tt
outside_sound levels stack (mode.Colon members name) b c.Blank = tt
outside_sound levels stack (mode.Colon members name) b c.Colon = tt
outside_sound levels stack (mode.Colon members name) b _ = tt
outside_sound levels stack (mode.AfterMember members) b class = after_member_sound stack members class
outside_sound levels stack (mode.Done tree) b class = after_all_sound stack tree class

past_sound : (stack : List Frame) (v : Json) (class : Class) → IsNext (m.past_value stack v class)
past_sound [] v class = after_all_sound [] v class
past_sound (frame.Item items ∷ outer) v class = after_item_sound outer (items ++ v ∷ []) class
past_sound (frame.Member members name ∷ outer) v class = after_member_sound outer (members ++ member name v ∷ []) class

left_sound : (stack : List Frame) (bs : List ℕ) (tree : Json) → Sound (m.word_left stack bs tree)
left_sound stack [] tree = completed_sound stack tree
left_sound stack (b ∷ bs) tree = tt

number_sound : (stack : List Frame) (text : List ℕ) (b : ℕ) (may : Bool) (o : Option Digits) → IsNext (m.number_next stack text b may o)
number_sound stack text b may (Some digits) = tt
number_sound stack text b true None = past_sound stack (j.Num text) (class_of b)
number_sound stack text b false None = tt

-- the same of a text
abbrev IsTextNext : TextAnswer → Type 0
IsTextNext (m.goes text inner) = SoundInner inner
IsTextNext m.closed = Unit {0}
IsTextNext m.broken = Unit {0}

led_sound : (text : List ℕ) (o : Option (Tail × ℕ)) → IsTextNext (m.led text o)
led_sound text None = tt
led_sound text (Some (kind, count)) = tt

between_sound : (text : List ℕ) (b : ℕ) → IsTextNext (m.text_between text b)
between_sound text b =
    cond_both (b == 34) _ _ IsTextNext (λ _. tt) (λ _. cond_both (b == 92) _ _ IsTextNext (λ _. tt) (λ _. cond_both (nat_lt b 32) _ _ IsTextNext (λ _. tt)
    (λ _. cond_both (nat_lt b 128) _ _ IsTextNext (λ _. tt) (λ _. led_sound (text ++ b ∷ []) (m.lead b)))))

filled_sound : (count : ℕ) → SoundInner (m.awaiting count)
filled_sound zero = tt
filled_sound (suc count) = tt

escaped_sound : (text : List ℕ) (b : ℕ) (o : Option ℕ) → IsTextNext (m.escaped text b o)
escaped_sound text b (Some ch) = tt
escaped_sound text b None = cond_both (b == 117) _ _ IsTextNext (λ _. tt) (λ _. tt)

first_sound : (text : List ℕ) (half : Half) (b : ℕ) (o : Option ℕ) → hex_value b ≡ o → IsTextNext (m.first_read text half o)
first_sound text half b None e = tt
first_sound text m.first_unit b (Some v) e = hex_small b v e
first_sound text (m.second_unit h) b (Some v) e = cond_both (v == 13) _ _ IsTextNext (λ f. eqb-true v 13 f) (λ _. tt)

second_sound : (text : List ℕ) (half : Half) (v b : ℕ) (o : Option ℕ) → hex_value b ≡ o → SoundInner (m.unit1 half v) → IsTextNext (m.second_read text half v o)
second_sound text half v b None e s = tt
second_sound text m.first_unit v b (Some x) e s =
    let sm = hex_small b x e in
    cond_both (not (m.is_low_front (v * 16 + x))) _ _ IsTextNext (λ f. (omega (arith, s, sm), no_front (v * 16 + x) f)) (λ _. tt)
second_sound text (m.second_unit h) v b (Some x) e s = cond_both (m.is_low_front (v * 16 + x)) _ _ IsTextNext (λ f. front_range (v * 16 + x) f) (λ _. tt)

third_sound : (text : List ℕ) (half : Half) (v b : ℕ) (o : Option ℕ) → hex_value b ≡ o → SoundInner (m.unit2 half v) → IsTextNext (m.third_read text half v o)
third_sound text half v b None e s = tt
third_sound text m.first_unit v b (Some x) e s =
    let sm = hex_small b x e in (omega (arith, s.0, sm), elim s.1 [ inl h ↦ inl (omega (arith, h, sm)) | inr h ↦ inr (omega (arith, h)) ])
third_sound text (m.second_unit h) v b (Some x) e s = let sm = hex_small b x e in (omega (arith, s.0), omega (arith, s.1, sm))

unit_sound : (text : List ℕ) (half : Half) (u : ℕ) → IsTextNext (m.unit_ended text half u)
unit_sound text m.first_unit u = cond_both (scalar u) _ _ IsTextNext (λ _. tt) (λ _. cond_both (is_high u) _ _ IsTextNext (λ _. tt) (λ _. tt))
unit_sound text (m.second_unit h) u = cond_both (is_low u) _ _ IsTextNext (λ _. tt) (λ _. tt)

fourth_sound : (text : List ℕ) (half : Half) (v : ℕ) (o : Option ℕ) → IsTextNext (m.fourth_read text half v o)
fourth_sound text half v None = tt
fourth_sound text half v (Some x) = unit_sound text half (v * 16 + x)

text_sound : (text : List ℕ) (inner : Inner) (b : ℕ) → SoundInner inner → IsTextNext (m.text_step text inner b)
text_sound text m.between b s = between_sound text b
text_sound text (m.filling kind count) b s = cond_both (m.in_tail kind b) _ _ IsTextNext (λ _. filled_sound count) (λ _. tt)
text_sound text m.escape b s = escaped_sound text b (short_escape b)
text_sound text (m.unit0 half) b s = first_sound text half b (hex_value b) refl
text_sound text (m.unit1 half v) b s = second_sound text half v b (hex_value b) refl s
text_sound text (m.unit2 half v) b s = third_sound text half v b (hex_value b) refl s
text_sound text (m.unit3 half v) b s = fourth_sound text half v (hex_value b)
text_sound text (m.high u) b s = cond_both (b == 92) _ _ IsTextNext (λ _. tt) (λ _. tt)
text_sound text (m.high_backslash u) b s = cond_both (b == 117) _ _ IsTextNext (λ _. tt) (λ _. tt)

given_sound : (stack : List Frame) (slot : Slot) (text : List ℕ) → Sound (m.given stack slot text)
given_sound stack m.as_value text = completed_sound stack (j.Text text)
given_sound stack (m.as_name members) text = tt

next_sound : (stack : List Frame) (slot : Slot) (text : List ℕ) (a : TextAnswer) → IsTextNext a → IsNext (m.text_next stack slot text a)
next_sound stack slot text (m.goes more inner) s = s
next_sound stack slot text m.closed s = given_sound stack slot text
next_sound stack slot text m.broken s = tt

ended_sound : (stack : List Frame) (text : List ℕ) (may : Bool) → IsSoundNext Sound (m.number_ended stack text may)
ended_sound [] text true = tt
ended_sound [] text false = tt
ended_sound (frame.Item items ∷ outer) text may = tt
ended_sound (frame.Member members name ∷ outer) text may = tt

end_sound : (s : State) → IsSoundNext Sound (m.end_step s)
end_sound (m.outside stack (mode.Done tree)) = tt
end_sound (m.in_number stack digits text) = ended_sound stack text (may_end digits)
end_sound _ = tt

pub byte_sound : (levels : ℕ) (s : State) (b : ℕ) → Sound s → IsNext (m.byte_step levels s b)
byte_sound levels (m.outside stack o) b so = outside_sound levels stack o b (class_of b)
byte_sound levels (m.in_word stack wanted bs tree) b so = cond_both (b == wanted) _ _ IsNext (λ _. left_sound stack bs tree) (λ _. tt)
byte_sound levels (m.in_number stack digits text) b so = number_sound stack text b (may_end digits) (digits_after digits b)
byte_sound levels (m.in_text stack slot text inner) b so = next_sound stack slot text (m.text_step text inner b) (text_sound text inner b so)

is_sound : (a : Answer State Json) → IsNext a → IsSoundNext Sound a
is_sound (next s) h = h
is_sound (ends t) h = absurd h
is_sound stuck h = tt

pub step_sound : (levels : ℕ) (s : State) (look : Option ℕ) → Sound s → IsSoundNext Sound (step levels s look)
step_sound levels s None so = end_sound s
step_sound levels s (Some b) so = is_sound (m.byte_step levels s b) (byte_sound levels s b so)
