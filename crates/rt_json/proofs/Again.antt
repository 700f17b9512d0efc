-- What is in the grammar is read.
use Rattle.std.proofs.Common.{◌≡◌, ℕ, zero, suc, ◌<◌, ◌≤◌, ◌⊎◌, inl, inr, Bool, true, false, List, [], ◌∷◌, ◌++◌, Option, Some, None, refl, ap, subst, sym, ◌∙◌, length, append_assoc, append-nil, arith}
use Rattle.std.specs.Prelude.{◌==◌, ◌||◌, encode_utf8}
use Rattle.std.proofs.lemmas.Bool.{ne_eqb, lt-ltb, le-ltb, cond_both, eqb-true, or_cases}
use Rattle.std.proofs.lemmas.Str.{encode_ascii}
use Rattle.rt_json.proofs.Scalars.{past_same}
use Rattle.rt_value.specs.Places.{Answer, next, stuck, reads, reads_on}
use Rattle.rt_json.specs.Text as t
use Rattle.rt_json.specs.Text.{IsRest, IsText, IsPlain, IsUnit, is_digit}
use Rattle.rt_json.specs.Grammar as g
use Rattle.rt_json.specs.Grammar.{is_blank, AreBlanks, IsValue, MoreItems, IsMember, MoreMembers, member}
use Rattle.rt_json.specs.Machine as m
use Rattle.rt_json.specs.Machine.{Half, Slot, State, class_of, digits_after, may_end, step}
use Rattle.rt_json.specs.declared.tree.Json.{Json}
use Rattle.rt_json.specs.declared.tree.Json.TheVariants as j
use Rattle.rt_json.specs.declared.tree.named.Member.{Member}
use Rattle.rt_json.specs.declared.state.Frame.{Frame}
use Rattle.rt_json.specs.declared.state.Frame.TheVariants as frame
use Rattle.rt_json.specs.declared.state.Mode.{Mode}
use Rattle.rt_json.specs.declared.state.Mode.TheVariants as mode
use Rattle.rt_json.specs.declared.bytes.Class.{Class}
use Rattle.rt_json.specs.declared.bytes.Class.TheVariants as c
use Rattle.rt_json.specs.declared.bytes.Digits.{Digits}
use Rattle.rt_json.specs.declared.bytes.Digits.TheVariants as d
use Rattle.rt_json.specs.declared.bytes.Tail.{Tail}
use Rattle.rt_json.specs.declared.bytes.Tail.TheVariants as tail
use Rattle.rt_json.proofs.Classes.{class_of_blank}
use Rattle.rt_json.proofs.Numbers.{number_ends, ends_on, number_again, class_of_digit}
use Rattle.rt_json.proofs.Utf8.{Fills, multibyte}
use Rattle.rt_json.proofs.Hex.{hex_small, fronts, IsHalf, scalar_not_low, high_not_low, high_no_scalar}
use Rattle.rt_json.proofs.Rest.{inside, left}
use Rattle.rt_json.proofs.ByteTests.{order}

-- these bytes are read from the state on as the tree
abbrev pub Reads : ℕ → List ℕ → State → Json → Type 0
Reads levels xs s out = reads (step levels) xs s ≡ Some out

-- an answer, and then the bytes
abbrev pub Then : ℕ → List ℕ → Answer State Json → Json → Type 0
Then levels xs a out = reads_on (reads (step levels) xs) a ≡ Some out

-- a blank changes nothing outside
pub stays : (levels : ℕ) (stack : List Frame) (o : Mode) (b : ℕ) → m.outside_next levels stack o b c.Blank ≡ next (m.outside stack o)
stays levels stack mode.Value b = refl
stays levels stack mode.FirstItem b = refl
stays levels stack (mode.AfterItem items) b = refl
stays levels stack mode.FirstName b = refl
stays levels stack (mode.Name members) b = refl
stays levels stack (mode.Colon members name) b = refl
stays levels stack (mode.AfterMember members) b = refl
stays levels stack (mode.Done tree) b = refl

blanks_read : {xs ys : List ℕ} → AreBlanks xs ys → (levels : ℕ) (stack : List Frame) (o : Mode) (out : Json) → Reads levels ys (m.outside stack o) out → Reads levels xs (m.outside stack o) out
blanks_read g.no_blank levels stack o out h = h
blanks_read (g.blank {b = b} {xs = xs} is bl) levels stack o out h =
    ap (reads_on (reads (step levels) xs)) (ap (m.outside_next levels stack o b) (class_of_blank b is) ∙ stays levels stack o b) ∙ blanks_read bl levels stack o out h

-- the bytes begin a value in what is open
abbrev Starts : ℕ → List Frame → List ℕ → Json → Type 0
Starts levels stack xs out = (b : ℕ) × (bs : List ℕ) × (xs ≡ b ∷ bs) × Then levels bs (m.begun levels stack b (class_of b)) out

at_value : (levels : ℕ) (stack : List Frame) (b : ℕ) (class : Class) (bs : List ℕ) (out : Json) → Then levels bs (m.begun levels stack b class) out → Then levels bs (m.at_value levels stack b class) out
at_value levels stack b c.Blank bs out h = absurd cc
at_value levels stack b class bs out h = h

value_started : (levels : ℕ) (stack : List Frame) (xs : List ℕ) (out : Json) → Starts levels stack xs out → Reads levels xs (m.outside stack mode.Value) out
value_started levels stack xs out (b, bs, is, h) =
    subst (λ (ys : List ℕ). Reads levels ys (m.outside stack mode.Value) out) (sym is) (at_value levels stack b (class_of b) bs out h)

at_first_item : (levels : ℕ) (stack : List Frame) (b : ℕ) (class : Class) (bs : List ℕ) (out : Json) → Then levels bs (m.begun levels (frame.Item [] ∷ stack) b class) out → Then levels bs (m.at_first_item levels stack b class) out
at_first_item levels stack b c.Blank bs out h = absurd cc
at_first_item levels stack b c.RightBracket bs out h = absurd cc
at_first_item levels stack b class bs out h = h

item_started : (levels : ℕ) (stack : List Frame) (xs : List ℕ) (out : Json) → Starts levels (frame.Item [] ∷ stack) xs out → Reads levels xs (m.outside stack mode.FirstItem) out
item_started levels stack xs out (b, bs, is, h) =
    subst (λ (ys : List ℕ). Reads levels ys (m.outside stack mode.FirstItem) out) (sym is) (at_first_item levels stack b (class_of b) bs out h)

-- a list or an object may begin
may_open : (levels n : ℕ) (stack : List Frame) (o : Mode) (bs : List ℕ) (out : Json) → suc n ≡ left levels stack → Reads levels bs (m.outside stack o) out → Then levels bs (m.opened levels stack o) out
may_open levels n stack o bs out e h = let lt : length stack < levels = omega (arith, e) in rw (lt-ltb (length stack) levels lt) h

within : (levels n : ℕ) (stack : List Frame) → suc n ≡ left levels stack → n ≡ inside levels stack
within levels n stack e = omega (arith, e)

-- a byte with which a number goes on doesn't stand behind a value
abbrev Continues : Class → Type 0
Continues (c.NumberStart digits) = Unit {0}
Continues c.Other = Unit {0}
Continues _ = ⊥

past_stuck : (stack : List Frame) (v : Json) (class : Class) → Continues class → m.past_value stack v class ≡ stuck
past_stuck [] v (c.NumberStart digits) h = refl
past_stuck [] v c.Other h = refl
past_stuck (frame.Item items ∷ outer) v (c.NumberStart digits) h = refl
past_stuck (frame.Item items ∷ outer) v c.Other h = refl
past_stuck (frame.Member members name ∷ outer) v (c.NumberStart digits) h = refl
past_stuck (frame.Member members name ∷ outer) v c.Other h = refl
past_stuck _ v c.Blank h = absurd h
past_stuck _ v c.Quote h = absurd h
past_stuck _ v c.Comma h = absurd h
past_stuck _ v c.Colon h = absurd h
past_stuck _ v c.LeftBracket h = absurd h
past_stuck _ v c.RightBracket h = absurd h
past_stuck _ v (c.WordStart which) h = absurd h
past_stuck _ v c.LeftBrace h = absurd h
past_stuck _ v c.RightBrace h = absurd h

continues_at : (b n : ℕ) → (b == n) ≡ true → Continues (class_of n) → Continues (class_of b)
continues_at b n e h = subst (λ (x : ℕ). Continues (class_of x)) (sym (eqb-true b n e)) h

digit_continues : (b : ℕ) → is_digit b ≡ true → Continues (class_of b)
unfolding class_of
digit_continues b h = by (b == 48) refl
  where
    by : (x : Bool) → (b == 48) ≡ x → Continues (class_of b)
    by true e = continues_at b 48 e tt
    by false e = subst Continues (sym (class_of_digit b h e)) tt

mark_continues : (b : ℕ) → ((b == 101) || (b == 69)) ≡ true → Continues (class_of b)
unfolding class_of
mark_continues b h = elim (or_cases (b == 101) (b == 69) h) [ inl e ↦ continues_at b 101 e tt | inr e ↦ continues_at b 69 e tt ]

sign_continues : (b : ℕ) → ((b == 43) || (b == 45)) ≡ true → Continues (class_of b)
unfolding class_of
sign_continues b h = elim (or_cases (b == 43) (b == 45) h) [ inl e ↦ continues_at b 43 e tt | inr e ↦ continues_at b 45 e tt ]

abbrev IfGoes : ℕ → Option Digits → Type 0
IfGoes b None = Unit {0}
IfGoes b (Some digits) = Continues (class_of b)

goes_continues : (s : Digits) (b : ℕ) → IfGoes b (digits_after s b)
unfolding class_of
goes_continues d.Minus b = cond_both (b == 48) _ _ (IfGoes b) (λ e. continues_at b 48 e tt) (λ _. cond_both (is_digit b) _ _ (IfGoes b) (digit_continues b) (λ _. tt))
goes_continues d.Zero b = cond_both (b == 46) _ _ (IfGoes b) (λ e. continues_at b 46 e tt) (λ _. cond_both ((b == 101) || (b == 69)) _ _ (IfGoes b) (mark_continues b) (λ _. tt))
goes_continues d.Whole b =
    cond_both (is_digit b) _ _ (IfGoes b) (digit_continues b) (λ _. cond_both (b == 46) _ _ (IfGoes b) (λ e. continues_at b 46 e tt)
    (λ _. cond_both ((b == 101) || (b == 69)) _ _ (IfGoes b) (mark_continues b) (λ _. tt)))
goes_continues d.Point b = cond_both (is_digit b) _ _ (IfGoes b) (digit_continues b) (λ _. tt)
goes_continues d.Fraction b = cond_both (is_digit b) _ _ (IfGoes b) (digit_continues b) (λ _. cond_both ((b == 101) || (b == 69)) _ _ (IfGoes b) (mark_continues b) (λ _. tt))
goes_continues d.Mark b = cond_both (is_digit b) _ _ (IfGoes b) (digit_continues b) (λ _. cond_both ((b == 43) || (b == 45)) _ _ (IfGoes b) (sign_continues b) (λ _. tt))
goes_continues d.Sign b = cond_both (is_digit b) _ _ (IfGoes b) (digit_continues b) (λ _. tt)
goes_continues d.Exponent b = cond_both (is_digit b) _ _ (IfGoes b) (digit_continues b) (λ _. tt)

nothing : (out : Json) → None ≡ Some out → ⊥
nothing out e = cc

number_ends_here : (levels : ℕ) (stack : List Frame) (s : Digits) (text ys : List ℕ) (out : Json) → may_end s ≡ true
    → Reads levels ys (m.completed stack (j.Num text)) out → Reads levels ys (m.in_number stack s text) out
number_ends_here levels [] s text [] out e h = rw e h
number_ends_here levels (frame.Item items ∷ outer) s text [] out e h = absurd cc
number_ends_here levels (frame.Member members name ∷ outer) s text [] out e h = absurd cc
number_ends_here levels stack s text (b ∷ bs) out e h = by (digits_after s b) (goes_continues s b)
  where
    past : Then levels bs (m.past_value stack (j.Num text) (class_of b)) out
    past = ap (reads_on (reads (step levels) bs)) (sym (past_same levels stack (j.Num text) b)) ∙ h

    by : (o : Option Digits) → IfGoes b o → Then levels bs (m.number_next stack text b (may_end s) o) out
    by None g = rw e past
    by (Some digits) g = absurd (nothing out (sym (ap (reads_on (reads (step levels) bs)) (past_stuck stack (j.Num text) (class_of b) g)) ∙ past))

number_reads : (levels : ℕ) (stack : List Frame) (s : Digits) (text more ys : List ℕ) (out : Json) → number_ends s more ≡ true
    → Reads levels ys (m.completed stack (j.Num (text ++ more))) out → Reads levels (more ++ ys) (m.in_number stack s text) out
number_reads levels stack s text [] ys out e h =
    number_ends_here levels stack s text ys out e (subst (λ (xs : List ℕ). Reads levels ys (m.completed stack (j.Num xs)) out) (append-nil text) h)
number_reads levels stack s text (b ∷ bs) ys out e h =
    by (λ digits k. number_reads levels stack digits (text ++ b ∷ []) bs ys out k (subst (λ (xs : List ℕ). Reads levels ys (m.completed stack (j.Num xs)) out) (sym (append_assoc text (b ∷ []) bs)) h))
    (digits_after s b) e
  where
    by : ((digits : Digits) → number_ends digits bs ≡ true → Reads levels (bs ++ ys) (m.in_number stack digits (text ++ b ∷ [])) out)
        → (o : Option Digits) → ends_on (λ n. number_ends n bs) o ≡ true → Then levels (bs ++ ys) (m.number_next stack text b (may_end s) o) out
    by on None k = absurd cc
    by on (Some digits) k = on digits k

-- texts
abbrev Place : List Frame → Slot → List ℕ → m.Inner → State
Place stack slot text inner = m.in_text stack slot text inner

fills_reads : (levels : ℕ) (stack : List Frame) (slot : Slot) (text : List ℕ) (kind : Tail) (count : ℕ) (more ys : List ℕ) (out : Json) → Fills kind count more
    → Reads levels ys (Place stack slot (text ++ more) m.between) out → Reads levels (more ++ ys) (Place stack slot text (m.filling kind count)) out
fills_reads levels stack slot text kind zero (b ∷ bs) ys out f h =
    let k : Reads levels (bs ++ ys) (Place stack slot (text ++ b ∷ []) m.between) out =
    subst (λ (xs : List ℕ). Reads levels (xs ++ ys) (Place stack slot (text ++ b ∷ []) m.between) out) (sym f.1)
    (subst (λ (xs : List ℕ). Reads levels ys (Place stack slot (text ++ b ∷ xs) m.between) out) f.1 h) in
    rw f.0 k
fills_reads levels stack slot text kind (suc count) (b ∷ bs) ys out f h =
    let k = fills_reads levels stack slot (text ++ b ∷ []) tail.Any count bs ys out f.1
    (subst (λ (xs : List ℕ). Reads levels ys (Place stack slot xs m.between) out) (sym (append_assoc text (b ∷ []) bs)) h) in
    rw f.0 k
fills_reads levels stack slot text kind zero [] ys out f h = absurd f
fills_reads levels stack slot text kind (suc count) [] ys out f h = absurd f

plain_reads : (levels : ℕ) (stack : List Frame) (slot : Slot) (text : List ℕ) (ch : ℕ) (xs : List ℕ) (out : Json) → IsPlain ch
    → Reads levels xs (Place stack slot (text ++ encode_utf8 ch) m.between) out → Reads levels (encode_utf8 ch ++ xs) (Place stack slot text m.between) out
plain_reads levels stack slot text ch xs out (sc, low, no34, no92) h = by (order ch 128)
  where
    by : (ch < 128) ⊎ (128 ≤ ch) → Reads levels (encode_utf8 ch ++ xs) (Place stack slot text m.between) out
    by (inl lt) =
        let one : encode_utf8 ch ≡ ch ∷ [] = encode_ascii ch lt in
        let k : Reads levels xs (Place stack slot (text ++ ch ∷ []) m.between) out = subst (λ (ys : List ℕ). Reads levels xs (Place stack slot (text ++ ys) m.between) out) one h in
        let k2 : Reads levels (ch ∷ xs) (Place stack slot text m.between) out = rw (ne_eqb ch 34 no34, ne_eqb ch 92 no92, le-ltb ch 32 low, lt-ltb ch 128 lt) k in
        subst (λ (ys : List ℕ). Reads levels (ys ++ xs) (Place stack slot text m.between) out) (sym one) k2
    by (inr high) =
        let mb = multibyte ch sc high in
        let f = mb.first in
        let fh : 128 ≤ f = mb.high in
        let n34 : f ≡ 34 → ⊥ = λ e. omega (arith, e, fh) in
        let n92 : f ≡ 92 → ⊥ = λ e. omega (arith, e, fh) in
        let l32 : 32 ≤ f = omega (arith, fh) in
        let k : Reads levels xs (Place stack slot ((text ++ f ∷ []) ++ mb.more) m.between) out =
        subst (λ (ys : List ℕ). Reads levels xs (Place stack slot ys m.between) out) (ap (λ (ys : List ℕ). text ++ ys) mb.bytes ∙ sym (append_assoc text (f ∷ []) mb.more)) h in
        let k2 = fills_reads levels stack slot (text ++ f ∷ []) mb.kind mb.count mb.more xs out mb.fills k in
        let k3 : Reads levels (f ∷ (mb.more ++ xs)) (Place stack slot text m.between) out = rw (ne_eqb f 34 n34, ne_eqb f 92 n92, le-ltb f 32 l32, le-ltb f 128 fh, mb.leads) k2 in
        subst (λ (ys : List ℕ). Reads levels (ys ++ xs) (Place stack slot text m.between) out) (sym mb.bytes) k3

-- four digits, and what their value is answered
unit_reads : {u : ℕ} {xs ys : List ℕ} → IsUnit u xs ys → (levels : ℕ) (stack : List Frame) (slot : Slot) (text : List ℕ) (half : Half) (out : Json) → IsHalf half u
    → Then levels ys (m.text_next stack slot text (m.unit_ended text half u)) out → Reads levels xs (Place stack slot text (m.unit0 half)) out
unit_reads (t.four {a = a} {b = b} {c = x} {d = y} {p = p} {q = q} {r = r} {s = s} e1 e2 e3 e4) levels stack slot text half out is h =
    let f = fronts half p q r s (hex_small b q e2) (hex_small x r e3) (hex_small y s e4) is in
    rw (e1, f.0, e2, f.1, e3, e4) h

text_reads : {text all xs ys : List ℕ} → IsRest text all xs ys → (levels : ℕ) (stack : List Frame) (slot : Slot) (out : Json)
    → Reads levels ys (m.given stack slot all) out → Reads levels xs (Place stack slot text m.between) out
text_reads t.quote levels stack slot out h = h
text_reads (t.plain {c = ch} {before = text} {xs = xs} p rest) levels stack slot out h = plain_reads levels stack slot text ch xs out p (text_reads rest levels stack slot out h)
text_reads (t.short e rest) levels stack slot out h = rw e (text_reads rest levels stack slot out h)
text_reads (t.unit {u = u} {before = text} {ys = ys} is s rest) levels stack slot out h =
    let k = text_reads rest levels stack slot out h in
    let k2 : Then levels ys (m.text_next stack slot text (m.unit_ended text m.first_unit u)) out = rw s k in
    unit_reads is levels stack slot text m.first_unit out (scalar_not_low u s) k2
text_reads (t.pair {high = high} {low = low} {before = text} {ys = ys} {zs = zs} one hi two lo rest) levels stack slot out h =
    let k = text_reads rest levels stack slot out h in
    let k2 : Then levels zs (m.text_next stack slot text (m.unit_ended text (m.second_unit high) low)) out = rw lo k in
    let k3 = unit_reads two levels stack slot text (m.second_unit high) out lo k2 in
    let k4 : Then levels (92 ∷ 117 ∷ ys) (m.text_next stack slot text (m.unit_ended text m.first_unit high)) out = rw (high_no_scalar high hi, hi) k3 in
    unit_reads one levels stack slot text m.first_unit out (high_not_low high hi) k4

-- a name behind its opening quote, and its value
name_read : {name xs ys us zs : List ℕ} → IsText name xs ys → AreBlanks ys (58 ∷ zs) → AreBlanks zs us
    → (levels : ℕ) (stack : List Frame) (members : List Member) (out : Json) → Starts levels (frame.Member members name ∷ stack) us out
    → (bs : List ℕ) × (xs ≡ 34 ∷ bs) × Reads levels bs (m.in_text stack (m.as_name members) [] m.between) out
unfolding class_of
name_read {name = name} {us = us} (t.quoted {xs = bs} rest) bl bm levels stack members out s =
    let k = blanks_read bm levels (frame.Member members name ∷ stack) mode.Value out (value_started levels (frame.Member members name ∷ stack) us out s) in
    (bs, refl, text_reads rest levels stack (m.as_name members) out (blanks_read bl levels stack (mode.Colon members name) out k))

mutual
  unfolding class_of

  started : {n : ℕ} {v : Json} {xs ys : List ℕ} → IsValue n v xs ys → (levels : ℕ) (stack : List Frame) (out : Json) → n ≡ left levels stack
      → Reads levels ys (m.completed stack v) out → Starts levels stack xs out
  started (g.null {xs = xs}) levels stack out e h = (110, 117 ∷ 108 ∷ 108 ∷ xs, refl, h)
  started (g.truth {xs = xs}) levels stack out e h = (116, 114 ∷ 117 ∷ 101 ∷ xs, refl, h)
  started (g.falsity {xs = xs}) levels stack out e h = (102, 97 ∷ 108 ∷ 115 ∷ 101 ∷ xs, refl, h)
  started (g.number {text = text} {xs = xs} is) levels stack out e h =
      let r = number_again text is in
      let k = number_reads levels stack r.digits (r.first ∷ []) r.more xs out r.ends (subst (λ (ys : List ℕ). Reads levels xs (m.completed stack (j.Num ys)) out) r.parts h) in
      (r.first, r.more ++ xs, ap (λ (ys : List ℕ). ys ++ xs) r.parts, ap (reads_on (reads (step levels) (r.more ++ xs))) (ap (m.begun levels stack r.first) r.begins) ∙ k)
  started (g.text (t.quoted {xs = xs} rest)) levels stack out e h = (34, xs, refl, text_reads rest levels stack m.as_value out h)
  started (g.no_items {n = n} {xs = xs} bl) levels stack out e h =
      (91, xs, refl, may_open levels n stack mode.FirstItem xs out e (blanks_read bl levels stack mode.FirstItem out h))
  started (g.items {n = n} {xs = xs} {ys = ys} bl v more) levels stack out e h =
      let k = items_read more levels stack out (within levels n stack e) h in
      let s = started v levels (frame.Item [] ∷ stack) out (within levels n stack e) k in
      (91, xs, refl, may_open levels n stack mode.FirstItem xs out e (blanks_read bl levels stack mode.FirstItem out (item_started levels stack ys out s)))
  started (g.no_members {n = n} {xs = xs} bl) levels stack out e h =
      (123, xs, refl, may_open levels n stack mode.FirstName xs out e (blanks_read bl levels stack mode.FirstName out h))
  started (g.members {n = n} {xs = xs} one more) levels stack out e h =
      let k = members_read more levels stack out (within levels n stack e) h in
      (123, xs, refl, may_open levels n stack mode.FirstName xs out e (first_member_read one levels stack out (within levels n stack e) k))

  items_read : {n : ℕ} {items all : List Json} {xs ys : List ℕ} → MoreItems n items all xs ys → (levels : ℕ) (stack : List Frame) (out : Json) → n ≡ inside levels stack
      → Reads levels ys (m.completed stack (j.List all)) out → Reads levels xs (m.outside stack (mode.AfterItem items)) out
  items_read (g.close_list {all = all} bl) levels stack out e h = blanks_read bl levels stack (mode.AfterItem all) out h
  items_read (g.next_item {before = items} {ys = ys} bl bm v more) levels stack out e h =
      let s = started v levels (frame.Item items ∷ stack) out e (items_read more levels stack out e h) in
      blanks_read bl levels stack (mode.AfterItem items) out (blanks_read bm levels (frame.Item items ∷ stack) mode.Value out (value_started levels (frame.Item items ∷ stack) ys out s))

  first_member_read : {n : ℕ} {one : Member} {xs ys : List ℕ} → IsMember n one xs ys → (levels : ℕ) (stack : List Frame) (out : Json) → n ≡ inside levels stack
      → Reads levels ys (m.outside stack (mode.AfterMember (one ∷ []))) out → Reads levels xs (m.outside stack mode.FirstName) out
  first_member_read (g.named {name = name} {us = us} ba quoted bl bm v) levels stack out e h =
      let k = name_read quoted bl bm levels stack [] out (started v levels (frame.Member [] name ∷ stack) out e h) in
      blanks_read ba levels stack mode.FirstName out (subst (λ (ys : List ℕ). Reads levels ys (m.outside stack mode.FirstName) out) (sym k.1) k.2)

  member_read : {n : ℕ} {one : Member} {xs ys : List ℕ} → IsMember n one xs ys → (levels : ℕ) (stack : List Frame) (members : List Member) (out : Json) → n ≡ inside levels stack
      → Reads levels ys (m.outside stack (mode.AfterMember (members ++ one ∷ []))) out → Reads levels xs (m.outside stack (mode.Name members)) out
  member_read (g.named {name = name} ba quoted bl bm v) levels stack members out e h =
      let k = name_read quoted bl bm levels stack members out (started v levels (frame.Member members name ∷ stack) out e h) in
      blanks_read ba levels stack (mode.Name members) out (subst (λ (ys : List ℕ). Reads levels ys (m.outside stack (mode.Name members)) out) (sym k.1) k.2)

  members_read : {n : ℕ} {members all : List Member} {xs ys : List ℕ} → MoreMembers n members all xs ys → (levels : ℕ) (stack : List Frame) (out : Json) → n ≡ inside levels stack
      → Reads levels ys (m.completed stack (j.Object all)) out → Reads levels xs (m.outside stack (mode.AfterMember members)) out
  members_read (g.close_object {all = all} bl) levels stack out e h = blanks_read bl levels stack (mode.AfterMember all) out h
  members_read (g.next_member {before = members} bl one more) levels stack out e h =
      let k = members_read more levels stack out e h in
      blanks_read bl levels stack (mode.AfterMember members) out (member_read one levels stack members out e k)

pub json_again : (levels : ℕ) (tree : Json) (bytes : List ℕ) → g.IsWithin levels tree bytes → reads (step levels) bytes m.start ≡ Some tree
json_again levels tree bytes w =
    let behind : Reads levels w.last (m.outside [] (mode.Done tree)) tree = blanks_read w.after levels [] (mode.Done tree) tree refl in
    let s = started w.value levels [] tree (omega arith) behind in
    blanks_read w.before levels [] mode.Value tree (value_started levels [] w.first tree s)
