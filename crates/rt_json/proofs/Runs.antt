-- A run of plain bytes is UTF-8 and goes into the text, or breaks where a character breaks.
use Rattle.std.proofs.Common.{◌≡◌, ℕ, zero, suc, ◌+◌, ◌-◌, ◌<◌, ◌≤◌, ◌⊎◌, inl, inr, Bool, true, false, List, [], ◌∷◌, ◌++◌, Option, Some, None, refl, ap, subst, sym, ◌∙◌, length, drop, take, get_or, arith, append_assoc, append-nil, length-append, length-drop, cond, not}
use Rattle.std.specs.Prelude.{◌==◌, ◌&&◌, nat_le, encode_utf8, IsUtf8}
use Rattle.std.specs.List.{list_all}
use Rattle.std.proofs.lemmas.List.{drop_more, take_more, drop_all}
use Rattle.std.proofs.lemmas.List.Folds.{list_all-append}
use Rattle.std.proofs.lemmas.Bool.{ne_eqb, lt-ltb, le-ltb, leb-true, leb-false, eqb-true, not-true, lt-leb, and_parts}
use Rattle.std.proofs.lemmas.Str.{encode_ascii, IsUtf8-append, IsUtf8-encode, IsUtf8-nil}
use Rattle.std.proofs.Math.Seq.{take-length}
use lib.Utf8.{scalar, scalars, encodes, low_scalar}
use Rattle.rt_json.specs.Machine as m
use Rattle.rt_json.specs.Machine.{Slot, Inner, Outcome, bad, outcome, in_tail, lead}
use Rattle.rt_json.specs.Reads.{is_plain, choose, past_plain, char_step, char_led, char_left, at_text, BreaksAt}
use Rattle.rt_json.specs.declared.state.Frame.{Frame}
use Rattle.rt_json.specs.declared.bytes.Tail.{Tail}
use Rattle.rt_json.specs.declared.bytes.Tail.TheVariants as tail
use Rattle.rt_json.proofs.Utf8.{Fills, multibyte, character, lead_means}
use Rattle.rt_json.proofs.Steps.{text_next, text_stuck}
use Rattle.rt_json.proofs.ByteTests.{order}

pub record IsRun (xs : List ℕ) : Type 0 where
  pub run : List ℕ
  pub parts : xs ≡ run ++ past_plain xs
  pub plain : list_all is_plain run ≡ true

pub plain_run : (xs : List ℕ) → IsRun xs
plain_run [] = record { run = []; parts = refl; plain = refl }
plain_run (b ∷ bs) = by (is_plain b) refl (plain_run bs)
  where
    by : (x : Bool) → is_plain b ≡ x → IsRun bs → IsRun (b ∷ bs)
    by true e r = record {
      run = b ∷ r.run;
      parts = ap (λ (ys : List ℕ). b ∷ ys) r.parts ∙ ap (λ (x : Bool). (b ∷ r.run) ++ choose x (past_plain bs) (b ∷ bs)) (sym e);
      plain = rw (e, r.plain) refl;
    }
    by false e r = record { run = []; parts = ap (λ (x : Bool). choose x (past_plain bs) (b ∷ bs)) (sym e); plain = refl }

pub plain_stops : (xs : List ℕ) → past_plain (past_plain xs) ≡ past_plain xs
plain_stops [] = refl
plain_stops (b ∷ bs) = by (is_plain b) refl (plain_stops bs)
  where
    by : (x : Bool) → is_plain b ≡ x → past_plain (past_plain bs) ≡ past_plain bs → past_plain (choose x (past_plain bs) (b ∷ bs)) ≡ choose x (past_plain bs) (b ∷ bs)
    by true e h = h
    by false e h = ap (λ (x : Bool). choose x (past_plain bs) (b ∷ bs)) e

-- a byte that stops a run
longer : (b : ℕ) (bs : List ℕ) → past_plain bs ≡ b ∷ bs → ⊥
longer b bs e = let r = plain_run bs in omega (arith, ap length e, ap length r.parts, length-append r.run (past_plain bs))

pub stop_byte : (b : ℕ) (bs : List ℕ) → past_plain (b ∷ bs) ≡ b ∷ bs → is_plain b ≡ false
stop_byte b bs e = by (is_plain b) e
  where
    by : (x : Bool) → choose x (past_plain bs) (b ∷ bs) ≡ b ∷ bs → x ≡ false
    by true e = absurd (longer b bs e)
    by false e = refl

pub record PlainByte (b : ℕ) : Type 0 where
  pub low : 32 ≤ b
  pub no_quote : (b == 34) ≡ false
  pub no_backslash : (b == 92) ≡ false

pub plain_byte : (b : ℕ) → is_plain b ≡ true → PlainByte b
plain_byte b h =
    let t = and_parts (nat_le 32 b && not (b == 34)) (not (b == 92)) h in
    let u = and_parts (nat_le 32 b) (not (b == 34)) t.0 in
    record { low = leb-true 32 b u.0; no_quote = not-true (b == 34) u.1; no_backslash = not-true (b == 92) t.1 }

-- a byte that isn't plain is ASCII
pub stop_low : (b : ℕ) → is_plain b ≡ false → b < 128
stop_low b h = by (order b 32) (b == 34) refl (b == 92) refl
  where
    by : (b < 32) ⊎ (32 ≤ b) → (x : Bool) → (b == 34) ≡ x → (y : Bool) → (b == 92) ≡ y → b < 128
    by (inl l) x e y f = omega arith
    by (inr l) true e y f = let is = eqb-true b 34 e in omega arith
    by (inr l) false e true f = let is = eqb-true b 92 f in omega arith
    by (inr l) false e false f = by2 (nat_le 32 b) refl
      where
        by2 : (z : Bool) → nat_le 32 b ≡ z → b < 128
        by2 true g = let yes : is_plain b ≡ true = rw (g, e, f) refl in absurd cc
        by2 false g = let lt = leb-false 32 b g in omega arith

-- characters
pub fills_outcome : (stack : List Frame) (slot : Slot) (t : List ℕ) (kind : Tail) (count : ℕ) (more ys : List ℕ) → Fills kind count more
    → at_text stack slot t (m.filling kind count) (more ++ ys) ≡ at_text stack slot (t ++ more) m.between ys
fills_outcome stack slot t kind zero (b ∷ bs) ys f =
    text_next stack slot t (t ++ b ∷ []) (m.filling kind zero) m.between b (bs ++ ys) (rw f.0 refl)
    ∙ ap (λ (xs : List ℕ). at_text stack slot (t ++ b ∷ []) m.between (xs ++ ys)) f.1 ∙ ap (λ (xs : List ℕ). at_text stack slot (t ++ b ∷ xs) m.between ys) (sym f.1)
fills_outcome stack slot t kind (suc count) (b ∷ bs) ys f =
    text_next stack slot t (t ++ b ∷ []) (m.filling kind (suc count)) (m.filling tail.Any count) b (bs ++ ys) (rw f.0 refl)
    ∙ fills_outcome stack slot (t ++ b ∷ []) tail.Any count bs ys f.1 ∙ ap (λ (xs : List ℕ). at_text stack slot xs m.between ys) (append_assoc t (b ∷ []) bs)
fills_outcome stack slot t kind zero [] ys f = absurd f
fills_outcome stack slot t kind (suc count) [] ys f = absurd f

plain_step : (t : List ℕ) (b : ℕ) → PlainByte b → b < 128 → m.text_between t b ≡ m.goes (t ++ b ∷ []) m.between
plain_step t b p lt = let low = p.low in rw (p.no_quote, p.no_backslash, le-ltb b 32 low, lt-ltb b 128 lt) refl

lead_step : (t : List ℕ) (b : ℕ) → PlainByte b → 128 ≤ b → m.text_between t b ≡ m.led (t ++ b ∷ []) (lead b)
lead_step t b p le = let low = p.low in rw (p.no_quote, p.no_backslash, le-ltb b 32 low, le-ltb b 128 le) refl

high_byte : (b : ℕ) → 128 ≤ b → PlainByte b
high_byte b l = record { low = omega arith; no_quote = ne_eqb b 34 (λ e. omega (arith, e)); no_backslash = ne_eqb b 92 (λ e. omega (arith, e)) }

pub char_outcome : (stack : List Frame) (slot : Slot) (t : List ℕ) (ch : ℕ) (xs : List ℕ) → scalar ch ≡ true → (ch < 128 → PlainByte ch)
    → at_text stack slot t m.between (encode_utf8 ch ++ xs) ≡ at_text stack slot (t ++ encode_utf8 ch) m.between xs
char_outcome stack slot t ch xs sc plain = by (order ch 128)
  where
    by : (ch < 128) ⊎ (128 ≤ ch) → at_text stack slot t m.between (encode_utf8 ch ++ xs) ≡ at_text stack slot (t ++ encode_utf8 ch) m.between xs
    by (inl lt) =
        let one : encode_utf8 ch ≡ ch ∷ [] = encode_ascii ch lt in
        ap (λ (ys : List ℕ). at_text stack slot t m.between (ys ++ xs)) one
        ∙ text_next stack slot t (t ++ ch ∷ []) m.between m.between ch xs (plain_step t ch (plain lt) lt) ∙ ap (λ (ys : List ℕ). at_text stack slot (t ++ ys) m.between xs) (sym one)
    by (inr high) =
        let mb = multibyte ch sc high in
        ap (λ (ys : List ℕ). at_text stack slot t m.between (ys ++ xs)) mb.bytes
        ∙ text_next stack slot t (t ++ mb.first ∷ []) m.between (m.filling mb.kind mb.count) mb.first (mb.more ++ xs)
        (lead_step t mb.first (high_byte mb.first mb.high) mb.high ∙ ap (m.led (t ++ mb.first ∷ [])) mb.leads)
        ∙ fills_outcome stack slot (t ++ mb.first ∷ []) mb.kind mb.count mb.more xs mb.fills
        ∙ ap (λ (ys : List ℕ). at_text stack slot ys m.between xs) (append_assoc t (mb.first ∷ []) mb.more)
        ∙ ap (λ (ys : List ℕ). at_text stack slot (t ++ ys) m.between xs) (sym mb.bytes)

all_parts : (xs ys : List ℕ) → list_all is_plain (xs ++ ys) ≡ true → (list_all is_plain xs ≡ true) × (list_all is_plain ys ≡ true)
all_parts xs ys h = and_parts (list_all is_plain xs) (list_all is_plain ys) (sym (list_all-append is_plain xs ys) ∙ h)

pub chars_outcome : (stack : List Frame) (slot : Slot) (t : List ℕ) (cs xs : List ℕ) → scalars cs ≡ true → list_all is_plain (encodes cs) ≡ true
    → at_text stack slot t m.between (encodes cs ++ xs) ≡ at_text stack slot (t ++ encodes cs) m.between xs
chars_outcome stack slot t [] xs s p = ap (λ (ys : List ℕ). at_text stack slot ys m.between xs) (sym (append-nil t))
chars_outcome stack slot t (ch ∷ cs) xs s p =
    let sc = and_parts (scalar ch) (scalars cs) s in
    let pl = all_parts (encode_utf8 ch) (encodes cs) p in
    ap (at_text stack slot t m.between) (append_assoc (encode_utf8 ch) (encodes cs) xs)
    ∙ char_outcome stack slot t ch (encodes cs ++ xs) sc.0 (λ lt. first lt pl.0)
    ∙ chars_outcome stack slot (t ++ encode_utf8 ch) cs xs sc.1 pl.1
    ∙ ap (λ (ys : List ℕ). at_text stack slot ys m.between xs) (append_assoc t (encode_utf8 ch) (encodes cs))
  where
    first : ch < 128 → list_all is_plain (encode_utf8 ch) ≡ true → PlainByte ch
    first lt h =
        let one : list_all is_plain (ch ∷ []) ≡ true = ap (list_all is_plain) (sym (encode_ascii ch lt)) ∙ h in
        plain_byte ch (and_parts (is_plain ch) true one).0

pub run_outcome : (stack : List Frame) (slot : Slot) (t run xs : List ℕ) → IsUtf8 run → list_all is_plain run ≡ true
    → at_text stack slot t m.between (run ++ xs) ≡ at_text stack slot (t ++ run) m.between xs
run_outcome stack slot t run xs (cs, (s, e)) p =
    subst (λ (ys : List ℕ). at_text stack slot t m.between (ys ++ xs) ≡ at_text stack slot (t ++ ys) m.between xs) e
    (chars_outcome stack slot t cs xs s (ap (list_all is_plain) e ∙ p))

-- where within a character
abbrev pub inner_of : Option (Tail × ℕ) → Inner
inner_of None = m.between
inner_of (Some (kind, count)) = m.filling kind count

-- the bytes so far are characters, or will be
abbrev pub Closes : List ℕ → Option (Tail × ℕ) → Type 0
Closes t None = IsUtf8 t
Closes t (Some (kind, count)) = (more : List ℕ) → Fills kind count more → IsUtf8 (t ++ more)

led_goes : (t : List ℕ) (o : Option (Tail × ℕ)) (w : Option (Tail × ℕ)) → char_led o ≡ Some w → m.led t o ≡ m.goes t (inner_of w)
led_goes t None w e = absurd cc
led_goes t (Some x) w e = let is : Some x ≡ w = cc in ap (λ (v : Option (Tail × ℕ)). m.goes t (inner_of v)) is

led_breaks : (t : List ℕ) (o : Option (Tail × ℕ)) → char_led o ≡ None → m.led t o ≡ m.broken
led_breaks t None e = refl
led_breaks t (Some x) e = absurd cc

left_is : (more : ℕ) → m.awaiting more ≡ inner_of (char_left more)
left_is zero = refl
left_is (suc more) = refl

pub char_goes : (t : List ℕ) (w v : Option (Tail × ℕ)) (b : ℕ) → PlainByte b → char_step w b ≡ Some v → m.text_step t (inner_of w) b ≡ m.goes (t ++ b ∷ []) (inner_of v)
char_goes t None v b p e = by (order b 128)
  where
    by : (b < 128) ⊎ (128 ≤ b) → m.text_between t b ≡ m.goes (t ++ b ∷ []) (inner_of v)
    by (inl lt) =
        let is : Some None ≡ Some v = ap (λ (x : Bool). cond x (Some None) (char_led (lead b))) (sym (lt-ltb b 128 lt)) ∙ e in
        let same : None ≡ v = cc in
        plain_step t b p lt ∙ ap (λ (u : Option (Tail × ℕ)). m.goes (t ++ b ∷ []) (inner_of u)) same
    by (inr le) =
        let is : char_led (lead b) ≡ Some v = ap (λ (x : Bool). cond x (Some None) (char_led (lead b))) (sym (le-ltb b 128 le)) ∙ e in
        lead_step t b p le ∙ led_goes (t ++ b ∷ []) (lead b) v is
char_goes t (Some (kind, count)) v b p e =
    let P : Bool → Type 0 = λ x. cond x (Some (char_left count)) None ≡ Some v → cond x (m.goes (t ++ b ∷ []) (m.awaiting count)) m.broken ≡ m.goes (t ++ b ∷ []) (inner_of v) in
    elim (in_tail kind b) as P [
      | true ↦ λ is. let same : char_left count ≡ v = cc in ap (m.goes (t ++ b ∷ [])) (left_is count) ∙ ap (λ (u : Option (Tail × ℕ)). m.goes (t ++ b ∷ []) (inner_of u)) same
      | false ↦ λ is. absurd cc
    ] e

pub char_breaks : (t : List ℕ) (w : Option (Tail × ℕ)) (b : ℕ) → PlainByte b → char_step w b ≡ None → m.text_step t (inner_of w) b ≡ m.broken
char_breaks t None b p e = by (order b 128)
  where
    by : (b < 128) ⊎ (128 ≤ b) → m.text_between t b ≡ m.broken
    by (inl lt) =
        let is : Some None ≡ None = ap (λ (x : Bool). cond x (Some None) (char_led (lead b))) (sym (lt-ltb b 128 lt)) ∙ e in absurd cc
    by (inr le) =
        let is : char_led (lead b) ≡ None = ap (λ (x : Bool). cond x (Some None) (char_led (lead b))) (sym (le-ltb b 128 le)) ∙ e in
        lead_step t b p le ∙ led_breaks (t ++ b ∷ []) (lead b) is
char_breaks t (Some (kind, count)) b p e =
    let P : Bool → Type 0 = λ x. cond x (Some (char_left count)) None ≡ None → cond x (m.goes (t ++ b ∷ []) (m.awaiting count)) m.broken ≡ m.broken in
    elim (in_tail kind b) as P [ true ↦ λ is. absurd cc | false ↦ λ is. refl ] e

-- one more byte of characters
led_closes : (t : List ℕ) (b : ℕ) (o v : Option (Tail × ℕ)) → lead b ≡ o → IsUtf8 t → char_led o ≡ Some v → Closes (t ++ b ∷ []) v
led_closes t b None v l u e = absurd cc
led_closes t b (Some (kind, count)) v l u e =
    let is : Some (kind, count) ≡ v = cc in
    subst (Closes (t ++ b ∷ [])) is (λ more f.
    let ch = character kind count b more (lead_means b kind count l) f in
    subst IsUtf8 (ap (λ (xs : List ℕ). t ++ xs) ch.bytes ∙ sym (append_assoc t (b ∷ []) more)) (IsUtf8-append t (encode_utf8 ch.char) u (IsUtf8-encode ch.char ch.is_scalar)))

left_closes : (t : List ℕ) (b : ℕ) (kind : Tail) (count : ℕ) → in_tail kind b ≡ true → Closes t (Some (kind, count)) → Closes (t ++ b ∷ []) (char_left count)
left_closes t b kind zero e h = h (b ∷ []) (e, refl)
left_closes t b kind (suc count) e h = λ more f. subst IsUtf8 (sym (append_assoc t (b ∷ []) more)) (h (b ∷ more) (e, f))

pub char_closes : (t : List ℕ) (w v : Option (Tail × ℕ)) (b : ℕ) → char_step w b ≡ Some v → Closes t w → Closes (t ++ b ∷ []) v
char_closes t None v b e u = by (order b 128)
  where
    by : (b < 128) ⊎ (128 ≤ b) → Closes (t ++ b ∷ []) v
    by (inl lt) =
        let is : Some None ≡ Some v = ap (λ (x : Bool). cond x (Some None) (char_led (lead b))) (sym (lt-ltb b 128 lt)) ∙ e in
        let same : None ≡ v = cc in
        subst (Closes (t ++ b ∷ [])) same (IsUtf8-append t (b ∷ []) u (subst IsUtf8 (encode_ascii b lt) (IsUtf8-encode b (low_scalar b (omega arith)))))
    by (inr le) =
        let is : char_led (lead b) ≡ Some v = ap (λ (x : Bool). cond x (Some None) (char_led (lead b))) (sym (le-ltb b 128 le)) ∙ e in
        led_closes t b (lead b) v refl u is
char_closes t (Some (kind, count)) v b e u = by (in_tail kind b) refl e
  where
    by : (x : Bool) → in_tail kind b ≡ x → cond x (Some (char_left count)) None ≡ Some v → Closes (t ++ b ∷ []) v
    by true f is = let same : char_left count ≡ v = cc in subst (Closes (t ++ b ∷ [])) same (left_closes t b kind count f u)
    by false f is = absurd cc

-- what holds of a run up to a place
pub record IsAt (run : List ℕ) (i : ℕ) (w : Option (Tail × ℕ)) : Type 0 where
  pub same : (rest : List ℕ) (stack : List Frame) (slot : Slot) (t : List ℕ)
      → at_text stack slot t m.between (run ++ rest) ≡ at_text stack slot (t ++ take i run) (inner_of w) (drop i run ++ rest)
  pub closes : Closes (take i run) w
  pub plain : list_all is_plain (drop i run) ≡ true

pub at_first : (run : List ℕ) → list_all is_plain run ≡ true → IsAt run 0 None
at_first run p = record { same = λ rest stack slot t. ap (λ (xs : List ℕ). at_text stack slot xs m.between (run ++ rest)) (sym (append-nil t)); closes = IsUtf8-nil; plain = p }

abbrev Here : List ℕ → ℕ → ℕ → Type 0
Here run i b = drop i run ≡ b ∷ drop (i + 1) run

here_plain : (run : List ℕ) (i b : ℕ) → Here run i b → list_all is_plain (drop i run) ≡ true → (is_plain b ≡ true) × (list_all is_plain (drop (i + 1) run) ≡ true)
here_plain run i b e h = and_parts (is_plain b) (list_all is_plain (drop (i + 1) run)) (ap (list_all is_plain) (sym e) ∙ h)

pub at_next : (run : List ℕ) (i b : ℕ) (w v : Option (Tail × ℕ)) → i < length run → b ≡ get_or run i 0 → IsAt run i w → char_step w b ≡ Some v → IsAt run (i + 1) v
at_next run i b w v lt is a e =
    let here : Here run i b = drop_more run i 0 lt ∙ ap (λ (x : ℕ). x ∷ drop (i + 1) run) (sym is) in
    let front : take (i + 1) run ≡ take i run ++ b ∷ [] = take_more run i 0 lt ∙ ap (λ (x : ℕ). take i run ++ x ∷ []) (sym is) in
    let p = here_plain run i b here a.plain in record {
      same = λ rest stack slot t.
          a.same rest stack slot t ∙ ap (λ (xs : List ℕ). at_text stack slot (t ++ take i run) (inner_of w) (xs ++ rest)) here
          ∙ text_next stack slot (t ++ take i run) ((t ++ take i run) ++ b ∷ []) (inner_of w) (inner_of v) b (drop (i + 1) run ++ rest) (char_goes (t ++ take i run) w v b (plain_byte b p.0) e)
          ∙ ap (λ (xs : List ℕ). at_text stack slot xs (inner_of v) (drop (i + 1) run ++ rest)) (append_assoc t (take i run) (b ∷ []) ∙ ap (λ (xs : List ℕ). t ++ xs) (sym front));
      closes = subst (λ (xs : List ℕ). Closes xs v) (sym front) (char_closes (take i run) w v b e a.closes);
      plain = p.1;
    }

lengths : (run rest : List ℕ) (i : ℕ) → length (drop i run ++ rest) ≡ length run - i + length rest
lengths run rest i = length-append (drop i run) rest ∙ ap (λ (n : ℕ). n + length rest) (length-drop i run)

pub at_break : (run : List ℕ) (i b : ℕ) (w : Option (Tail × ℕ)) → i < length run → b ≡ get_or run i 0 → IsAt run i w → char_step w b ≡ None → BreaksAt run i
at_break run i b w lt is a e =
    let here : Here run i b = drop_more run i 0 lt ∙ ap (λ (x : ℕ). x ∷ drop (i + 1) run) (sym is) in
    let p = here_plain run i b here a.plain in (
      omega arith,
      λ rest stop stack slot t.
          let l1 = lengths run rest i in let l2 = length-append run rest in
          let n : length (drop i run ++ rest) ≡ length (run ++ rest) - i = omega (arith, l1, l2) in
          a.same rest stack slot t ∙ ap (λ (xs : List ℕ). at_text stack slot (t ++ take i run) (inner_of w) (xs ++ rest)) here
          ∙ text_stuck stack slot (t ++ take i run) (inner_of w) b (drop (i + 1) run ++ rest) (char_breaks (t ++ take i run) w b (plain_byte b p.0) e)
          ∙ ap (λ (xs : List ℕ). bad (length (xs ++ rest))) (sym here) ∙ ap bad n,
    )

ascii_no_tail : (kind : Tail) (b : ℕ) → b < 128 → in_tail kind b ≡ false
ascii_no_tail tail.Any b h = rw (lt-leb 128 b h) refl
ascii_no_tail tail.FromA0 b h = let l : b < 160 = omega arith in rw (lt-leb 160 b l) refl
ascii_no_tail tail.UpTo9F b h = rw (lt-leb 128 b h) refl
ascii_no_tail tail.From90 b h = let l : b < 144 = omega arith in rw (lt-leb 144 b l) refl
ascii_no_tail tail.UpTo8F b h = rw (lt-leb 128 b h) refl

-- a run that ends within a character breaks at its end
open_end : (stack : List Frame) (slot : Slot) (t : List ℕ) (kind : Tail) (count : ℕ) (rest : List ℕ) → past_plain rest ≡ rest → at_text stack slot t (m.filling kind count) rest ≡ bad (length rest)
open_end stack slot t kind count [] e = refl
open_end stack slot t kind count (b ∷ bs) e =
    text_stuck stack slot t (m.filling kind count) b bs (rw (ascii_no_tail kind b (stop_low b (stop_byte b bs e))) refl)

pub at_end : (run : List ℕ) (i : ℕ) (w : Option (Tail × ℕ)) → length run ≤ i → i ≤ length run → (IsUtf8 run → ⊥) → IsAt run i w → BreaksAt run (length run)
at_end run i w le ge wrong a = by w a
  where
    whole : take i run ≡ run
    whole = let e : i ≡ length run = omega arith in ap (λ (n : ℕ). take n run) e ∙ take-length run

    by : (w : Option (Tail × ℕ)) → IsAt run i w → BreaksAt run (length run)
    by None a = absurd (wrong (subst IsUtf8 whole a.closes))
    by (Some (kind, count)) a = (
      omega arith,
      λ rest stop stack slot t.
          let l2 = length-append run rest in
          let n : length rest ≡ length (run ++ rest) - length run = omega (arith, l2) in
          a.same rest stack slot t ∙ ap (λ (xs : List ℕ). at_text stack slot (t ++ take i run) (m.filling kind count) (xs ++ rest)) (drop_all i run le)
          ∙ open_end stack slot (t ++ take i run) kind count rest stop ∙ ap bad n,
    )
