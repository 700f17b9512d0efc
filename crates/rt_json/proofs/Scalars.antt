-- Numbers and words, from their first byte on.
use Rattle.std.proofs.Common.{◌≡◌, ◌≢◌, ℕ, ◌+◌, ◌-◌, ◌<◌, ◌≤◌, ◌⊎◌, inl, inr, Bool, true, false, List, [], ◌∷◌, ◌++◌, Option, Some, None, Ok, Err, refl, ap, subst, sym, ◌∙◌, length, drop, take, get_or, arith, append_assoc, append-nil, length-drop}
use Rattle.std.specs.Prelude.{◌==◌, ◌||◌, IsUtf8}
use Rattle.std.proofs.lemmas.Bool.{cond_both, eqb-true, ne_eqb, eq-eqb, or_cases, leb-true, and_parts}
use Rattle.std.proofs.lemmas.List.{drop_more, drop_all}
use Rattle.std.proofs.lemmas.Str.{IsUtf8-append, IsUtf8-encode, IsUtf8-nil, encode_ascii}
use lib.Utf8.{low_scalar}
use Rattle.rt_json.specs.Text.{is_digit}
use Rattle.rt_json.specs.Grammar.{max_levels}
use Rattle.rt_json.specs.Machine as m
use Rattle.rt_json.specs.Machine.{State, Outcome, bad, outcome, is_deep, class_of, digits_after, may_end}
use Rattle.rt_json.specs.Reads.{past_digits, digits_on}
use Rattle.rt_json.specs.States.{ValueReads}
use Rattle.rt_json.specs.Words.{word_rest, word_tree}
use Rattle.rt_json.specs.declared.tree.Json.{Json}
use Rattle.rt_json.specs.declared.tree.Json.TheVariants as j
use Rattle.rt_json.specs.declared.state.Frame.{Frame}
use Rattle.rt_json.specs.declared.state.Frame.TheVariants as frame
use Rattle.rt_json.specs.declared.state.Mode.TheVariants as mode
use Rattle.rt_json.specs.declared.bytes.Class.TheVariants as c
use Rattle.rt_json.specs.declared.bytes.Word.{Word}
use Rattle.rt_json.specs.declared.bytes.Word.TheVariants as w
use Rattle.rt_json.specs.declared.bytes.Digits.{Digits}
use Rattle.rt_json.specs.declared.bytes.Digits.TheVariants as d
use Rattle.rt_json.specs.declared.stop.Stop.TheVariants as stop
use Rattle.rt_json.proofs.Classes.{class_means, IsOf}
use Rattle.rt_json.proofs.Numbers.{StartsNumber}
use Rattle.rt_json.proofs.Steps.{next_outcome, stuck_outcome, goes, stops, here, slice_is}
use Rattle.rt_json.proofs.ByteTests.{order}

-- bytes with which a number goes on are ASCII
abbrev IfGoes : ℕ → Option Digits → Type 0
IfGoes b None = Unit {0}
IfGoes b (Some digits) = b < 128

digit_low : (b : ℕ) → is_digit b ≡ true → b < 128
digit_low b h = let t = and_parts _ _ h in let k = leb-true b 57 t.1 in omega arith

at_low : (b n : ℕ) → n < 128 → (b == n) ≡ true → b < 128
at_low b n l e = let is = eqb-true b n e in omega arith

two_low : (b x y : ℕ) → x < 128 → y < 128 → ((b == x) || (b == y)) ≡ true → b < 128
two_low b x y l k h = elim (or_cases (b == x) (b == y) h) [ inl e ↦ at_low b x l e | inr e ↦ at_low b y k e ]

goes_low : (s : Digits) (b : ℕ) → IfGoes b (digits_after s b)
goes_low d.Minus b = cond_both (b == 48) _ _ (IfGoes b) (at_low b 48 (omega arith)) (λ _. cond_both (is_digit b) _ _ (IfGoes b) (digit_low b) (λ _. tt))
goes_low d.Zero b = cond_both (b == 46) _ _ (IfGoes b) (at_low b 46 (omega arith)) (λ _. cond_both ((b == 101) || (b == 69)) _ _ (IfGoes b) (two_low b 101 69 (omega arith) (omega arith)) (λ _. tt))
goes_low d.Whole b =
    cond_both (is_digit b) _ _ (IfGoes b) (digit_low b) (λ _. cond_both (b == 46) _ _ (IfGoes b) (at_low b 46 (omega arith))
    (λ _. cond_both ((b == 101) || (b == 69)) _ _ (IfGoes b) (two_low b 101 69 (omega arith) (omega arith)) (λ _. tt)))
goes_low d.Point b = cond_both (is_digit b) _ _ (IfGoes b) (digit_low b) (λ _. tt)
goes_low d.Fraction b = cond_both (is_digit b) _ _ (IfGoes b) (digit_low b) (λ _. cond_both ((b == 101) || (b == 69)) _ _ (IfGoes b) (two_low b 101 69 (omega arith) (omega arith)) (λ _. tt))
goes_low d.Mark b = cond_both (is_digit b) _ _ (IfGoes b) (digit_low b) (λ _. cond_both ((b == 43) || (b == 45)) _ _ (IfGoes b) (two_low b 43 45 (omega arith) (omega arith)) (λ _. tt))
goes_low d.Sign b = cond_both (is_digit b) _ _ (IfGoes b) (digit_low b) (λ _. tt)
goes_low d.Exponent b = cond_both (is_digit b) _ _ (IfGoes b) (digit_low b) (λ _. tt)

one_ascii : (b : ℕ) → b < 128 → IsUtf8 (b ∷ [])
one_ascii b h = subst IsUtf8 (encode_ascii b h) (IsUtf8-encode b (low_scalar b (omega arith)))

-- the bytes with which a number goes on
pub record IsRun (s : Digits) (xs : List ℕ) (stop : Digits × List ℕ) : Type 0 where
  pub run : List ℕ
  pub parts : xs ≡ run ++ stop.1
  pub utf8 : IsUtf8 run
  pub same : (stack : List Frame) (t : List ℕ) → outcome (m.in_number stack s t) xs ≡ outcome (m.in_number stack stop.0 (t ++ run)) stop.1
  pub ends : (b : ℕ) (bs : List ℕ) → stop.1 ≡ b ∷ bs → digits_after stop.0 b ≡ None

digits_run : (s : Digits) (xs : List ℕ) → IsRun s xs (past_digits s xs)
digits_run s [] = record {
  run = [];
  parts = refl;
  utf8 = IsUtf8-nil;
  same = λ stack t. ap (λ (ys : List ℕ). outcome (m.in_number stack s ys) []) (sym (append-nil t));
  ends = λ b bs e. absurd cc;
}
digits_run s (b ∷ bs) = by (digits_after s b) refl (goes_low s b) (λ k. digits_run k bs)
  where
    by : (o : Option Digits) → digits_after s b ≡ o → IfGoes b o → ((k : Digits) → IsRun k bs (past_digits k bs)) → IsRun s (b ∷ bs) (digits_on (λ k. past_digits k bs) s (b ∷ bs) o)
    by (Some k) e low on = let r = on k in record {
      run = b ∷ r.run;
      parts = ap (λ (ys : List ℕ). b ∷ ys) r.parts;
      utf8 = IsUtf8-append (b ∷ []) r.run (one_ascii b low) r.utf8;
      same = λ stack t.
          next_outcome (m.in_number stack s t) (m.in_number stack k (t ++ b ∷ [])) b bs (ap (m.number_next stack t b (may_end s)) e)
          ∙ r.same stack (t ++ b ∷ []) ∙ ap (λ (ys : List ℕ). outcome (m.in_number stack (past_digits k bs).0 ys) (past_digits k bs).1) (append_assoc t (b ∷ []) r.run);
      ends = r.ends;
    }
    by None e low on = record {
      run = [];
      parts = refl;
      utf8 = IsUtf8-nil;
      same = λ stack t. ap (λ (ys : List ℕ). outcome (m.in_number stack s ys) (b ∷ bs)) (sym (append-nil t));
      ends = λ x ys is. let same : b ≡ x = cc in subst (λ (z : ℕ). digits_after s z ≡ None) same e;
    }

-- the byte behind a number is answered as behind a value
pub past_same : (levels : ℕ) (stack : List Frame) (v : Json) (b : ℕ) → m.byte_step levels (m.completed stack v) b ≡ m.past_value stack v (class_of b)
past_same levels [] v b = refl
past_same levels (frame.Item items ∷ outer) v b = refl
past_same levels (frame.Member members name ∷ outer) v b = refl

no_deep : (stack : List Frame) (v : Json) (b : ℕ) → is_deep max_levels (m.completed stack v) b ≡ false
no_deep [] v b = refl
no_deep (frame.Item items ∷ outer) v b = refl
no_deep (frame.Member members name ∷ outer) v b = refl

-- a number that may end is read
number_done : (stack : List Frame) (s : Digits) (t rest : List ℕ) → may_end s ≡ true → ((b : ℕ) (bs : List ℕ) → rest ≡ b ∷ bs → digits_after s b ≡ None)
    → outcome (m.in_number stack s t) rest ≡ outcome (m.completed stack (j.Num t)) rest
number_done [] s t [] e n = rw e refl
number_done (frame.Item items ∷ outer) s t [] e n = refl
number_done (frame.Member members name ∷ outer) s t [] e n = refl
number_done stack s t (b ∷ bs) e n =
    ap (m.goes_on (λ u. outcome u bs) false (length (b ∷ bs))) (rw (e, n b bs refl) (sym (past_same max_levels stack (j.Num t) b)))
    ∙ ap (λ (x : Bool). m.goes_on (λ u. outcome u bs) x (length (b ∷ bs)) (m.byte_step max_levels (m.completed stack (j.Num t)) b)) (sym (no_deep stack (j.Num t) b))

-- one that may not end stops
number_stops : (stack : List Frame) (s : Digits) (t rest : List ℕ) → may_end s ≡ false → ((b : ℕ) (bs : List ℕ) → rest ≡ b ∷ bs → digits_after s b ≡ None)
    → outcome (m.in_number stack s t) rest ≡ bad (length rest)
number_stops [] s t [] e n = rw e refl
number_stops (frame.Item items ∷ outer) s t [] e n = refl
number_stops (frame.Member members name ∷ outer) s t [] e n = refl
number_stops stack s t (b ∷ bs) e n = stuck_outcome (m.in_number stack s t) b bs false (rw (e, n b bs refl) refl) refl

-- from the first byte on
begins : (bytes : List ℕ) (at : ℕ) (stack : List Frame) (start : Digits) → at < length bytes → class_of (get_or bytes at 0) ≡ c.NumberStart start
    → outcome (m.outside stack mode.Value) (drop at bytes) ≡ outcome (m.in_number stack start (get_or bytes at 0 ∷ [])) (drop (at + 1) bytes)
begins bytes at stack start lt e =
    goes bytes at (at + 1) (m.outside stack mode.Value) (m.in_number stack start (get_or bytes at 0 ∷ [])) lt refl (ap (m.at_value max_levels stack (get_or bytes at 0)) e)

start_low : (b : ℕ) (start : Digits) → StartsNumber b start → b < 128
start_low b d.Minus h = omega (arith, h)
start_low b d.Zero h = omega (arith, h)
start_low b d.Whole h = digit_low b h.0
start_low b d.Point h = absurd h
start_low b d.Fraction h = absurd h
start_low b d.Mark h = absurd h
start_low b d.Sign h = absurd h
start_low b d.Exponent h = absurd h

first_low : (b : ℕ) (start : Digits) → class_of b ≡ c.NumberStart start → b < 128
first_low b start e = start_low b start (subst (IsOf b) e (class_means b))

pub record IsNumberAt (bytes : List ℕ) (at to : ℕ) (digits : Digits) : Type 0 where
  pub utf8 : IsUtf8 (take (to - at) (drop at bytes))
  pub same : (stack : List Frame) → outcome (m.outside stack mode.Value) (drop at bytes) ≡ outcome (m.in_number stack digits (take (to - at) (drop at bytes))) (drop to bytes)
  pub ends : (b : ℕ) (bs : List ℕ) → drop to bytes ≡ b ∷ bs → digits_after digits b ≡ None

pub number_at : (bytes : List ℕ) (at to : ℕ) (start digits : Digits) → at < length bytes → at + 1 ≤ to → to ≤ length bytes → class_of (get_or bytes at 0) ≡ c.NumberStart start
    → past_digits start (drop (at + 1) bytes) ≡ (digits, drop to bytes) → IsNumberAt bytes at to digits
number_at bytes at to start digits lt order within e past =
    let b : ℕ = get_or bytes at 0 in
    let r = subst (IsRun start (drop (at + 1) bytes)) past (digits_run start (drop (at + 1) bytes)) in
    let whole : drop at bytes ≡ (b ∷ r.run) ++ drop to bytes = here bytes at lt ∙ ap (λ (ys : List ℕ). b ∷ ys) r.parts in
    let is : b ∷ r.run ≡ take (to - at) (drop at bytes) = slice_is bytes (b ∷ r.run) at to (omega arith) within whole in
    record {
      utf8 = subst IsUtf8 is (IsUtf8-append (b ∷ []) r.run (one_ascii b (first_low b start e)) r.utf8);
      same = λ stack. begins bytes at stack start lt e ∙ r.same stack (b ∷ []) ∙ ap (λ (ys : List ℕ). outcome (m.in_number stack digits ys) (drop to bytes)) is;
      ends = r.ends;
    }

pub number_ok : (bytes : List ℕ) (at to : ℕ) (digits : Digits) (text : List ℕ) → at + 1 ≤ to → to ≤ length bytes → IsNumberAt bytes at to digits → may_end digits ≡ true
    → text ≡ take (to - at) (drop at bytes) → ValueReads bytes at (Ok (j.Num text, to))
number_ok bytes at to digits text order within n may is = (
  omega arith,
  within,
  λ stack.
      n.same stack ∙ number_done stack digits (take (to - at) (drop at bytes)) (drop to bytes) may n.ends ∙ ap (λ (ys : List ℕ). outcome (m.completed stack (j.Num ys)) (drop to bytes)) (sym is),
)

pub number_err : (bytes : List ℕ) (at to : ℕ) (digits : Digits) → IsNumberAt bytes at to digits → may_end digits ≡ false → ValueReads bytes at (Err (stop.Bad (length bytes - to)))
number_err bytes at to digits n may = λ stack.
    n.same stack ∙ number_stops stack digits (take (to - at) (drop at bytes)) (drop to bytes) may n.ends ∙ ap bad (length-drop to bytes)

-- words
word_starts : (which : Word) (stack : List Frame) → m.word_begun stack which ≡ m.word_left stack (word_rest which) (word_tree which)
word_starts w.Null stack = refl
word_starts w.True stack = refl
word_starts w.False stack = refl

abbrev pub WordLeads : List ℕ → ℕ → ℕ → Word → ℕ → Type 0
WordLeads bytes at to which i = (stack : List Frame) → outcome (m.outside stack mode.Value) (drop at bytes) ≡ outcome (m.word_left stack (drop i (word_rest which)) (word_tree which)) (drop to bytes)

pub word_first : (bytes : List ℕ) (at : ℕ) (which : Word) → at < length bytes → class_of (get_or bytes at 0) ≡ c.WordStart which → WordLeads bytes at (at + 1) which 0
word_first bytes at which lt e stack =
    goes bytes at (at + 1) (m.outside stack mode.Value) (m.word_begun stack which) lt refl (ap (m.at_value max_levels stack (get_or bytes at 0)) e)
    ∙ ap (λ (s : State). outcome s (drop (at + 1) bytes)) (word_starts which stack)

here_letter : (which : Word) (i : ℕ) → i < length (word_rest which) → drop i (word_rest which) ≡ get_or (word_rest which) i 0 ∷ drop (i + 1) (word_rest which)
here_letter which i lt = drop_more (word_rest which) i 0 lt

pub word_next : (bytes : List ℕ) (at to i : ℕ) (which : Word) → i < length (word_rest which) → to < length bytes → get_or bytes to 0 ≡ get_or (word_rest which) i 0 → WordLeads bytes at to which i
    → WordLeads bytes at (to + 1) which (i + 1)
word_next bytes at to i which li lt e h stack =
    h stack ∙ ap (λ (xs : List ℕ). outcome (m.word_left stack xs (word_tree which)) (drop to bytes)) (here_letter which i li)
    ∙ goes bytes to (to + 1) (m.in_word stack (get_or (word_rest which) i 0) (drop (i + 1) (word_rest which)) (word_tree which)) (m.word_left stack (drop (i + 1) (word_rest which)) (word_tree which)) lt refl
    (rw (eq-eqb (get_or bytes to 0) (get_or (word_rest which) i 0) e) refl)

pub word_stops : (bytes : List ℕ) (at to i : ℕ) (which : Word) → i < length (word_rest which) → to ≤ length bytes → (to < length bytes → get_or bytes to 0 ≢ get_or (word_rest which) i 0)
    → WordLeads bytes at to which i → ValueReads bytes at (Err (stop.Bad (length bytes - to)))
word_stops bytes at to i which li le n h stack =
    h stack ∙ ap (λ (xs : List ℕ). outcome (m.word_left stack xs (word_tree which)) (drop to bytes)) (here_letter which i li) ∙ by (order to (length bytes))
  where
    by : (to < length bytes) ⊎ (length bytes ≤ to) → outcome (m.in_word stack (get_or (word_rest which) i 0) (drop (i + 1) (word_rest which)) (word_tree which)) (drop to bytes) ≡ bad (length bytes - to)
    by (inl lt) =
        stops bytes to (m.in_word stack (get_or (word_rest which) i 0) (drop (i + 1) (word_rest which)) (word_tree which)) false lt (rw (ne_eqb (get_or bytes to 0) (get_or (word_rest which) i 0) (n lt)) refl) refl
    by (inr ge) =
        let none : 0 ≡ length bytes - to = omega arith in
        ap (outcome (m.in_word stack (get_or (word_rest which) i 0) (drop (i + 1) (word_rest which)) (word_tree which))) (drop_all to bytes ge) ∙ ap bad none

pub word_ok : (bytes : List ℕ) (at to i : ℕ) (which : Word) (tree : Json) → length (word_rest which) ≤ i → at < to → to ≤ length bytes → tree ≡ word_tree which → WordLeads bytes at to which i → ValueReads bytes at (Ok (tree, to))
word_ok bytes at to i which tree all lt le is h = (
  lt,
  le,
  λ stack. h stack ∙ ap (λ (xs : List ℕ). outcome (m.word_left stack xs (word_tree which)) (drop to bytes)) (drop_all i (word_rest which) all)
      ∙ ap (λ (v : Json). outcome (m.completed stack v) (drop to bytes)) (sym is),
)
