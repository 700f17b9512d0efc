-- The character of an escape.
use Rattle.std.proofs.Common.{◌≡◌, ◌≢◌, ℕ, ◌+◌, ◌-◌, ◌<◌, ◌≤◌, inl, inr, Bool, true, false, List, [], ◌∷◌, ◌++◌, Option, Some, None, Result, Ok, Err, refl, ap, subst, sym, ◌∙◌, length, drop, get_or, arith}
use Rattle.std.specs.Prelude.{◌==◌, ◌||◌, encode_utf8}
use Rattle.std.proofs.lemmas.Bool.{ne_eqb, eq-eqb, eqb-true, or_cases, cond_both}
use Rattle.std.proofs.lemmas.Str.{encode_ascii}
use lib.Utf8.{scalar}
use Rattle.rt_json.specs.Text.{short_escape, is_high, is_low, pair_code}
use Rattle.rt_json.specs.Machine as m
use Rattle.rt_json.specs.Machine.{Slot, Half, Inner, Outcome, bad, outcome}
use Rattle.rt_json.specs.Reads.{at_text, Faults, InAll, ByteReads, UnitReads, PairReads, ReadsChar, after_text}
use Rattle.rt_json.specs.declared.state.Frame.{Frame}
use Rattle.rt_json.specs.declared.stop.Stop.{Stop}
use Rattle.rt_json.specs.declared.stop.Stop.TheVariants as stop
use Rattle.rt_json.proofs.Steps.{text_goes, text_breaks, text_ends}
use Rattle.rt_json.proofs.Units.{byte_faults, half_range}
use Rattle.rt_json.proofs.Hex.{high_range, low_range}
use Rattle.rt_json.proofs.Utf8.{is_a_scalar}

-- a fault behind what is read
pub faults_behind : (e : Stop) (o p : Outcome) → o ≡ p → Faults e p → Faults e o
faults_behind stop.NoMemory o p is h = tt
faults_behind (stop.Bad left) o p is h = is ∙ h
faults_behind (stop.TooDeep left) o p is h = is ∙ h

-- the backslash and the letter before a low half
backslash_not : (u : ℕ) (t : List ℕ) (b : ℕ) → b ≢ 92 → m.text_step t (m.high u) b ≡ m.broken
backslash_not u t b n = rw (ne_eqb b 92 n) refl

letter_not : (u : ℕ) (t : List ℕ) (b : ℕ) → b ≢ 117 → m.text_step t (m.high_backslash u) b ≡ m.broken
letter_not u t b n = rw (ne_eqb b 117 n) refl

backslash_read : (bytes : List ℕ) (at u : ℕ) → ByteReads bytes at 92 (Ok tt) → InAll (λ stack slot t. at_text stack slot t (m.high u) (drop at bytes) ≡ at_text stack slot t (m.high_backslash u) (drop (at + 1) bytes))
backslash_read bytes at u b stack slot t = text_goes bytes at (at + 1) stack slot t t (m.high u) (m.high_backslash u) b.0 refl (rw (eq-eqb (get_or bytes at 0) 92 b.1) refl)

letter_read : (bytes : List ℕ) (at u : ℕ) → ByteReads bytes (at + 1) 117 (Ok tt)
    → InAll (λ stack slot t. at_text stack slot t (m.high_backslash u) (drop (at + 1) bytes) ≡ at_text stack slot t (m.unit0 (m.second_unit u)) (drop (at + 2) bytes))
letter_read bytes at u b stack slot t =
    text_goes bytes (at + 1) (at + 2) stack slot t t (m.high_backslash u) (m.unit0 (m.second_unit u)) b.0 (omega arith) (rw (eq-eqb (get_or bytes (at + 1) 0) 117 b.1) refl)

pub low_first_err : (bytes : List ℕ) (at : ℕ) (e : Stop) → at ≤ length bytes → ByteReads bytes at 92 (Err e) → PairReads bytes at (Err e)
low_first_err bytes at e within h u = byte_faults bytes at 92 e (m.high u) within (backslash_not u) h

pub low_second_err : (bytes : List ℕ) (at : ℕ) (e : Stop) → ByteReads bytes at 92 (Ok tt) → ByteReads bytes (at + 1) 117 (Err e) → PairReads bytes at (Err e)
low_second_err bytes at e b h u stack slot t =
    let lt = b.0 in
    faults_behind e _ _ (backslash_read bytes at u b stack slot t) (byte_faults bytes (at + 1) 117 e (m.high_backslash u) (omega (arith, lt)) (letter_not u) h stack slot t)

before_low : (bytes : List ℕ) (at u : ℕ) → ByteReads bytes at 92 (Ok tt) → ByteReads bytes (at + 1) 117 (Ok tt)
    → InAll (λ stack slot t. at_text stack slot t (m.high u) (drop at bytes) ≡ at_text stack slot t (m.unit0 (m.second_unit u)) (drop (at + 2) bytes))
before_low bytes at u a b stack slot t = backslash_read bytes at u a stack slot t ∙ letter_read bytes at u b stack slot t

low_ended : (stack : List Frame) (slot : Slot) (t : List ℕ) (h u : ℕ) (rest : List ℕ) → is_low u ≡ true
    → after_text stack slot t (m.unit_ended t (m.second_unit h) u) rest ≡ at_text stack slot (t ++ encode_utf8 (pair_code h u)) m.between rest
low_ended stack slot t h u rest e = rw e refl

-- both at once, by what the unit gives
pub low_is : (bytes : List ℕ) (at : ℕ) (r : Result ℕ Stop) → ByteReads bytes at 92 (Ok tt) → ByteReads bytes (at + 1) 117 (Ok tt) → UnitReads bytes (at + 2) true r → PairReads bytes at r
low_is bytes at (Ok u) a b h =
    let fits = h.0 in let range = low_range u h.2 in (
      omega (arith, fits),
      range.0,
      range.1,
      λ high stack slot t.
          before_low bytes at high a b stack slot t ∙ h.3 (m.second_unit high) tt stack slot t ∙ low_ended stack slot t high u (drop (at + 2 + 4) bytes) h.2
          ∙ ap (λ (n : ℕ). at_text stack slot (t ++ encode_utf8 (pair_code high u)) m.between (drop n bytes)) (omega arith),
    )
low_is bytes at (Err e) a b h = λ high stack slot t. faults_behind e _ _ (before_low bytes at high a b stack slot t) (h (m.second_unit high) tt stack slot t)

-- a unit alone
first_ended : (stack : List Frame) (slot : Slot) (t : List ℕ) (u : ℕ) (rest : List ℕ) → scalar u ≡ true
    → after_text stack slot t (m.unit_ended t m.first_unit u) rest ≡ at_text stack slot (t ++ encode_utf8 u) m.between rest
first_ended stack slot t u rest e = rw e refl

high_ended : (stack : List Frame) (slot : Slot) (t : List ℕ) (u : ℕ) (rest : List ℕ) → scalar u ≡ false → is_high u ≡ true
    → after_text stack slot t (m.unit_ended t m.first_unit u) rest ≡ at_text stack slot t (m.high u) rest
high_ended stack slot t u rest e f = rw (e, f) refl

pub char_err : (bytes : List ℕ) (at : ℕ) (e : Stop) → UnitReads bytes at false (Err e) → ReadsChar (m.unit0 m.first_unit) bytes at (Err e)
char_err bytes at e h = h m.first_unit tt

pub char_one : (bytes : List ℕ) (at u ch : ℕ) → UnitReads bytes at false (Ok u) → scalar u ≡ true → ch ≡ u → ReadsChar (m.unit0 m.first_unit) bytes at (Ok (ch, at + 4))
char_one bytes at u ch h s is =
    let fits = h.0 in (
      omega (arith, fits),
      fits,
      λ stack slot t.
          h.3 m.first_unit tt stack slot t ∙ first_ended stack slot t u (drop (at + 4) bytes) s ∙ ap (λ (x : ℕ). at_text stack slot (t ++ encode_utf8 x) m.between (drop (at + 4) bytes)) (sym is),
    )

-- a unit that is no character is a high half
pub is_high_half : (bytes : List ℕ) (at u : ℕ) → UnitReads bytes at false (Ok u) → scalar u ≡ false → is_high u ≡ true
is_high_half bytes at u h s = half_range u h.1 s h.2

to_high : (bytes : List ℕ) (at u : ℕ) → UnitReads bytes at false (Ok u) → scalar u ≡ false
    → InAll (λ stack slot t. at_text stack slot t (m.unit0 m.first_unit) (drop at bytes) ≡ at_text stack slot t (m.high u) (drop (at + 4) bytes))
to_high bytes at u h s stack slot t = h.3 m.first_unit tt stack slot t ∙ high_ended stack slot t u (drop (at + 4) bytes) s (is_high_half bytes at u h s)

pub char_pair : (bytes : List ℕ) (at u : ℕ) (r : Result (ℕ × ℕ) Stop) → UnitReads bytes at false (Ok u) → scalar u ≡ false → ReadsChar (m.high u) bytes (at + 4) r → ReadsChar (m.unit0 m.first_unit) bytes at r
char_pair bytes at u (Ok p) h s k = let l = k.0 in (omega (arith, l), k.1, λ stack slot t. to_high bytes at u h s stack slot t ∙ k.2 stack slot t)
char_pair bytes at u (Err e) h s k = λ stack slot t. faults_behind e _ _ (to_high bytes at u h s stack slot t) (k stack slot t)

pub pair_ok : (bytes : List ℕ) (at high low ch : ℕ) → PairReads bytes at (Ok low) → ch ≡ pair_code high low → ReadsChar (m.high high) bytes at (Ok (ch, at + 6))
pair_ok bytes at high low ch p is =
    let fits = p.0 in
    (omega arith, fits, λ stack slot t. p.3 high stack slot t ∙ ap (λ (x : ℕ). at_text stack slot (t ++ encode_utf8 x) m.between (drop (at + 6) bytes)) (sym is))

-- the code of a pair is a character
pub pair_scalar : (high low : ℕ) → 55296 ≤ high → high < 56320 → 56320 ≤ low → low < 57344 → scalar (pair_code high low) ≡ true
pair_scalar high low a b k d = is_a_scalar (pair_code high low) (omega arith) (inr (omega arith))

pub no_scalar : (u : ℕ) → (scalar u ≡ true → ⊥) → scalar u ≡ false
no_scalar u n = by (scalar u) n
  where
    by : (x : Bool) → (x ≡ true → ⊥) → x ≡ false
    by true n = absurd (n refl)
    by false n = refl

pub high_from : (bytes : List ℕ) (at u : ℕ) → UnitReads bytes at false (Ok u) → (scalar u ≡ true → ⊥) → (55296 ≤ u) × (u < 56320)
high_from bytes at u h n = high_range u (is_high_half bytes at u h (no_scalar u n))

-- the letter behind a backslash
abbrev IsSmall : Option ℕ → Type 0
IsSmall None = Unit {0}
IsSmall (Some x) = x < 128

small : (b : ℕ) → IsSmall (short_escape b)
small b =
    cond_both ((b == 34) || (b == 92) || (b == 47)) _ _ IsSmall (λ h. itself h)
    (λ _. cond_both (b == 98) _ _ IsSmall (λ _. omega arith) (λ _. cond_both (b == 102) _ _ IsSmall (λ _. omega arith) (λ _. cond_both (b == 110) _ _ IsSmall (λ _. omega arith)
    (λ _. cond_both (b == 114) _ _ IsSmall (λ _. omega arith) (λ _. cond_both (b == 116) _ _ IsSmall (λ _. omega arith) (λ _. tt))))))
  where
    itself : ((b == 34) || (b == 92) || (b == 47)) ≡ true → b < 128
    itself h = elim (or_cases ((b == 34) || (b == 92)) (b == 47) h) [
      | inl k ↦ elim (or_cases (b == 34) (b == 92) k) [ inl e ↦ (let is = eqb-true b 34 e in omega arith) | inr e ↦ (let is = eqb-true b 92 e in omega arith) ]
      | inr e ↦ (let is = eqb-true b 47 e in omega arith)
    ]

short_small : (b ch : ℕ) → short_escape b ≡ Some ch → ch < 128
short_small b ch e = subst IsSmall e (small b)

pub escape_end : (bytes : List ℕ) (at : ℕ) → length bytes ≤ at → ReadsChar m.escape bytes at (Err (stop.Bad 0))
escape_end bytes at le stack slot t = text_ends bytes at stack slot t m.escape le

pub escape_short : (bytes : List ℕ) (at ch : ℕ) → at < length bytes → short_escape (get_or bytes at 0) ≡ Some ch → ReadsChar m.escape bytes at (Ok (ch, at + 1))
escape_short bytes at ch lt e = (
  omega arith,
  omega (arith, lt),
  λ stack slot t.
      text_goes bytes at (at + 1) stack slot t (t ++ ch ∷ []) m.escape m.between lt refl (ap (m.escaped t (get_or bytes at 0)) e)
      ∙ ap (λ (xs : List ℕ). at_text stack slot (t ++ xs) m.between (drop (at + 1) bytes)) (sym (encode_ascii ch (short_small (get_or bytes at 0) ch e))),
)

pub escape_not : (bytes : List ℕ) (at : ℕ) → at < length bytes → short_escape (get_or bytes at 0) ≡ None → get_or bytes at 0 ≢ 117 → ReadsChar m.escape bytes at (Err (stop.Bad (length bytes - at)))
escape_not bytes at lt e n stack slot t =
    text_breaks bytes at stack slot t m.escape lt (ap (m.escaped t (get_or bytes at 0)) e ∙ rw (ne_eqb (get_or bytes at 0) 117 n) refl)

pub escape_unit : (bytes : List ℕ) (at : ℕ) (r : Result (ℕ × ℕ) Stop) → at < length bytes → short_escape (get_or bytes at 0) ≡ None → get_or bytes at 0 ≡ 117
    → ReadsChar (m.unit0 m.first_unit) bytes (at + 1) r → ReadsChar m.escape bytes at r
escape_unit bytes at r lt e is h = by r h
  where
    goes : InAll (λ stack slot t. at_text stack slot t m.escape (drop at bytes) ≡ at_text stack slot t (m.unit0 m.first_unit) (drop (at + 1) bytes))
    goes stack slot t = text_goes bytes at (at + 1) stack slot t t m.escape (m.unit0 m.first_unit) lt refl (ap (m.escaped t (get_or bytes at 0)) e ∙ rw (eq-eqb (get_or bytes at 0) 117 is) refl)

    by : (r : Result (ℕ × ℕ) Stop) → ReadsChar (m.unit0 m.first_unit) bytes (at + 1) r → ReadsChar m.escape bytes at r
    by (Ok p) h = let l = h.0 in (omega (arith, l), h.1, λ stack slot t. goes stack slot t ∙ h.2 stack slot t)
    by (Err x) h = λ stack slot t. faults_behind x _ _ (goes stack slot t) (h stack slot t)
