-- A text in pieces: runs of plain bytes, and escapes.
use Rattle.std.proofs.Common.{◌≡◌, ◌≢◌, ℕ, ◌+◌, ◌-◌, ◌<◌, ◌≤◌, ◌⊎◌, inl, inr, true, false, List, ◌∷◌, ◌++◌, Result, Ok, Err, refl, ap, subst, sym, ◌∙◌, length, drop, get_or, arith}
use Rattle.std.specs.Prelude.{encode_utf8}
use Rattle.std.proofs.lemmas.Bool.{ne_eqb, lt-ltb, le-leb}
use Rattle.rt_json.specs.Machine as m
use Rattle.rt_json.specs.Machine.{Slot, Outcome, bad, outcome}
use Rattle.rt_json.specs.Reads.{is_plain, past_plain, at_text, InAll, MoreReads, ReadsChar}
use Rattle.rt_json.specs.declared.state.Frame.{Frame}
use Rattle.rt_json.specs.declared.stop.Stop.{Stop}
use Rattle.rt_json.proofs.Chars.{faults_behind}
use Rattle.rt_json.proofs.Runs.{plain_stops, stop_byte}
use Rattle.rt_json.proofs.Steps.{text_goes, text_breaks, text_closes, here}
use Rattle.rt_json.proofs.ByteTests.{order}

-- the text so far leads where the text before led
abbrev pub Leads : List ℕ → ℕ → ℕ → List ℕ → List ℕ → Type 0
Leads bytes at to before text = (stack : List Frame) (slot : Slot) → at_text stack slot before m.between (drop at bytes) ≡ at_text stack slot text m.between (drop to bytes)

abbrev pub Piece : List ℕ → ℕ → ℕ → List ℕ → Type 0
Piece bytes to next piece = InAll (λ stack slot text. at_text stack slot text m.between (drop to bytes) ≡ at_text stack slot (text ++ piece) m.between (drop next bytes))

pub piece_leads : (bytes : List ℕ) (at to next : ℕ) (before text piece after : List ℕ) → Leads bytes at to before text → Piece bytes to next piece → after ≡ text ++ piece → Leads bytes at next before after
piece_leads bytes at to next before text piece after l p is stack slot =
    l stack slot ∙ p stack slot text ∙ ap (λ (xs : List ℕ). at_text stack slot xs m.between (drop next bytes)) (sym is)

backslash_step : (t : List ℕ) (b : ℕ) → b ≡ 92 → m.text_between t b ≡ m.goes t m.escape
backslash_step t b e = subst (λ (x : ℕ). m.text_between t x ≡ m.goes t m.escape) (sym e) refl

quote_step : (t : List ℕ) (b : ℕ) → b ≡ 34 → m.text_between t b ≡ m.closed
quote_step t b e = subst (λ (x : ℕ). m.text_between t x ≡ m.closed) (sym e) refl

pub escape_leads : (bytes : List ℕ) (at next after ch : ℕ) (before text more : List ℕ) → Leads bytes at next before text → next < length bytes → get_or bytes next 0 ≡ 92
    → ReadsChar m.escape bytes (next + 1) (Ok (ch, after)) → more ≡ text ++ encode_utf8 ch → Leads bytes at after before more
escape_leads bytes at next after ch before text more l lt e r is stack slot =
    l stack slot ∙ text_goes bytes next (next + 1) stack slot text text m.between m.escape lt refl (backslash_step text (get_or bytes next 0) e)
    ∙ r.2 stack slot text ∙ ap (λ (xs : List ℕ). at_text stack slot xs m.between (drop after bytes)) (sym is)

-- faults behind what is read
pub escape_fault : (bytes : List ℕ) (at next : ℕ) (before text : List ℕ) (e : Stop) → Leads bytes at next before text → next < length bytes → get_or bytes next 0 ≡ 92
    → ReadsChar m.escape bytes (next + 1) (Err e) → MoreReads bytes at before (Err e)
escape_fault bytes at next before text e l lt is r stack slot =
    faults_behind e _ _ (l stack slot ∙ text_goes bytes next (next + 1) stack slot text text m.between m.escape lt refl (backslash_step text (get_or bytes next 0) is)) (r stack slot text)

-- a control character
pub control_breaks : (bytes : List ℕ) (next : ℕ) (text : List ℕ) → next < length bytes → past_plain (drop next bytes) ≡ drop next bytes → get_or bytes next 0 ≢ 34 → get_or bytes next 0 ≢ 92
    → (stack : List Frame) (slot : Slot) → at_text stack slot text m.between (drop next bytes) ≡ bad (length bytes - next)
control_breaks bytes next text lt stops no34 no92 stack slot = text_breaks bytes next stack slot text m.between lt
    (rw (ne_eqb (get_or bytes next 0) 34 no34, ne_eqb (get_or bytes next 0) 92 no92, lt-ltb (get_or bytes next 0) 32 low) refl)
  where
    is_here : drop next bytes ≡ get_or bytes next 0 ∷ drop (next + 1) bytes
    is_here = here bytes next lt

    stop : is_plain (get_or bytes next 0) ≡ false
    stop = stop_byte (get_or bytes next 0) (drop (next + 1) bytes) (ap past_plain (sym is_here) ∙ stops ∙ is_here)

    by : (get_or bytes next 0 < 32) ⊎ (32 ≤ get_or bytes next 0) → get_or bytes next 0 < 32
    by (inl l) = l
    by (inr l) = let not = stop in let yes : is_plain (get_or bytes next 0) ≡ true = rw (le-leb 32 (get_or bytes next 0) l, ne_eqb (get_or bytes next 0) 34 no34, ne_eqb (get_or bytes next 0) 92 no92) refl in absurd cc

    low : get_or bytes next 0 < 32
    low = by (order (get_or bytes next 0) 32)

pub stops_here : (bytes : List ℕ) (to next : ℕ) → drop next bytes ≡ past_plain (drop to bytes) → past_plain (drop next bytes) ≡ drop next bytes
stops_here bytes to next e = ap past_plain e ∙ plain_stops (drop to bytes) ∙ sym e

-- the quote
pub quote_ends : (bytes : List ℕ) (at next : ℕ) (before text : List ℕ) → at ≤ next → Leads bytes at next before text → next < length bytes → get_or bytes next 0 ≡ 34 → MoreReads bytes at before (Ok (text, next + 1))
quote_ends bytes at next before text le l lt e =
    (omega arith, omega (arith, lt), λ stack slot. l stack slot ∙ text_closes bytes next (next + 1) stack slot text m.between lt refl (quote_step text (get_or bytes next 0) e))

-- the rest of a text from a later place
pub more_from : (bytes : List ℕ) (at to : ℕ) (before text : List ℕ) (r : Result (List ℕ × ℕ) Stop) → at ≤ to → Leads bytes at to before text → MoreReads bytes to text r → MoreReads bytes at before r
more_from bytes at to before text (Ok p) le l h = let k = h.0 in (omega (arith, k), h.1, λ stack slot. l stack slot ∙ h.2 stack slot)
more_from bytes at to before text (Err e) le l h = λ stack slot. faults_behind e _ _ (l stack slot) (h stack slot)
