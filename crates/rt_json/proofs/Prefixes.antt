-- What stands before the first byte that stops a run, as a list.
use Rattle.std.proofs.Common.{◌≡◌, ℕ, suc, ◌+◌, ◌-◌, ◌<◌, ◌≤◌, Bool, true, false, cond, List, [], ◌∷◌, ◌++◌, refl, sym, ap, subst, ◌∙◌, length, drop, take, get_or, arith, append_assoc, append-nil, flat_map, length-drop}
use Rattle.std.specs.Prelude.{◌&&◌, nat_lt, IsUtf8}
use Rattle.std.proofs.lemmas.Bool.{eqb-false, ltb-true, and_parts}
use Rattle.std.proofs.lemmas.List.{drop-drop, drop_more, drop_all, drop-append-le, take-append-le}
use Rattle.std.proofs.lemmas.Str.{encode_ascii, IsUtf8-append, IsUtf8-encode, IsUtf8-nil}
use Rattle.std.specs.List.{prefix_len, list_all}
use lib.Utf8.{low_scalar}
use Rattle.rt_json.specs.Reads.{is_plain, is_ascii_plain, choose, past_plain}
use Rattle.rt_json.specs.Written.{written_byte, quoted}
use Rattle.rt_json.proofs.Escapes.{flat-append, plain_written}
use Rattle.rt_json.proofs.Runs.{plain_run, plain_byte}
use Rattle.rt_json.proofs.Steps.{slice_rest, slice_is}

one_more : (n : ℕ) → 1 + n ≡ suc n
one_more n = omega arith

past_plain_is : (xs : List ℕ) → drop (prefix_len is_plain xs) xs ≡ past_plain xs
past_plain_is [] = refl
past_plain_is (b ∷ bs) = by (is_plain b) (past_plain_is bs)
  where
    by : (x : Bool) → drop (prefix_len is_plain bs) bs ≡ past_plain bs → drop (cond x (1 + prefix_len is_plain bs) 0) (b ∷ bs) ≡ choose x (past_plain bs) (b ∷ bs)
    by true h = ap (λ (k : ℕ). drop k (b ∷ bs)) (one_more (prefix_len is_plain bs)) ∙ h
    by false h = refl

pub past_plain_behind : (bytes : List ℕ) (at to : ℕ) → to ≡ at + prefix_len is_plain (drop at bytes) → drop to bytes ≡ past_plain (drop at bytes)
past_plain_behind bytes at to e = ap (λ (n : ℕ). drop n bytes) e ∙ sym (drop-drop (prefix_len is_plain (drop at bytes)) at bytes) ∙ past_plain_is (drop at bytes)

-- a slice up to a byte that stops is a run of bytes that pass
pub plain_slice : (bytes : List ℕ) (from to : ℕ) → from ≤ to → to ≤ length bytes → drop to bytes ≡ past_plain (drop from bytes) → list_all is_plain (take (to - from) (drop from bytes)) ≡ true
plain_slice bytes from to order within e =
    let r = plain_run (drop from bytes) in
    let is = slice_is bytes r.run from to order within (r.parts ∙ ap (λ (xs : List ℕ). r.run ++ xs) (sym e)) in
    ap (list_all is_plain) (sym is) ∙ r.plain

-- a part of what the bytes begin with from a place on
pub same_part : (bytes text rest : List ℕ) (from at to : ℕ) → from ≤ at → at ≤ to → to - from ≤ length text → drop from bytes ≡ text ++ rest
    → take ((to - from) - (at - from)) (drop (at - from) text) ≡ take (to - at) (drop at bytes)
same_part bytes text rest from at to f le within e =
    let n : (to - from) - (at - from) ≡ to - at = omega (arith, f, le) in
    let place : from + (at - from) ≡ at = omega (arith, f) in
    let short : to - at ≤ length (drop (at - from) text) = omega (arith, length-drop (at - from) text, f, le, within) in
    let there : drop at bytes ≡ drop (at - from) text ++ rest =
    ap (λ (k : ℕ). drop k bytes) (sym place) ∙ sym (drop-drop (at - from) from bytes) ∙ ap (drop (at - from)) e ∙ drop-append-le (at - from) text rest (omega (arith, f, le, within)) in
    ap (λ (k : ℕ). take k (drop (at - from) text)) n ∙ sym (take-append-le (to - at) (drop (at - from) text) rest short) ∙ ap (take (to - at)) (sym there)

front_passes : (q : ℕ → Bool) (xs : List ℕ) → list_all q (take (prefix_len q xs) xs) ≡ true
front_passes q [] = refl
front_passes q (x ∷ xs) = by (q x) refl (front_passes q xs)
  where
    by : (b : Bool) → q x ≡ b → list_all q (take (prefix_len q xs) xs) ≡ true → list_all q (take (cond b (1 + prefix_len q xs) 0) (x ∷ xs)) ≡ true
    by true e h =
        ap (λ (k : ℕ). list_all q (take k (x ∷ xs))) (one_more (prefix_len q xs)) ∙ ap (λ (b : Bool). b && list_all q (take (prefix_len q xs) xs)) e ∙ h
    by false e h = refl

pub ascii_slice : (bytes : List ℕ) (from to : ℕ) → to ≡ from + prefix_len is_ascii_plain (drop from bytes) → list_all is_ascii_plain (take (to - from) (drop from bytes)) ≡ true
ascii_slice bytes from to e =
    let n : to - from ≡ prefix_len is_ascii_plain (drop from bytes) = omega (arith, e) in
    ap (λ (k : ℕ). list_all is_ascii_plain (take k (drop from bytes))) n ∙ front_passes is_ascii_plain (drop from bytes)

pub ascii_plain : (run : List ℕ) → list_all is_ascii_plain run ≡ true → list_all is_plain run ≡ true
ascii_plain [] h = refl
ascii_plain (b ∷ bs) h =
    let t = and_parts (is_ascii_plain b) (list_all is_ascii_plain bs) h in
    let u = and_parts (is_plain b) (nat_lt b 128) t.0 in
    rw (u.0, ascii_plain bs t.1) refl

pub ascii_utf8 : (run : List ℕ) → list_all is_ascii_plain run ≡ true → IsUtf8 run
ascii_utf8 [] h = IsUtf8-nil
ascii_utf8 (b ∷ bs) h =
    let t = and_parts (is_ascii_plain b) (list_all is_ascii_plain bs) h in
    let u = and_parts (is_plain b) (nat_lt b 128) t.0 in
    let lt : b < 128 = ltb-true b 128 u.1 in
    IsUtf8-append (b ∷ []) bs (subst IsUtf8 (encode_ascii b lt) (IsUtf8-encode b (low_scalar b (omega (arith, lt))))) (ascii_utf8 bs t.1)

-- a run of plain bytes is written as it is
run_as_it_is : (run : List ℕ) → list_all is_plain run ≡ true → flat_map written_byte run ≡ run
run_as_it_is [] h = refl
run_as_it_is (b ∷ bs) h =
    let t = and_parts (is_plain b) (list_all is_plain bs) h in
    let p = plain_byte b t.0 in
    ap (λ (xs : List ℕ). xs ++ flat_map written_byte bs) (plain_written b p.low (eqb-false b 34 p.no_quote) (eqb-false b 92 p.no_backslash)) ∙ ap (λ (xs : List ℕ). b ∷ xs) (run_as_it_is bs t.1)

abbrev flat : List ℕ → List ℕ
flat = flat_map written_byte

run_written : (bytes : List ℕ) (at to : ℕ) → at ≤ to → to ≤ length bytes → drop to bytes ≡ past_plain (drop at bytes) → flat (drop at bytes) ≡ take (to - at) (drop at bytes) ++ flat (drop to bytes)
run_written bytes at to le within e =
    let run : List ℕ = take (to - at) (drop at bytes) in
    ap flat (slice_rest bytes at to le) ∙ flat-append run (drop to bytes) ∙ ap (λ (xs : List ℕ). xs ++ flat (drop to bytes)) (run_as_it_is run (plain_slice bytes at to le within e))

run_out : (bytes : List ℕ) (at to : ℕ) (before after whole : List ℕ) → at ≤ to → to ≤ length bytes → drop to bytes ≡ past_plain (drop at bytes) → before ++ flat (drop at bytes) ≡ whole
    → after ≡ before ++ take (to - at) (drop at bytes) → after ++ flat (drop to bytes) ≡ whole
run_out bytes at to before after whole le within e h is =
    let run : List ℕ = take (to - at) (drop at bytes) in
    ap (λ (xs : List ℕ). xs ++ flat (drop to bytes)) is ∙ append_assoc before run (flat (drop to bytes)) ∙ ap (λ (xs : List ℕ). before ++ xs) (sym (run_written bytes at to le within e)) ∙ h

-- a run and the byte behind it are written
pub text_goes_on : (bytes : List ℕ) (at to : ℕ) (before after last whole : List ℕ) → at ≤ to → to < length bytes → drop to bytes ≡ past_plain (drop at bytes) → before ++ flat_map written_byte (drop at bytes) ≡ whole
    → after ≡ before ++ take (to - at) (drop at bytes) → last ≡ after ++ written_byte (get_or bytes to 0) → last ++ flat_map written_byte (drop (to + 1) bytes) ≡ whole
text_goes_on bytes at to before after last whole le lt e h is ends =
    let b : ℕ = get_or bytes to 0 in
    let rest : List ℕ = drop (to + 1) bytes in
    ap (λ (xs : List ℕ). xs ++ flat rest) ends ∙ append_assoc after (written_byte b) (flat rest) ∙ ap (λ (xs : List ℕ). after ++ flat xs) (sym (drop_more bytes to 0 lt))
    ∙ run_out bytes at to before after whole le (omega (arith, lt)) e h is

-- the last run is written, and the quote
pub text_is_written : (bytes : List ℕ) (at to : ℕ) (old before after last : List ℕ) → at ≤ to → to ≡ length bytes → drop to bytes ≡ past_plain (drop at bytes)
    → before ++ flat_map written_byte (drop at bytes) ≡ old ++ 34 ∷ flat_map written_byte bytes → after ≡ before ++ take (to - at) (drop at bytes) → last ≡ after ++ 34 ∷ [] → last ≡ old ++ quoted bytes
text_is_written bytes at to old before after last le all e h is ends =
    let none : drop to bytes ≡ [] = drop_all to bytes (omega (arith, all)) in
    let whole : after ++ flat (drop to bytes) ≡ old ++ 34 ∷ flat bytes = run_out bytes at to before after (old ++ 34 ∷ flat bytes) le (omega (arith, all)) e h is in
    let same : after ≡ old ++ 34 ∷ flat bytes = sym (append-nil after) ∙ ap (λ (xs : List ℕ). after ++ flat xs) (sym none) ∙ whole in
    ends ∙ ap (λ (xs : List ℕ). xs ++ 34 ∷ []) same ∙ append_assoc old (34 ∷ flat bytes) (34 ∷ [])
