-- A step of the reader from a place on.
use Rattle.std.proofs.Common.{◌≡◌, ℕ, ◌+◌, ◌-◌, ◌<◌, ◌≤◌, Bool, false, List, ◌∷◌, ◌++◌, refl, ap, sym, ◌∙◌, length, drop, take, get_or, arith, length-append, length-drop}
use Rattle.std.proofs.lemmas.List.{drop_more, drop_all, take-append-drop, drop-drop, take_at}
use Rattle.rt_value.specs.Places.{next, stuck}
use Rattle.rt_json.specs.Grammar.{max_levels}
use Rattle.rt_json.specs.Machine as m
use Rattle.rt_json.specs.Machine.{State, Slot, Inner, Outcome, bad, too_deep, outcome, is_deep}
use Rattle.rt_json.specs.Reads.{at_text}
use Rattle.rt_json.specs.declared.state.Frame.{Frame}

pub next_outcome : (s t : State) (b : ℕ) (bs : List ℕ) → m.byte_step max_levels s b ≡ next t → outcome s (b ∷ bs) ≡ outcome t bs
next_outcome s t b bs e = ap (m.goes_on (λ u. outcome u bs) (is_deep max_levels s b) (length (b ∷ bs))) e

pub stuck_outcome : (s : State) (b : ℕ) (bs : List ℕ) (is : Bool) → m.byte_step max_levels s b ≡ stuck → is_deep max_levels s b ≡ is → outcome s (b ∷ bs) ≡ m.stopped is (length (b ∷ bs))
stuck_outcome s b bs is e f =
    ap (m.goes_on (λ u. outcome u bs) (is_deep max_levels s b) (length (b ∷ bs))) e ∙ ap (λ (x : Bool). m.stopped x (length (b ∷ bs))) f

-- what is left from a place on
pub here : (bytes : List ℕ) (at : ℕ) → at < length bytes → drop at bytes ≡ get_or bytes at 0 ∷ drop (at + 1) bytes
here bytes at lt = drop_more bytes at 0 lt

pub left_here : (bytes : List ℕ) (at : ℕ) → at < length bytes → length (get_or bytes at 0 ∷ drop (at + 1) bytes) ≡ length bytes - at
left_here bytes at lt = ap length (sym (here bytes at lt)) ∙ length-drop at bytes

pub goes : (bytes : List ℕ) (at to : ℕ) (s t : State) → at < length bytes → to ≡ at + 1 → m.byte_step max_levels s (get_or bytes at 0) ≡ next t
    → outcome s (drop at bytes) ≡ outcome t (drop to bytes)
goes bytes at to s t lt is e =
    ap (outcome s) (here bytes at lt) ∙ next_outcome s t (get_or bytes at 0) (drop (at + 1) bytes) e ∙ ap (λ (n : ℕ). outcome t (drop n bytes)) (sym is)

pub stops : (bytes : List ℕ) (at : ℕ) (s : State) (is : Bool) → at < length bytes → m.byte_step max_levels s (get_or bytes at 0) ≡ stuck → is_deep max_levels s (get_or bytes at 0) ≡ is
    → outcome s (drop at bytes) ≡ m.stopped is (length bytes - at)
stops bytes at s is lt e f =
    ap (outcome s) (here bytes at lt) ∙ stuck_outcome s (get_or bytes at 0) (drop (at + 1) bytes) is e f ∙ ap (m.stopped is) (left_here bytes at lt)

-- in a text
pub text_next : (stack : List Frame) (slot : Slot) (t u : List ℕ) (i k : Inner) (b : ℕ) (bs : List ℕ) → m.text_step t i b ≡ m.goes u k
    → at_text stack slot t i (b ∷ bs) ≡ at_text stack slot u k bs
text_next stack slot t u i k b bs e = next_outcome (m.in_text stack slot t i) (m.in_text stack slot u k) b bs (ap (m.text_next stack slot t) e)

pub text_stuck : (stack : List Frame) (slot : Slot) (t : List ℕ) (i : Inner) (b : ℕ) (bs : List ℕ) → m.text_step t i b ≡ m.broken → at_text stack slot t i (b ∷ bs) ≡ bad (length (b ∷ bs))
text_stuck stack slot t i b bs e = stuck_outcome (m.in_text stack slot t i) b bs false (ap (m.text_next stack slot t) e) refl

pub text_goes : (bytes : List ℕ) (at to : ℕ) (stack : List Frame) (slot : Slot) (t u : List ℕ) (i k : Inner) → at < length bytes → to ≡ at + 1 → m.text_step t i (get_or bytes at 0) ≡ m.goes u k
    → at_text stack slot t i (drop at bytes) ≡ at_text stack slot u k (drop to bytes)
text_goes bytes at to stack slot t u i k lt is e = goes bytes at to (m.in_text stack slot t i) (m.in_text stack slot u k) lt is (ap (m.text_next stack slot t) e)

pub text_breaks : (bytes : List ℕ) (at : ℕ) (stack : List Frame) (slot : Slot) (t : List ℕ) (i : Inner) → at < length bytes → m.text_step t i (get_or bytes at 0) ≡ m.broken
    → at_text stack slot t i (drop at bytes) ≡ bad (length bytes - at)
text_breaks bytes at stack slot t i lt e = stops bytes at (m.in_text stack slot t i) false lt (ap (m.text_next stack slot t) e) refl

pub text_closes : (bytes : List ℕ) (at to : ℕ) (stack : List Frame) (slot : Slot) (t : List ℕ) (i : Inner) → at < length bytes → to ≡ at + 1 → m.text_step t i (get_or bytes at 0) ≡ m.closed
    → at_text stack slot t i (drop at bytes) ≡ outcome (m.given stack slot t) (drop to bytes)
text_closes bytes at to stack slot t i lt is e = goes bytes at to (m.in_text stack slot t i) (m.given stack slot t) lt is (ap (m.text_next stack slot t) e)

pub text_ends : (bytes : List ℕ) (at : ℕ) (stack : List Frame) (slot : Slot) (t : List ℕ) (i : Inner) → length bytes ≤ at → at_text stack slot t i (drop at bytes) ≡ bad 0
text_ends bytes at stack slot t i le = ap (at_text stack slot t i) (drop_all at bytes le)

-- a slice and what follows it
pub slice_rest : (bytes : List ℕ) (at to : ℕ) → at ≤ to → drop at bytes ≡ take (to - at) (drop at bytes) ++ drop to bytes
slice_rest bytes at to le =
    let e : at + (to - at) ≡ to = omega arith in
    sym (take-append-drop (to - at) (drop at bytes)) ∙ ap (λ (xs : List ℕ). take (to - at) (drop at bytes) ++ xs) (drop-drop (to - at) at bytes ∙ ap (λ (n : ℕ). drop n bytes) e)

-- the front of a list that is known in two parts
pub slice_is : (bytes run : List ℕ) (at to : ℕ) → at ≤ to → to ≤ length bytes → drop at bytes ≡ run ++ drop to bytes → run ≡ take (to - at) (drop at bytes)
slice_is bytes run at to le within e =
    let total = ap length e ∙ length-append run (drop to bytes) in
    let l1 = length-drop at bytes in
    let l2 = length-drop to bytes in
    let l : length run ≡ to - at = omega (arith, total, l1, l2) in
    sym (ap (take (to - at)) e ∙ take_at run (drop to bytes) (to - at) l)
