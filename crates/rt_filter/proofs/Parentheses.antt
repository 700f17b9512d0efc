-- A text in parentheses, put together and taken apart.
use Rattle.std.proofs.Common.{◌≡◌, ℕ, ◌+◌, ◌-◌, ◌<◌, ◌≤◌, ◌==◌, ◌≢◌, suc, nat_lt, Bool, true, false, ◌&&◌, List, [], ◌∷◌, ◌++◌, length, take, drop, Option, Some, None, codes, refl, sym, ap, ◌∙◌, arith, length-append}
use Rattle.std.proofs.Math.Seq.{take-append_seam, drop-append_seam}
use Rattle.std.proofs.lemmas.Bool.{ltb-true, and_parts}
use Rattle.std.proofs.lemmas.Grind.{common_steps}
use Rattle.std.proofs.lemmas.List.{take-append-drop}
use Rattle.std.proofs.lemmas.Slice.Eq.{bytes_eq-Decides}
use Rattle.std.specs.Str.{bytes_eq}
use Rattle.rt_filter.specs.Written.{is_in_parentheses, inside}
use Rattle.rt_filter.proofs.Options.{some_if_gives, none_unless}

pub inside-append : (texts : List ℕ) → nat_lt 0 (length texts) ≡ true → inside ((40 ∷ texts) ++ 41 ∷ []) ≡ Some texts
inside-append texts h =
    let whole : List ℕ = (40 ∷ texts) ++ 41 ∷ [] in
    let long : length whole ≡ length texts + 2 = omega (arith, length-append (40 ∷ texts) (41 ∷ [])) in
    let some : nat_lt 2 (length whole) ≡ true = grind arith in
    let last : drop (length whole - 1) whole ≡ 41 ∷ [] =
    (let e : length whole - 1 ≡ length (40 ∷ texts) = omega arith in ap (λ (n : ℕ). drop n whole) e ∙ drop-append_seam (40 ∷ texts) (41 ∷ [])) in
    let mid : take (length whole - 2) (drop 1 whole) ≡ texts =
    (let e : length whole - 2 ≡ length texts = omega arith in ap (λ (n : ℕ). take n (texts ++ 41 ∷ [])) e ∙ take-append_seam texts (41 ∷ [])) in
    rw (some, last, mid) refl

in_parentheses : (bytes texts : List ℕ) → take 1 bytes ≡ 40 ∷ [] → drop (length bytes - 1) bytes ≡ 41 ∷ [] → take (length bytes - 2) (drop 1 bytes) ≡ texts
    → 2 < length bytes → bytes ≡ (40 ∷ texts) ++ 41 ∷ []
in_parentheses [] texts first last mid long = absurd (omega arith)
in_parentheses (b ∷ bs) texts first last mid long =
    let head : b ≡ 40 = (let e : b ∷ [] ≡ 40 ∷ [] = first in (cc)) in
    let e : length (b ∷ bs) - 1 ≡ length bs = omega arith in
    let n : length (b ∷ bs) - 2 ≡ length bs - 1 = omega arith in
    let m : length bs ≡ suc (length bs - 1) = omega arith in
    let front : take (length bs - 1) bs ≡ texts = ap (λ (k : ℕ). take k bs) (sym n) ∙ mid in
    let back : drop (length bs - 1) bs ≡ 41 ∷ [] = ap (λ (k : ℕ). drop k (b ∷ bs)) (sym m) ∙ ap (λ (k : ℕ). drop k (b ∷ bs)) (sym e) ∙ last in
    ap (λ (x : ℕ). x ∷ bs) head ∙ ap (λ (l : List ℕ). 40 ∷ l) (sym (take-append-drop (length bs - 1) bs) ∙ ap (λ (l : List ℕ). l ++ drop (length bs - 1) bs) front ∙ ap (λ (l : List ℕ). texts ++ l) back)

pub inside_parts : (bytes texts : List ℕ) → inside bytes ≡ Some texts → (bytes ≡ (40 ∷ texts) ++ 41 ∷ []) × (nat_lt 2 (length bytes) ≡ true)
inside_parts bytes texts h =
    let e = some_if_gives (is_in_parentheses bytes) (take (length bytes - 2) (drop 1 bytes)) texts h in
    let a = and_parts (nat_lt 2 (length bytes) && bytes_eq (take 1 bytes) (codes "(")) (bytes_eq (drop (length bytes - 1) bytes) (codes ")")) e.0 in
    let b = and_parts (nat_lt 2 (length bytes)) (bytes_eq (take 1 bytes) (codes "(")) a.0 in
    let first : take 1 bytes ≡ 40 ∷ [] = (bytes_eq-Decides (take 1 bytes) (40 ∷ [])).0 b.1 in
    let last : drop (length bytes - 1) bytes ≡ 41 ∷ [] = (bytes_eq-Decides (drop (length bytes - 1) bytes) (41 ∷ [])).0 a.1 in
    (in_parentheses bytes texts first last e.1 (ltb-true _ _ b.0), b.0)

pub inside-no_front : (bytes : List ℕ) → ((rest : List ℕ) → bytes ≢ 40 ∷ rest) → inside bytes ≡ None
inside-no_front bytes f = none_unless (inside bytes) (λ t e. f (t ++ 41 ∷ []) (inside_parts bytes t e).0)

pub inside-no_end : (bytes rest : List ℕ) → bytes ≡ 40 ∷ rest → ((front : List ℕ) → rest ≢ front ++ 41 ∷ []) → inside bytes ≡ None
inside-no_end bytes rest h f =
    none_unless (inside bytes)
    (λ t e. f t (let g : 40 ∷ rest ≡ 40 ∷ (t ++ 41 ∷ []) = sym h ∙ (inside_parts bytes t e).0 in (cc)))
