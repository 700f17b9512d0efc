-- Two texts of bytes, compared to their ends.
use Rattle.std.proofs.Common.{◌≡◌, ℕ, ◌+◌, ◌<◌, ◌≤◌, min, List, [], length, drop, get_or, refl, ap, sym, ◌∙◌, arith}
use Rattle.std.specs.Prelude.{Bool, true, false, ◌&&◌, ◌==◌}
use Rattle.std.specs.Str.{bytes_eq}
use Rattle.std.proofs.lemmas.List.{drop_more, drop_all}

pub one_more : (tag wanted : List ℕ) (n a b : ℕ) (same : Bool) → n < length tag → n < length wanted → a ≡ get_or tag n 0 → b ≡ get_or wanted n 0
    → ((same && (a == b)) && bytes_eq (drop (n + 1) tag) (drop (n + 1) wanted)) ≡ (same && bytes_eq (drop n tag) (drop n wanted))
one_more tag wanted n a b same lt lw ea eb =
    rw (drop_more tag n 0 lt, drop_more wanted n 0 lw, sym ea, sym eb) (assoc same)
  where
    assoc : (s : Bool) → ((s && (a == b)) && bytes_eq (drop (n + 1) tag) (drop (n + 1) wanted)) ≡ (s && ((a == b) && bytes_eq (drop (n + 1) tag) (drop (n + 1) wanted)))
    assoc true = refl
    assoc false = refl

pub all_compared : (tag wanted : List ℕ) (n : ℕ) (same : Bool) → n ≡ min (length tag) (length wanted) → (same ≡ true → length tag ≡ length wanted)
    → (same && bytes_eq (drop n tag) (drop n wanted)) ≡ bytes_eq tag wanted → same ≡ bytes_eq tag wanted
all_compared tag wanted n false e long h = h
all_compared tag wanted n true e long h =
    let l = long refl in
    let past_tag : length tag ≤ n = omega arith in
    let past_wanted : length wanted ≤ n = omega arith in
    ap (λ (xs : List ℕ). bytes_eq xs []) (sym (drop_all n tag past_tag)) ∙ ap (λ (ys : List ℕ). bytes_eq (drop n tag) ys) (sym (drop_all n wanted past_wanted)) ∙ h
