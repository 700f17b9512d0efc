-- A text cut at a byte, against the text put together.
use Rattle.std.proofs.Common.{◌≡◌, ℕ, suc, ◌+◌, ◌<◌, ◌==◌, nat_lt, Bool, true, false, ◌&&◌, not, cond, List, [], ◌∷◌, ◌++◌, length, take, drop, get_or, Option, Some, None, refl, sym, ap, ◌∙◌, inl, inr, arith}
use Rattle.std.proofs.Math.Seq.{take-append_seam, drop-append-add}
use Rattle.std.proofs.lemmas.Bool.{eqb-true}
use Rattle.std.proofs.lemmas.Bool.Decides.{eqb_tells}
use Rattle.std.proofs.lemmas.Grind.{common_steps}
use Rattle.std.proofs.lemmas.List.Sums.{split_at_first, passes_at_first}
use Rattle.std.specs.List.{list_all, position_or_len, before_first, after_first}
use Rattle.rt_filter.specs.Written.{lacks, cut}
use Rattle.rt_filter.proofs.Options.{some_if_gives}

-- the first such byte stands behind what lacks it
first-append : (b : ℕ) (xs ys : List ℕ) → lacks b xs ≡ true → position_or_len (λ c. c == b) (xs ++ b ∷ ys) ≡ length xs
first-append b [] ys h = elim (eqb_tells b b) [ inl e ↦ rw e.0 refl | inr e ↦ absurd (e.1 refl) ]
first-append b (x ∷ xs) ys h =
    elim (eqb_tells x b) [
      | inl e ↦ absurd (let f : false ≡ true = (rw e.0 at h) in cc)
      | inr e ↦ (let r = first-append b xs ys (rw e.0 at h) in rw (e.0, r) (omega arith))
    ]

pub cut-append : (b : ℕ) (xs ys : List ℕ) → lacks b xs ≡ true → cut b (xs ++ b ∷ ys) ≡ Some (xs, ys)
cut-append b xs ys h =
    let fits : nat_lt (length xs) (length (xs ++ b ∷ ys)) ≡ true = grind (arith, common_steps) in
    let front = take-append_seam xs (b ∷ ys) in
    let back : drop (length xs + 1) (xs ++ b ∷ ys) ≡ ys = drop-append-add xs (b ∷ ys) 1 in
    rw (first-append b xs ys h, fits, front, back) refl

lacks_before : (b : ℕ) (xs : List ℕ) → lacks b (before_first (λ c. c == b) xs) ≡ true
lacks_before b [] = refl
lacks_before b (x ∷ xs) =
    let n = position_or_len (λ c. c == b) xs in
    let one : take (1 + n) (x ∷ xs) ≡ x ∷ take n xs = (let o : 1 + n ≡ suc n = omega arith in ap (λ (k : ℕ). take k (x ∷ xs)) o) in
    elim (eqb_tells x b) [
      | inl e ↦ rw e.0 refl
      | inr e ↦ ap (λ (v : Bool). lacks b (take (cond (not v) (1 + n) 0) (x ∷ xs))) e.0 ∙ ap (lacks b) one ∙ ap (λ (v : Bool). not v && lacks b (take n xs)) e.0 ∙ lacks_before b xs
    ]

pub cut_parts : (b : ℕ) (bytes : List ℕ) (c : List ℕ × List ℕ) → cut b bytes ≡ Some c → (bytes ≡ c.0 ++ b ∷ c.1) × (lacks b c.0 ≡ true)
cut_parts b bytes c h =
    let is : ℕ → Bool = λ x. x == b in
    let e = some_if_gives (nat_lt (position_or_len is bytes) (length bytes)) (before_first is bytes, after_first is bytes) c h in
    let near : position_or_len is bytes < length bytes = grind arith in
    let whole = split_at_first is bytes 0 near in
    let same = eqb-true _ b (passes_at_first is bytes 0 near) in
    (rw (← e.1) (rw same at whole), rw (← e.1) (lacks_before b bytes))
