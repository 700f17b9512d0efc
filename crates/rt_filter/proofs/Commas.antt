-- Texts with commas between them, put together and taken apart.
use Rattle.std.proofs.Common.{◌≡◌, ℕ, ◌==◌, Bool, true, false, ◌&&◌, not, cond, List, [], ◌∷◌, ◌++◌, refl, sym, ap, ◌∙◌, inl, inr}
use Rattle.std.proofs.lemmas.Bool.{and_parts}
use Rattle.std.proofs.lemmas.Bool.Decides.{eqb_tells}
use Rattle.std.specs.List.{list_all, join_with_byte, slice_split, onto_first}
use Rattle.rt_filter.specs.Written.{lacks}

split_part : (xs ys : List ℕ) → lacks 44 xs ≡ true → slice_split (λ b. b == 44) (xs ++ 44 ∷ ys) ≡ xs ∷ slice_split (λ b. b == 44) ys
split_part [] ys h = refl
split_part (x ∷ xs) ys h =
    elim (eqb_tells x 44) [
      | inl e ↦ absurd (let f : false ≡ true = (rw e.0 at h) in cc)
      | inr e ↦ (let r = split_part xs ys (rw e.0 at h) in rw (e.0, r) refl)
    ]

split_alone : (xs : List ℕ) → lacks 44 xs ≡ true → slice_split (λ b. b == 44) xs ≡ xs ∷ []
split_alone [] h = refl
split_alone (x ∷ xs) h =
    elim (eqb_tells x 44) [
      | inl e ↦ absurd (let f : false ≡ true = (rw e.0 at h) in cc)
      | inr e ↦ (let r = split_alone xs (rw e.0 at h) in rw (e.0, r) refl)
    ]

pub slice_split-join_with_byte : (p : List ℕ) (ps : List (List ℕ)) → list_all (lacks 44) (p ∷ ps) ≡ true
    → slice_split (λ b. b == 44) (join_with_byte 44 (p ∷ ps)) ≡ p ∷ ps
slice_split-join_with_byte p [] h = split_alone p (and_parts (lacks 44 p) true h).0
slice_split-join_with_byte p (q ∷ qs) h =
    let w = and_parts (lacks 44 p) (list_all (lacks 44) (q ∷ qs)) h in
    split_part p (join_with_byte 44 (q ∷ qs)) w.0 ∙ ap (λ (l : List (List ℕ)). p ∷ l) (slice_split-join_with_byte q qs w.1)

onto_lacks : (b : ℕ) (parts : List (List ℕ)) → (b == 44) ≡ false → list_all (lacks 44) parts ≡ true → list_all (lacks 44) (onto_first b parts) ≡ true
onto_lacks b [] e h = rw e refl
onto_lacks b (p ∷ ps) e h = rw e h

pub each_lacks : (bytes : List ℕ) → list_all (lacks 44) (slice_split (λ b. b == 44) bytes) ≡ true
each_lacks [] = refl
each_lacks (b ∷ bs) =
    elim (eqb_tells b 44) [ inl e ↦ rw e.0 (each_lacks bs) | inr e ↦ rw e.0 (onto_lacks b (slice_split (λ b. b == 44) bs) e.0 (each_lacks bs)) ]
