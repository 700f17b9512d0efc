-- The longest front of a list whose elements pass a test.
use Rattle.std.proofs.Common.{◌≡◌, ℕ, ◌<◌, ◌≤◌, Bool, true, false, List, [], ◌∷◌, length, get_or, take, IsTrue, subst, sym, ◌∙◌, ap, arith, length-take}
use Rattle.std.specs.List.{prefix_len, list_all}
use Rattle.std.proofs.lemmas.List.Sums.{prefix_len_is, prefix_len_passes, prefix_len_stops, AllPass-from_list_all, list_all-from_AllPass}
use Rattle.std.proofs.Math.Seq.{get_or-take}
use Rattle.rt_sql.specs.Front.{IsRun, IsLongestFront}

-- the front that is counted passes
passes : {X : Type 0} (p : X → Bool) (xs : List X) → list_all p (take (prefix_len p xs) xs) ≡ true
passes p xs =
    list_all-from_AllPass p (take (prefix_len p xs) xs) (
    λ k d lt. let short : k < prefix_len p xs = omega (arith, length-take (prefix_len p xs) xs) in
    ap p (get_or-take (prefix_len p xs) xs k d short) ∙ prefix_len_passes p xs k d short)

-- a longer front does not
stops : {X : Type 0} (p : X → Bool) (xs : List X) (n : ℕ) → prefix_len p xs < n → n ≤ length xs → list_all p (take n xs) ≡ true → ⊥
stops p [] n lt le all = absurd (omega arith)
stops p (x ∷ xs) n lt le all =
    let k : ℕ = prefix_len p (x ∷ xs) in
    let no : p (get_or (x ∷ xs) k x) ≡ false = prefix_len_stops p (x ∷ xs) x (omega arith) in
    let yes : p (get_or (take n (x ∷ xs)) k x) ≡ true = AllPass-from_list_all p (take n (x ∷ xs)) all k x (omega (arith, length-take n (x ∷ xs))) in
    let same : p (get_or (take n (x ∷ xs)) k x) ≡ p (get_or (x ∷ xs) k x) = ap p (get_or-take n (x ∷ xs) k x lt) in
    cc (no, yes, same)

-- a run of a test that computes
run_is : (p : ℕ → Bool) (xs : List ℕ) (n : ℕ) → IsRun (λ x b. b ≡ p x) xs n → n ≡ prefix_len p xs
run_is p xs n run =
    sym (prefix_len_is p xs n 0 run.within (λ k lt. sym (run.passed k lt)) (λ lt. sym (run.ended lt)))

pub run_passes : (p : ℕ → Bool) (xs : List ℕ) (n : ℕ) → IsRun (λ x b. b ≡ p x) xs n → list_all p (take n xs) ≡ true
run_passes p xs n run =
    let Passes : ℕ → Type 0 = λ k. list_all p (take k xs) ≡ true in
    subst Passes (sym (run_is p xs n run)) (passes p xs)

pub run_stops : (p : ℕ → Bool) (xs : List ℕ) (n : ℕ) → IsRun (λ x b. b ≡ p x) xs n → (later : ℕ) → n < later → later ≤ length xs → list_all p (take later xs) ≡ true → ⊥
run_stops p xs n run later lt le = stops p xs later (omega (arith, run_is p xs n run)) le

-- a run that is not empty, as a piece
pub run_front : (p : ℕ → Bool) (xs : List ℕ) (n : ℕ) → IsRun (λ x b. b ≡ p x) xs n
    → IsLongestFront (λ bytes. (0 < length bytes) × IsTrue (list_all p bytes)) xs n
run_front p xs n run = record {
  within = run.within;
  holds = λ some. (omega (arith, length-take n xs, run.within), run_passes p xs n run);
  longest = λ later lt le piece. run_stops p xs n run later lt le piece.1;
}
