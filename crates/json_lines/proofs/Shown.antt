-- What a reader shows, up to the first line feed.
use Rattle.std.proofs.Common.{◌≡◌, ℕ, zero, suc, ◌<◌, ◌≤◌, Bool, true, false, List, [], ◌∷◌, ◌++◌, refl, ap, subst, sym, ◌∙◌, length, take, drop, arith, append_assoc, append-nil, Option, Some, None, IfSome, take-append-drop}
use Rattle.std.specs.Prelude.{◌==◌, slice_index, Result, Ok, Err}
use Rattle.std.specs.Io.{StartsWith}
use Rattle.std.specs.Io.KnownBytes.{Keeps, IsAtEnd}
use Rattle.std.specs.Io.BufRead.{take_through, drop_through, DropsConsumable}
use Rattle.std.proofs.BufReadLemmas.{take_through-nil}
use Rattle.std.proofs.lemmas.Bool.{cond-true, cond-false}
use Rattle.std.proofs.lemmas.List.{drop_all}
use Rattle.std.proofs.Math.Seq.{take-length}
use lib.Seq.{drop-append-le}
use Rattle.json_lines.specs.Parts.{Takes, IsWhole, IsPart}

pub through_feed : (xs rest : List ℕ) (k : ℕ) → ((j : ℕ) → j < k → (slice_index xs j == 10) ≡ true → ⊥) → k < length xs → (slice_index xs k == 10) ≡ true → IsWhole (xs ++ rest) (take (suc k) xs) (drop (suc k) xs ++ rest)
through_feed [] rest k none lt is = let never : ⊥ = omega (arith, lt) in absurd never
through_feed (b ∷ bs) rest zero none lt is = (cond-true _ _ _ is, cond-true _ _ _ is)
through_feed (b ∷ bs) rest (suc k) none lt is = by (b == 10) refl (through_feed bs rest k (λ j l h. none (suc j) (omega (arith, l)) h) (omega (arith, lt)) is)
  where
    by : (x : Bool) → (b == 10) ≡ x → IsWhole (bs ++ rest) (take (suc k) bs) (drop (suc k) bs ++ rest) → IsWhole ((b ∷ bs) ++ rest) (take (suc (suc k)) (b ∷ bs)) (drop (suc (suc k)) (b ∷ bs) ++ rest)
    by true e h = absurd (none 0 (omega arith) e)
    by false e h = (cond-false _ _ _ e ∙ ap (λ (ys : List ℕ). b ∷ ys) h.0, cond-false _ _ _ e ∙ h.1)

pub through_none : (xs rest : List ℕ) → ((j : ℕ) → j < length xs → (slice_index xs j == 10) ≡ true → ⊥) → IsPart (xs ++ rest) xs rest
through_none [] rest none = (refl, refl)
through_none (b ∷ bs) rest none = by (b == 10) refl (through_none bs rest (λ j l h. none (suc j) (omega (arith, l)) h))
  where
    by : (x : Bool) → (b == 10) ≡ x → IsPart (bs ++ rest) bs rest → IsPart ((b ∷ bs) ++ rest) (b ∷ bs) rest
    by true e h = absurd (none 0 (omega arith) e)
    by false e h = (cond-false _ _ _ e ∙ ap (λ (ys : List ℕ). b ∷ ys) h.0, cond-false _ _ _ e ∙ h.1)

pub all_part : (xs rest : List ℕ) → ((j : ℕ) → j < length xs → (slice_index xs j == 10) ≡ true → ⊥) → IsPart (xs ++ rest) (take (length xs) xs) (drop (length xs) xs ++ rest)
all_part xs rest none =
    let taken : take (length xs) xs ≡ xs = take-length xs in
    let dropped : drop (length xs) xs ≡ [] = drop_all (length xs) xs (omega arith) in
    subst (λ (t : List ℕ). IsPart (xs ++ rest) t (drop (length xs) xs ++ rest)) (sym taken) (subst (λ (t : List ℕ). IsPart (xs ++ rest) xs (t ++ rest)) (sym dropped) (through_none xs rest none))

pub nothing_whole : (xs rest : List ℕ) (n : ℕ) → length xs ≡ 0 → rest ≡ [] → IsWhole (xs ++ rest) (take n xs) (drop n xs ++ rest)
nothing_whole [] rest zero none is = (ap (take_through 10) is, ap (drop_through 10) is ∙ sym is)
nothing_whole [] rest (suc n) none is = (ap (take_through 10) is, ap (drop_through 10) is ∙ sym is)
nothing_whole (x ∷ xs) rest n none is = let never : ⊥ = omega (arith, none) in absurd never

pub ok_is : {E : Type 0} (a b : Bool) → ◌≡◌ {A = Result Bool E} (Ok a) (Ok b) → a ≡ b
ok_is {E = E} a b e = ap value e
  where
    value : Result Bool E → Bool
    value (Ok x) = x
    value (Err x) = false

pub keeps_same : (known : Option (List ℕ)) → Keeps known known
keeps_same None = tt
keeps_same (Some xs) = refl

pub no_part : (left now : Option (List ℕ)) (before after : List ℕ) → Keeps left now → after ≡ before → Takes IsPart left now before after
no_part None now before after kept same = tt
no_part (Some xs) None before after kept same = absurd kept
no_part (Some xs) (Some ys) before after kept same = ([], (ys, refl, same ∙ sym (append-nil before), (ap (take_through 10) (sym kept), ap (drop_through 10) (sym kept))))

-- what is shown is taken up to a place, and the reader goes on behind it
pub shown : (IsTaken : List ℕ → List ℕ → List ℕ → Type 0) (left kept now : Option (List ℕ)) (limit : Option ℕ) (before after bytes : List ℕ) (end : ℕ) → end ≤ length bytes → IfSome left (λ xs. StartsWith xs bytes) → IfSome left (λ xs. length bytes ≡ 0 → xs ≡ [])
    → Keeps left kept → IfSome left (λ _. IfSome limit (λ n. length bytes ≤ n)) → DropsConsumable kept now limit end → after ≡ before ++ take end bytes
    → ((rest : List ℕ) → (length bytes ≡ 0 → rest ≡ []) → IsTaken (bytes ++ rest) (take end bytes) (drop end bytes ++ rest)) → Takes IsTaken left now before after
shown IsTaken None kept now limit before after bytes end within front last keeps fits drops same taken = tt
shown IsTaken (Some xs) None now limit before after bytes end within front last keeps fits drops same taken = absurd keeps
shown IsTaken (Some xs) (Some ys) now limit before after bytes end within front last keeps fits drops same taken =
    let rest : List ℕ = drop (length bytes) xs in
    let parts : xs ≡ bytes ++ rest = sym (take-append-drop (length bytes) xs) ∙ ap (λ (t : List ℕ). t ++ rest) front in
    let left_over : now ≡ Some (drop end ys) = drops (fewer limit fits) in
    let behind : drop end ys ≡ drop end bytes ++ rest = ap (drop end) (keeps ∙ parts) ∙ drop-append-le end bytes rest within in
    let none : length bytes ≡ 0 → rest ≡ [] = λ e. ap (drop (length bytes)) (last e) ∙ drop_none (length bytes) in
    (take end bytes, (drop end bytes ++ rest, left_over ∙ ap (λ (t : List ℕ). Some t) behind, same, subst (λ (t : List ℕ). IsTaken t (take end bytes) (drop end bytes ++ rest)) (sym parts) (taken rest none)))
  where
    drop_none : (n : ℕ) → drop {A = ℕ} n [] ≡ []
    drop_none zero = refl
    drop_none (suc n) = refl

    fewer : (limit : Option ℕ) → IfSome limit (λ n. length bytes ≤ n) → IfSome limit (λ n. end ≤ n)
    fewer None h = tt
    fewer (Some n) h = omega (arith, h, within)

pub parts_more : (left mid now : Option (List ℕ)) (a b c : List ℕ) → Takes IsPart left mid a b → Takes IsPart mid now b c → Takes IsPart left now a c
parts_more None mid now a b c h k = tt
parts_more (Some xs) mid now a b c (s, (ys, is, same, (p, q))) k = on (subst (λ (o : Option (List ℕ)). Takes IsPart o now b c) is k)
  where
    on : Takes IsPart (Some ys) now b c → Takes IsPart (Some xs) now a c
    on (t, (zs, now_is, more, (u, v))) = (s ++ t, (zs, now_is, more ∙ ap (λ (l : List ℕ). l ++ t) same ∙ append_assoc a s t, (p ∙ ap (λ (l : List ℕ). s ++ l) u ∙ sym (append_assoc s t (take_through 10 zs)), q ∙ v)))

pub parts_whole : (left mid now : Option (List ℕ)) (a b c : List ℕ) → Takes IsPart left mid a b → Takes IsWhole mid now b c → Takes IsWhole left now a c
parts_whole None mid now a b c h k = tt
parts_whole (Some xs) mid now a b c (s, (ys, is, same, (p, q))) k = on (subst (λ (o : Option (List ℕ)). Takes IsWhole o now b c) is k)
  where
    on : Takes IsWhole (Some ys) now b c → Takes IsWhole (Some xs) now a c
    on (t, (zs, now_is, more, (u, v))) = (s ++ t, (zs, now_is, more ∙ ap (λ (l : List ℕ). l ++ t) same ∙ append_assoc a s t, (p ∙ ap (λ (l : List ℕ). s ++ l) u, q ∙ v)))

-- where nothing was taken nothing was left
pub whole_end : (left now : Option (List ℕ)) (line : List ℕ) → Takes IsWhole left now [] line → length line ≡ 0 → IsAtEnd left
whole_end None now line h none = tt
whole_end (Some xs) now line (t, (zs, now_is, same, (p, q))) none = take_through-nil 10 xs (ap length (p ∙ sym same) ∙ none)
