-- What stands from a place of a list on.
use Rattle.std.proofs.Common.{◌≡◌, ℕ, ◌+◌, ◌<◌, ◌≤◌, suc, List, [], ◌∷◌, length, get_or, drop, sym, ap, ◌∙◌, arith}
use Rattle.std.proofs.Common.{drop-cons}
use Rattle.std.proofs.Math.ListN.{drop_of_length-le}

pub at_place : {A : Type 0} (xs : List A) (i : ℕ) (x d : A) → i < length xs → x ≡ get_or xs i d
    → drop i xs ≡ x ∷ drop (i + 1) xs
at_place {A} xs i x d h e =
    let one : suc i ≡ i + 1 = omega arith in
    drop-cons xs i d h ∙ ap (λ (y : A). y ∷ drop (suc i) xs) (sym e) ∙ ap (λ (n : ℕ). x ∷ drop n xs) one

pub past : {A : Type 0} (xs : List A) (i : ℕ) → length xs ≤ i → drop i xs ≡ []
past xs i h = drop_of_length-le xs h
