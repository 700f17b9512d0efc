-- Lists in another order, by what may be done to reorder one.
use Rattle.std.proofs.Common.{◌≡◌, Bool, true, false, ◌||◌, cond, not, List, [], ◌∷◌, ◌++◌, map, refl, ap, subst, ◌∙◌}
use Rattle.std.specs.Prelude.{IsPermutation}
use Rattle.std.specs.List.{filter, list_any}
use Rattle.std.proofs.lemmas.List.Sorted.{IsPermutation-refl, IsPermutation-cons, IsPermutation-append_comm, IsPermutation-append_left, IsPermutation-trans}
use Rattle.rt_value.proofs.Tests.{or_swap}

pub data Moves {A : Type 0} : List A → List A → Type 0 where
  none : (xs : List A) → Moves xs xs
  skip : (x : A) (xs ys : List A) → Moves xs ys → Moves (x ∷ xs) (x ∷ ys)
  swap : (x y : A) (xs : List A) → Moves (x ∷ y ∷ xs) (y ∷ x ∷ xs)
  then_to : (xs ys zs : List A) → Moves xs ys → Moves ys zs → Moves xs zs

pub permuted : {A : Type 0} (xs ys : List A) → Moves xs ys → IsPermutation xs ys
permuted xs ys (none zs) = IsPermutation-refl zs
permuted xs ys (skip x us vs m) = IsPermutation-cons x us vs (permuted us vs m)
permuted xs ys (swap x y zs) = IsPermutation-append_left zs (x ∷ y ∷ []) (y ∷ x ∷ []) (IsPermutation-append_comm (x ∷ []) (y ∷ []))
permuted xs ys (then_to us vs ws m n) = IsPermutation-trans us vs ws (permuted us vs m) (permuted vs ws n)

pub moves_same : {A : Type 0} (xs ys : List A) → xs ≡ ys → Moves xs ys
moves_same {A} xs ys e = let P : List A → Type 0 = Moves xs in subst P e (none xs)

pub moves_back : {A : Type 0} (xs ys : List A) → Moves xs ys → Moves ys xs
moves_back xs ys (none zs) = none zs
moves_back xs ys (skip x us vs m) = skip x vs us (moves_back us vs m)
moves_back xs ys (swap x y zs) = swap y x zs
moves_back xs ys (then_to us vs ws m n) = then_to ws vs us (moves_back vs ws n) (moves_back us vs m)

pub moves_map : {A B : Type 0} (f : A → B) (xs ys : List A) → Moves xs ys → Moves (map f xs) (map f ys)
moves_map f xs ys (none zs) = none (map f zs)
moves_map f xs ys (skip x us vs m) = skip (f x) (map f us) (map f vs) (moves_map f us vs m)
moves_map f xs ys (swap x y zs) = swap (f x) (f y) (map f zs)
moves_map f xs ys (then_to us vs ws m n) = then_to (map f us) (map f vs) (map f ws) (moves_map f us vs m) (moves_map f vs ws n)

kept_skip : {A : Type 0} (x : A) (b : Bool) (xs ys : List A) → Moves xs ys → Moves (cond b (x ∷ xs) xs) (cond b (x ∷ ys) ys)
kept_skip x true xs ys m = skip x xs ys m
kept_skip x false xs ys m = m

kept_swap : {A : Type 0} (x y : A) (a b : Bool) (xs : List A)
    → Moves (cond a (x ∷ cond b (y ∷ xs) xs) (cond b (y ∷ xs) xs)) (cond b (y ∷ cond a (x ∷ xs) xs) (cond a (x ∷ xs) xs))
kept_swap x y true true xs = swap x y xs
kept_swap x y true false xs = none (x ∷ xs)
kept_swap x y false true xs = none (y ∷ xs)
kept_swap x y false false xs = none xs

pub moves_filter : {A : Type 0} (p : A → Bool) (xs ys : List A) → Moves xs ys → Moves (filter p xs) (filter p ys)
moves_filter p xs ys (none zs) = none (filter p zs)
moves_filter p xs ys (skip x us vs m) = kept_skip x (p x) (filter p us) (filter p vs) (moves_filter p us vs m)
moves_filter p xs ys (swap x y zs) = kept_swap x y (p x) (p y) (filter p zs)
moves_filter p xs ys (then_to us vs ws m n) = then_to (filter p us) (filter p vs) (filter p ws) (moves_filter p us vs m) (moves_filter p vs ws n)

pub moves_right : {A : Type 0} (zs xs ys : List A) → Moves xs ys → Moves (zs ++ xs) (zs ++ ys)
moves_right [] xs ys m = m
moves_right (z ∷ zs) xs ys m = skip z (zs ++ xs) (zs ++ ys) (moves_right zs xs ys m)

pub moves_left : {A : Type 0} (zs xs ys : List A) → Moves xs ys → Moves (xs ++ zs) (ys ++ zs)
moves_left zs xs ys (none us) = none (us ++ zs)
moves_left zs xs ys (skip x us vs m) = skip x (us ++ zs) (vs ++ zs) (moves_left zs us vs m)
moves_left zs xs ys (swap x y us) = swap x y (us ++ zs)
moves_left zs xs ys (then_to us vs ws m n) = then_to (us ++ zs) (vs ++ zs) (ws ++ zs) (moves_left zs us vs m) (moves_left zs vs ws n)

-- an element goes behind a front
pub moves_middle : {A : Type 0} (x : A) (xs ys : List A) → Moves (x ∷ (xs ++ ys)) (xs ++ x ∷ ys)
moves_middle x [] ys = none (x ∷ ys)
moves_middle x (z ∷ xs) ys =
    then_to (x ∷ z ∷ (xs ++ ys)) (z ∷ x ∷ (xs ++ ys)) (z ∷ (xs ++ x ∷ ys)) (swap x z (xs ++ ys))
    (skip z (x ∷ (xs ++ ys)) (xs ++ x ∷ ys) (moves_middle x xs ys))

parted : {A : Type 0} (p : A → Bool) (x : A) (xs fs gs : List A) (b : Bool) → Moves xs (fs ++ gs)
    → Moves (x ∷ xs) (cond b (x ∷ fs) fs ++ cond (not b) (x ∷ gs) gs)
parted p x xs fs gs true m = skip x xs (fs ++ gs) m
parted p x xs fs gs false m = then_to (x ∷ xs) (x ∷ (fs ++ gs)) (fs ++ x ∷ gs) (skip x xs (fs ++ gs) m) (moves_middle x fs gs)

-- what passes, then what doesn't
pub moves_parts : {A : Type 0} (p : A → Bool) (xs : List A) → Moves xs (filter p xs ++ filter (λ x. not (p x)) xs)
moves_parts p [] = none []
moves_parts p (x ∷ xs) = parted p x xs (filter p xs) (filter (λ y. not (p y)) xs) (p x) (moves_parts p xs)

pub moves_any : {A : Type 0} (p : A → Bool) (xs ys : List A) → Moves xs ys → list_any p xs ≡ list_any p ys
moves_any p xs ys (none zs) = refl
moves_any p xs ys (skip x us vs m) = ap (λ t. p x || t) (moves_any p us vs m)
moves_any p xs ys (swap x y zs) = or_swap (p x) (p y) (list_any p zs)
moves_any p xs ys (then_to us vs ws m n) = moves_any p us vs m ∙ moves_any p vs ws n
