-- What stands in a list that was made of another one.
use Rattle.std.proofs.Common.{◌≡◌, ◌⊎◌, ℕ, zero, suc, ◌<◌, Bool, true, false, cond, List, [], ◌∷◌, ◌++◌, length, map, Option, Some, None, refl, sym, ap, subst, ◌∙◌, arith, inl, inr}
use Rattle.std.specs.Prelude.{Contains}
use Rattle.std.specs.List.{filter, filter_map, flat_map, slice_index_or, cons_option}
use Rattle.std.proofs.lemmas.List.Elements.{Contains-append_right}

abbrev pub Among : {A : Type 0} → List A → A → Type 0
Among [] y = ⊥
Among (x ∷ xs) y = (x ≡ y) ⊎ Among xs y

pub to_contains : {A : Type 0} (xs : List A) (y : A) → Among xs y → Contains xs y
to_contains [] y h = absurd h
to_contains {A} (x ∷ xs) y (inl e) = let P : A → Type 0 = λ z. Contains (x ∷ xs) z in subst P e (0, omega arith, refl)
to_contains (x ∷ xs) y (inr h) = Contains-append_right (x ∷ []) xs y (to_contains xs y h)

at_place : {A : Type 0} (xs : List A) (y : A) (k : ℕ) → k < length xs → slice_index_or xs k y ≡ y → Among xs y
at_place [] y k lt e = absurd (omega arith)
at_place (x ∷ xs) y zero lt e = inl e
at_place (x ∷ xs) y (suc k) lt e = inr (at_place xs y k (omega arith) e)

pub from_contains : {A : Type 0} (xs : List A) (y : A) → Contains xs y → Among xs y
from_contains xs y h = at_place xs y h.0 h.1 h.2

pub among_left : {A : Type 0} (xs ys : List A) (y : A) → Among xs y → Among (xs ++ ys) y
among_left [] ys y h = absurd h
among_left (x ∷ xs) ys y (inl e) = inl e
among_left (x ∷ xs) ys y (inr h) = inr (among_left xs ys y h)

pub among_right : {A : Type 0} (xs ys : List A) (y : A) → Among ys y → Among (xs ++ ys) y
among_right [] ys y h = h
among_right (x ∷ xs) ys y h = inr (among_right xs ys y h)

pub among_either : {A : Type 0} (xs ys : List A) (y : A) → Among (xs ++ ys) y → Among xs y ⊎ Among ys y
among_either [] ys y h = inr h
among_either (x ∷ xs) ys y (inl e) = inl (inl e)
among_either (x ∷ xs) ys y (inr h) = elim (among_either xs ys y h) [ inl a ↦ inl (inr a) | inr b ↦ inr b ]

-- from a front of it that is cut behind
pub among_front : {A : Type 0} (xs rest ys : List A) (y : A) → xs ++ rest ≡ ys → Among xs y → Among ys y
among_front {A} xs rest ys y e h = let P : List A → Type 0 = λ zs. Among zs y in subst P e (among_left xs rest y h)

pub among_flat : {A B : Type 0} (f : A → List B) (xs : List A) (y : B) → Among (flat_map f xs) y → (x : A) × Among xs x × Among (f x) y
among_flat f [] y h = absurd h
among_flat f (x ∷ xs) y h =
    elim (among_either (f x) (flat_map f xs) y h) [
      | inl a ↦ (x, inl refl, a)
      | inr b ↦ let r = among_flat f xs y b in (r.0, inr r.1, r.2)
    ]

pub flat_among : {A B : Type 0} (f : A → List B) (xs : List A) (x : A) (y : B) → Among xs x → Among (f x) y
    → Among (flat_map f xs) y
flat_among f [] x y h k = absurd h
flat_among {A} {B} f (z ∷ xs) x y (inl e) k =
    let P : A → Type 0 = λ v. Among (f v) y in among_left (f z) (flat_map f xs) y (subst P (sym e) k)
flat_among f (z ∷ xs) x y (inr h) k = among_right (f z) (flat_map f xs) y (flat_among f xs x y h k)

pub among_map : {A B : Type 0} (f : A → B) (xs : List A) (y : B) → Among (map f xs) y → (x : A) × Among xs x × (f x ≡ y)
among_map f [] y h = absurd h
among_map f (x ∷ xs) y (inl e) = (x, inl refl, e)
among_map f (x ∷ xs) y (inr h) = let r = among_map f xs y h in (r.0, inr r.1, r.2)

pub map_among : {A B : Type 0} (f : A → B) (xs : List A) (x : A) → Among xs x → Among (map f xs) (f x)
map_among f [] x h = absurd h
map_among f (y ∷ xs) x (inl e) = inl (ap f e)
map_among f (y ∷ xs) x (inr h) = inr (map_among f xs x h)

kept_or : {A : Type 0} (p : A → Bool) (x : A) (xs : List A) (y : A) (b : Bool) → p x ≡ b → (Among (filter p xs) y → Among xs y × (p y ≡ true))
    → Among (cond b (x ∷ filter p xs) (filter p xs)) y → Among (x ∷ xs) y × (p y ≡ true)
kept_or p x xs y true e f (inl h) = (inl h, ap p (sym h) ∙ e)
kept_or p x xs y true e f (inr h) = let r = f h in (inr r.0, r.1)
kept_or p x xs y false e f h = let r = f h in (inr r.0, r.1)

pub among_filter : {A : Type 0} (p : A → Bool) (xs : List A) (y : A) → Among (filter p xs) y → Among xs y × (p y ≡ true)
among_filter p [] y h = absurd h
among_filter p (x ∷ xs) y h = kept_or p x xs y (p x) refl (among_filter p xs y) h

option_or : {A B : Type 0} (f : A → Option B) (x : A) (xs : List A) (y : B) (o : Option B) → f x ≡ o
    → (Among (filter_map f xs) y → (z : A) × Among xs z × (f z ≡ Some y))
    → Among (cons_option o (filter_map f xs)) y → (z : A) × Among (x ∷ xs) z × (f z ≡ Some y)
option_or f x xs y None e g h = let r = g h in (r.0, inr r.1, r.2)
option_or f x xs y (Some v) e g (inl h) = (x, inl refl, e ∙ ap (λ z. Some z) h)
option_or f x xs y (Some v) e g (inr h) = let r = g h in (r.0, inr r.1, r.2)

pub among_filter_map : {A B : Type 0} (f : A → Option B) (xs : List A) (y : B) → Among (filter_map f xs) y → (x : A) × Among xs x × (f x ≡ Some y)
among_filter_map f [] y h = absurd h
among_filter_map f (x ∷ xs) y h = option_or f x xs y (f x) refl (among_filter_map f xs y) h

among_or : {A : Type 0} (p : A → Bool) (x y : A) (fs : List A) (b : Bool) → p x ≡ b → p y ≡ true → (x ≡ y) ⊎ Among fs y → Among (cond b (x ∷ fs) fs) y
among_or p x y fs true e k (inl i) = inl i
among_or p x y fs true e k (inr i) = inr i
among_or p x y fs false e k (inl i) = absurd (let z : false ≡ true = sym e ∙ ap p i ∙ k in cc)
among_or p x y fs false e k (inr i) = i

either_kept : {A : Type 0} (p : A → Bool) (x y : A) (xs : List A) → (x ≡ y) ⊎ Among xs y → (Among xs y → Among (filter p xs) y)
    → (x ≡ y) ⊎ Among (filter p xs) y
either_kept p x y xs (inl i) f = inl i
either_kept p x y xs (inr i) f = inr (f i)

pub filter_among : {A : Type 0} (p : A → Bool) (xs : List A) (y : A) → Among xs y → p y ≡ true → Among (filter p xs) y
filter_among p [] y h k = absurd h
filter_among p (x ∷ xs) y h k = among_or p x y (filter p xs) (p x) refl k (either_kept p x y xs h (λ i. filter_among p xs y i k))
