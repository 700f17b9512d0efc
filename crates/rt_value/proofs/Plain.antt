-- What holds of each element of a list, by recursion.
use Rattle.std.proofs.Common.{◌≡◌, ◌⊎◌, Bool, true, false, ◌||◌, ◌&&◌, not, cond, List, [], ◌∷◌, ◌++◌, map, reverse, length, Option, Some, None, refl, ap, subst, ◌∙◌, arith, inl, inr}
use Rattle.std.specs.Prelude.{⊤, find}
use Rattle.std.specs.List.{AllByRecursion, filter, flat_map, list_any}
use Rattle.rt_value.proofs.Among.{Among}
use Rattle.std.specs.declared.cmp.Ordering.{Ordering}
use Rattle.std.specs.declared.cmp.Ordering.TheVariants.{Less, Equal, Greater}
use Rattle.rt_value.specs.Ordered.{inserted_by, inserted, in_order}

abbrev pub AllOf : {A : Type 0} → (A → Type 0) → List A → Type 0
AllOf B xs = AllByRecursion B xs

pub all_append : {A : Type 0} (B : A → Type 0) (xs ys : List A) → AllOf B xs → AllOf B ys → AllOf B (xs ++ ys)
all_append B [] ys a b = b
all_append B (x ∷ xs) ys a b = (a.0, all_append B xs ys a.1 b)

pub all_flat : {A C : Type 0} (B : A → Type 0) (f : C → List A) (xs : List C) → ((x : C) → AllOf B (f x)) → AllOf B (flat_map f xs)
all_flat B f [] h = tt
all_flat B f (x ∷ xs) h = all_append B (f x) (flat_map f xs) (h x) (all_flat B f xs h)

pub all_map : {A C : Type 0} (B : A → Type 0) (f : C → A) (xs : List C) → ((x : C) → B (f x)) → AllOf B (map f xs)
all_map B f [] h = tt
all_map B f (x ∷ xs) h = (h x, all_map B f xs h)

pub all_map_of : {A C : Type 0} (B : A → Type 0) (D : C → Type 0) (f : C → A) (xs : List C) → ((x : C) → D x → B (f x)) → AllOf D xs
    → AllOf B (map f xs)
all_map_of B D f [] h a = tt
all_map_of B D f (x ∷ xs) h a = (h x a.0, all_map_of B D f xs h a.1)

pub all_filter : {A : Type 0} (B : A → Type 0) (p : A → Bool) (xs : List A) → AllOf B xs → AllOf B (filter p xs)
all_filter B p [] a = tt
all_filter B p (x ∷ xs) a =
    elim (p x) as (λ t. AllOf B (cond t (x ∷ filter p xs) (filter p xs))) [ true ↦ (a.0, all_filter B p xs a.1) | false ↦ all_filter B p xs a.1 ]

pub all_weaker : {A : Type 0} (B D : A → Type 0) (xs : List A) → ((x : A) → B x → D x) → AllOf B xs → AllOf D xs
all_weaker B D [] f a = tt
all_weaker B D (x ∷ xs) f a = (f x a.0, all_weaker B D xs f a.1)

pub all_every : {A : Type 0} (B : A → Type 0) (xs : List A) → ((x : A) → B x) → AllOf B xs
all_every B [] f = tt
all_every B (x ∷ xs) f = (f x, all_every B xs f)

pub all_among : {A : Type 0} (B : A → Type 0) (xs : List A) (x : A) → AllOf B xs → Among xs x → B x
all_among B [] x a h = absurd h
all_among B (y ∷ xs) x a (inl e) = subst B e a.0
all_among B (y ∷ xs) x a (inr h) = all_among B xs x a.1 h

pub all_themselves : {A : Type 0} (xs : List A) → AllOf (Among xs) xs
all_themselves [] = tt
all_themselves (x ∷ xs) = (inl refl, all_weaker (Among xs) (Among (x ∷ xs)) xs (λ y h. inr h) (all_themselves xs))

-- an element where there is one
abbrev pub Maybe : {A : Type 0} → (A → Type 0) → Option A → Type 0
Maybe B None = ⊤
Maybe B (Some x) = B x

pub find_of : {A : Type 0} (B : A → Type 0) (p : A → Bool) (xs : List A) → AllOf B xs → Maybe B (find p xs)
find_of B p [] a = tt
find_of B p (x ∷ xs) a = elim (p x) as (λ t. Maybe B (cond t (Some x) (find p xs))) [ true ↦ a.0 | false ↦ find_of B p xs a.1 ]

pub any_append : {A : Type 0} (p : A → Bool) (xs ys : List A) → list_any p (xs ++ ys) ≡ (list_any p xs || list_any p ys)
any_append p [] ys = refl
any_append p (x ∷ xs) ys =
    elim (p x) as (λ b. (b || list_any p (xs ++ ys)) ≡ ((b || list_any p xs) || list_any p ys)) [ true ↦ refl | false ↦ any_append p xs ys ]

pub any_among : {A : Type 0} (p : A → Bool) (xs : List A) (x : A) → Among xs x → p x ≡ true → list_any p xs ≡ true
any_among p [] x h e = absurd h
any_among p (y ∷ xs) x (inl k) e = ap (λ b. b || list_any p xs) (ap p k ∙ e)
any_among p (y ∷ xs) x (inr h) e = elim (p y) as (λ b. (b || list_any p xs) ≡ true) [ true ↦ refl | false ↦ any_among p xs x h e ]

pub not_or : (a b : Bool) → not (a || b) ≡ (not a && not b)
not_or true b = refl
not_or false b = refl

pub and_swap : (a b : Bool) → (a && b) ≡ (b && a)
and_swap true true = refl
and_swap true false = refl
and_swap false true = refl
and_swap false false = refl

pub filter_and : {A : Type 0} (p q : A → Bool) (xs : List A) → filter (λ x. q x && p x) xs ≡ filter p (filter q xs)
filter_and p q [] = refl
filter_and p q (x ∷ xs) =
    ap (λ ys. cond (q x && p x) (x ∷ ys) ys) (filter_and p q xs)
    ∙ elim (q x) as (λ b. cond (b && p x) (x ∷ filter p (filter q xs)) (filter p (filter q xs)) ≡ filter p (cond b (x ∷ filter q xs) (filter q xs)))
    [ true ↦ refl | false ↦ refl ]

pub filter_same : {A : Type 0} (p q : A → Bool) → ((x : A) → p x ≡ q x) → (xs : List A) → filter p xs ≡ filter q xs
filter_same p q e [] = refl
filter_same p q e (x ∷ xs) = ap (λ b. cond b (x ∷ filter p xs) (filter p xs)) (e x) ∙ ap (λ ys. cond (q x) (x ∷ ys) ys) (filter_same p q e xs)

-- tests that agree on the elements of a list keep the same
pub filter_alike : {A : Type 0} (p q : A → Bool) (xs : List A) → AllOf (λ x. p x ≡ q x) xs → filter p xs ≡ filter q xs
filter_alike p q [] e = refl
filter_alike p q (x ∷ xs) e = ap (λ b. cond b (x ∷ filter p xs) (filter p xs)) e.0 ∙ ap (λ ys. cond (q x) (x ∷ ys) ys) (filter_alike p q xs e.1)

pub filter_all : {A : Type 0} (p : A → Bool) (xs : List A) → AllOf (λ x. p x ≡ true) xs → filter p xs ≡ xs
filter_all p [] e = refl
filter_all p (x ∷ xs) e = ap (λ b. cond b (x ∷ filter p xs) (filter p xs)) e.0 ∙ ap (λ ys. x ∷ ys) (filter_all p xs e.1)

pub map_same : {A B : Type 0} (f g : A → B) → ((x : A) → f x ≡ g x) → (xs : List A) → map f xs ≡ map g xs
map_same f g e [] = refl
map_same f g e (x ∷ xs) = ap (λ y. y ∷ map f xs) (e x) ∙ ap (λ ys. g x ∷ ys) (map_same f g e xs)

pub map_map : {A B C : Type 0} (g : B → C) (f : A → B) (xs : List A) → map g (map f xs) ≡ map (λ x. g (f x)) xs
map_map g f [] = refl
map_map g f (x ∷ xs) = ap (λ ys. g (f x) ∷ ys) (map_map g f xs)

-- a filter over a map goes behind it
pub filter_map_swap : {A B : Type 0} (p : B → Bool) (f : A → B) (xs : List A) → filter p (map f xs) ≡ map f (filter (λ x. p (f x)) xs)
filter_map_swap p f [] = refl
filter_map_swap p f (x ∷ xs) =
    ap (λ ys. cond (p (f x)) (f x ∷ ys) ys) (filter_map_swap p f xs)
    ∙ elim (p (f x)) as (λ b. cond b (f x ∷ map f (filter (λ y. p (f y)) xs)) (map f (filter (λ y. p (f y)) xs)) ≡ map f
    (cond b (x ∷ filter (λ y. p (f y)) xs) (filter (λ y. p (f y)) xs))) [ true ↦ refl | false ↦ refl ]

pub reverse_short : {A : Type 0} (xs : List A) → (length xs ≡ 0) ⊎ (length xs ≡ 1) → reverse xs ≡ xs
reverse_short [] h = refl
reverse_short (x ∷ []) h = refl
reverse_short (x ∷ y ∷ more) (inl h) = absurd (omega arith)
reverse_short (x ∷ y ∷ more) (inr h) = absurd (omega arith)

-- in an order

module _ {K : Type 0} (cmp : K → K → Ordering) (B : K → Type 0) where
  put_all : (o : Ordering) (k l : K) (ls more : List K) → B k → AllOf B (l ∷ ls) → AllOf B more → AllOf B (inserted_by cmp o k l ls more)
  put_all Less k l ls more h a m = (h, a)
  put_all Equal k l ls more h a m = a
  put_all Greater k l ls more h a m = (a.0, m)

  inserted_all : (k : K) (ls : List K) → B k → AllOf B ls → AllOf B (inserted cmp k ls)
  inserted_all k [] h a = (h, tt)
  inserted_all k (l ∷ ls) h a = put_all (cmp k l) k l ls (inserted cmp k ls) h a (inserted_all k ls h a.1)

  pub ordered_all : (ks : List K) → AllOf B ks → AllOf B (in_order cmp ks)
  ordered_all [] a = tt
  ordered_all (k ∷ ks) a = inserted_all k (in_order cmp ks) a.0 (ordered_all ks a.1)
