-- Rows each once: who stands there, and that no two are the same.
use Rattle.std.proofs.Common.{◌≡◌, ◌⊎◌, Bool, true, false, ◌||◌, not, cond, List, [], ◌∷◌, ◌++◌, refl, ap, sym, ◌∙◌}
use Rattle.std.proofs.Common.{subst, inl, inr, append_assoc}
use Rattle.std.specs.Bool.{Decides}
use Rattle.std.specs.List.{AllByRecursion, IsDistinct, list_any, filter}
use Rattle.std.proofs.lemmas.Bool.{or_parts, false_from_ne_true}
use Rattle.rt_value.proofs.Among.{Among, among_either, among_left, among_right}
use Rattle.rt_value.proofs.Plain.{any_append, any_among}
use Rattle.rt_catalog.specs.Lists.{each_once, new_rows}
use Rattle.rt_catalog.proofs.Closed.{any_found}

pub all_among : {A : Type 0} (P : A → Type 0) (xs : List A) → ((x : A) → Among xs x → P x) → AllByRecursion P xs
all_among P [] f = tt
all_among P (x ∷ xs) f = (f x (inl refl), all_among P xs (λ y h. f y (inr h)))

pub among_all : {A : Type 0} (P : A → Type 0) (xs : List A) → AllByRecursion P xs → (x : A) → Among xs x → P x
among_all P [] all x h = absurd h
among_all P (y ∷ xs) all x (inl e) = subst P e all.0
among_all P (y ∷ xs) all x (inr h) = among_all P xs all.1 x h

pub all_both : {A : Type 0} (P : A → Type 0) (xs ys : List A) → AllByRecursion P xs → AllByRecursion P ys
    → AllByRecursion P (xs ++ ys)
all_both P [] ys a b = b
all_both P (x ∷ xs) ys a b = (a.0, all_both P xs ys a.1 b)

pub none_any : {A : Type 0} (p : A → Bool) (xs : List A) → list_any p xs ≡ false → AllByRecursion (λ x. p x ≡ false) xs
none_any p [] h = tt
none_any p (x ∷ xs) h = let (here, more) = or_parts (p x) (list_any p xs) h in (here, none_any p xs more)

pub apart_both : {A : Type 0} (e : A → A → Bool) (xs ys : List A) → IsDistinct e xs → IsDistinct e ys
    → AllByRecursion (λ x. AllByRecursion (λ y. e x y ≡ false) ys) xs → IsDistinct e (xs ++ ys)
unfolding IsDistinct
apart_both e [] ys a b c = b
apart_both e (x ∷ xs) ys a b c = (all_both (λ y. e x y ≡ false) xs ys a.0 c.0, apart_both e xs ys a.1 b c.1)

pub apart_one : {A : Type 0} (e : A → A → Bool) (xs : List A) (y : A) → IsDistinct e xs
    → list_any (λ x. e x y) xs ≡ false → IsDistinct e (xs ++ y ∷ [])
unfolding IsDistinct
apart_one e xs y a none = apart_both e xs (y ∷ []) a (tt, tt)
    (all_among (λ x. AllByRecursion (λ z. e x z ≡ false) (y ∷ [])) xs
    (λ x h. (among_all (λ z. e z y ≡ false) xs (none_any (λ z. e z y) xs none) x h, tt)))

module _ {A : Type 0} (same : A → A → Bool) (decides : (a b : A) → Decides (same a b) (a ≡ b)) where
  pub turned : (a b : A) → same a b ≡ false → same b a ≡ false
  turned a b h = false_from_ne_true (same b a)
      (λ e. let z : true ≡ false = sym ((decides a b).1 (sym ((decides b a).0 e))) ∙ h in cc)

  pub among_same : (x : A) (xs : List A) → list_any (same x) xs ≡ true → Among xs x
  among_same x xs h =
      let (y, at, e) = any_found (same x) xs h in
      let P : A → Type 0 = Among xs in subst P (sym ((decides x y).0 e)) at

  pub same_among : (x : A) (xs : List A) → Among xs x → list_any (same x) xs ≡ true
  same_among x xs at = any_among (same x) xs x at ((decides x x).1 refl)

  abbrev with_one : A → List A → Bool → List A
  with_one x before there = elim there [ true ↦ before | false ↦ before ++ x ∷ [] ]

  pub once_apart : (before rows : List A) → IsDistinct same before → IsDistinct same (each_once same before rows)
  unfolding IsDistinct
  once_apart before [] a = a
  once_apart before (x ∷ rows) a =
      once_apart (with_one x before (list_any (same x) before)) rows (by (list_any (same x) before) refl) where
        by : (b : Bool) → list_any (same x) before ≡ b → IsDistinct same (with_one x before b)
        by true e = a
        by false e = apart_both same before (x ∷ []) a (tt, tt)
            (all_among (λ y. AllByRecursion (λ z. same y z ≡ false) (x ∷ [])) before
            (λ y h. (turned x y (among_all (λ z. same x z ≡ false) before (none_any (same x) before e) y h), tt)))

  -- who stands there
  once_among : (before rows : List A) (y : A) → Among (each_once same before rows) y → Among before y ⊎ Among rows y
  once_among before [] y h = inl h
  once_among before (x ∷ rows) y h =
      elim (once_among (with_one x before (list_any (same x) before)) rows y h) [
        | inl a ↦ by (list_any (same x) before) a
        | inr b ↦ inr (inr b)
      ]
    where
      by : (b : Bool) → Among (with_one x before b) y → Among before y ⊎ Among (x ∷ rows) y
      by true a = inl a
      by false a = elim (among_either before (x ∷ []) y a)
          [ inl i ↦ inl i | inr i ↦ elim i [ inl e ↦ inr (inl e) | inr n ↦ absurd n ] ]

  pub among_once : (before rows : List A) (y : A) → Among before y ⊎ Among rows y → Among (each_once same before rows) y
  among_once before [] y (inl h) = h
  among_once before [] y (inr h) = absurd h
  among_once before (x ∷ rows) y h =
      among_once (with_one x before (list_any (same x) before)) rows y (by (list_any (same x) before) refl h) where
        by : (b : Bool) → list_any (same x) before ≡ b → Among before y ⊎ Among (x ∷ rows) y
            → Among (with_one x before b) y ⊎ Among rows y
        by true e (inl a) = inl a
        by true e (inr (inl i)) = let P : A → Type 0 = Among before in inl (subst P i (among_same x before e))
        by true e (inr (inr a)) = inr a
        by false e (inl a) = inl (among_left before (x ∷ []) y a)
        by false e (inr (inl i)) = inl (among_right before (x ∷ []) y (inl i))
        by false e (inr (inr a)) = inr a

  pub new_among : (stands : A → Bool) (rows : List A) (y : A) → Among (new_rows stands same rows) y
      → Among (filter (λ r. not (stands r)) rows) y
  new_among stands rows y h =
      elim (once_among [] (filter (λ r. not (stands r)) rows) y h) [ inl n ↦ absurd n | inr i ↦ i ]

-- with rows behind others, those that stand aren't looked at
abbrev is_not : {A : Type 0} → (A → A → Bool) → List A → A → Bool
is_not same xs x = not (list_any (same x) xs)

abbrev with_or : {A : Type 0} → A → List A → Bool → List A
with_or x before there = elim there [ true ↦ before | false ↦ before ++ x ∷ [] ]

step_behind : {A : Type 0} (same : A → A → Bool) (first before rows : List A) (x : A) (b c : Bool)
    → ((more : List A) → each_once same (first ++ more) rows
    ≡ first ++ each_once same more (filter (is_not same first) rows))
    → list_any (same x) before ≡ c
    → each_once same (with_or x (first ++ before) (b || c)) rows
    ≡ first ++ each_once same before
    (cond (not b) (x ∷ filter (is_not same first) rows) (filter (is_not same first) rows))
step_behind same first before rows x true c more e = more before
step_behind same first before rows x false true more e =
    more before ∙ ap (λ d. first ++ each_once same (with_or x before d) (filter (is_not same first) rows)) (sym e)
step_behind same first before rows x false false more e =
    ap (λ ys. each_once same ys rows) (append_assoc first before (x ∷ [])) ∙ more (before ++ x ∷ [])
    ∙ ap (λ d. first ++ each_once same (with_or x before d) (filter (is_not same first) rows)) (sym e)

pub once_behind : {A : Type 0} (same : A → A → Bool) (first before rows : List A)
    → each_once same (first ++ before) rows ≡ first ++ each_once same before (filter (is_not same first) rows)
once_behind same first before [] = refl
once_behind same first before (x ∷ rows) =
    ap (λ b. each_once same (with_or x (first ++ before) b) rows) (any_append (same x) first before)
    ∙ step_behind same first before rows x (list_any (same x) first) (list_any (same x) before)
    (λ more. once_behind same first more rows) refl
