-- What looking up by a name finds, and that a number's name leads back to it.
use Rattle.std.proofs.Common.{◌≡◌, ℕ, zero, suc, ◌+◌, ◌<◌, Bool, true, false, cond, List, [], ◌∷◌, length, Option, Some}
use Rattle.std.proofs.Common.{None, refl, ap, sym, ◌∙◌, subst, arith}
use Rattle.std.specs.Prelude.{slice_get, find, option_map}
use Rattle.std.specs.List.{AllByRecursion, IsDistinct, enumerate_from}
use Rattle.std.specs.Str.{bytes_eq}
use Rattle.std.proofs.lemmas.Option.{slice_get_within}
use Rattle.std.proofs.lemmas.Slice.Eq.{bytes_eq-Decides}
use Rattle.rt_value.specs.Choice.{◌>>=◌}
use Rattle.rt_policy.proofs.Classes.{equal_bytes}
use Rattle.rt_catalog.specs.Access.{number_where}
use Rattle.rt_catalog.specs.Lists.{number_or_none}
use Rattle.rt_catalog.specs.Sound.{IsWithin}

pub bind_some : {A B : Type 0} (o : Option A) (f : A → Option B) (y : B) → (o >>= f) ≡ Some y
    → (x : A) × (o ≡ Some x) × (f x ≡ Some y)
bind_some None f y h = absurd (cc)
bind_some (Some x) f y h = (x, refl, h)

pub all_get : {A : Type 0} (P : A → Type 0) (xs : List A) (n : ℕ) (x : A) → AllByRecursion P xs
    → slice_get xs n ≡ Some x → P x
all_get P [] n x all e = absurd (cc)
all_get P (y ∷ xs) zero x all e = let same : y ≡ x = cc in subst P same all.0
all_get P (y ∷ xs) (suc n) x all e = all_get P xs n x all.1 e

-- what is found is there, and passes
record IsAt {A : Type 0} (test : A → Bool) (xs : List A) (from : ℕ) (e : ℕ × A) : Type 0 where
  place : ℕ
  behind : e.0 ≡ from + place
  at : slice_get xs place ≡ Some e.1
  passes : test e.1 ≡ true

abbrev pub found_from : {A : Type 0} → (A → Bool) → ℕ → List A → Option (ℕ × A)
found_from test from xs = find (λ e. test e.1) (enumerate_from from xs)

find_here : {A : Type 0} (test : A → Bool) (from : ℕ) (x : A) (xs : List A) (e : ℕ × A) (b : Bool) → test x ≡ b
    → (found_from test (from + 1) xs ≡ Some e → IsAt test xs (from + 1) e)
    → cond b (Some (from, x)) (found_from test (from + 1) xs) ≡ Some e
    → IsAt test (x ∷ xs) from e
find_here {A} test from x xs e true t more k =
    let pair : ℕ × A = (from, x) in
    let same : pair ≡ e = cc in
    let start : from ≡ from + 0 = omega arith in
    subst (IsAt test (x ∷ xs) from) same (record { place = 0; behind = start; at = refl; passes = t })
find_here test from x xs e false t more k =
    let is = more k in
    let later : e.0 ≡ from + suc is.place = omega (arith, is.behind) in
    record { place = suc is.place; behind = later; at = is.at; passes = is.passes }

find_at : {A : Type 0} (test : A → Bool) (from : ℕ) (xs : List A) (e : ℕ × A) → found_from test from xs ≡ Some e
    → IsAt test xs from e
find_at test from [] e h = absurd (cc)
find_at test from (x ∷ xs) e h = find_here test from x xs e (test x) refl (find_at test (from + 1) xs e) h

pub record IsFound {A : Type 0} (test : A → Bool) (xs : List A) (n : ℕ) : Type 0 where
  pub found : A
  pub at : slice_get xs n ≡ Some found
  pub passes : test found ≡ true

pub number_at : {A : Type 0} (test : A → Bool) (xs : List A) (n : ℕ) → number_where test xs ≡ Some n → IsFound test xs n
number_at {A} test xs n h = by (found_from test 0 xs) refl h where
  by : (o : Option (ℕ × A)) → found_from test 0 xs ≡ o → option_map (λ e. e.0) o ≡ Some n → IsFound test xs n
  by None e k = absurd (cc)
  by (Some p) e k =
      let is = find_at test 0 xs p e in
      let here : p.0 ≡ n = cc in
      let place : is.place ≡ n = omega (arith, is.behind, here) in
      record { found = p.1; at = ap (slice_get xs) (sym place) ∙ is.at; passes = is.passes }

pub number_within : {A : Type 0} (test : A → Bool) (xs : List A) (n : ℕ) → number_where test xs ≡ Some n → n < length xs
number_within test xs n h = let is = number_at test xs n h in slice_get_within xs n is.found is.at

-- where no two are the same, the first that is the same as one is that one
same_found : {A : Type 0} (same : A → A → Bool) (from : ℕ) (xs : List A) (n : ℕ) (x : A) → IsDistinct same xs
    → slice_get xs n ≡ Some x → same x x ≡ true
    → find (λ (e : ℕ × A). same e.1 x) (enumerate_from from xs) ≡ Some (from + n, x)
unfolding IsDistinct
same_found same from [] n x apart at itself = absurd (cc)
same_found {A} same from (y ∷ xs) zero x apart at itself =
    let here : y ≡ x = cc in
    let P : A → Type 0 = λ z.
    cond (same z x) (Some (from, z)) (find (λ (e : ℕ × A). same e.1 x) (enumerate_from (from + 1) xs))
    ≡ Some (from + 0, x) in
    let n : from ≡ from + 0 = omega arith in
    subst P (sym here) (ap (λ b.
    cond b (Some (from, x)) (find (λ (e : ℕ × A). same e.1 x) (enumerate_from (from + 1) xs))) itself
    ∙ ap (λ k. Some (k, x)) n)
same_found {A} same from (y ∷ xs) (suc n) x apart at itself =
    let differ : same y x ≡ false = all_get (λ z. same y z ≡ false) xs n x apart.0 at in
    let k : (from + 1) + n ≡ from + suc n = omega arith in
    ap (λ b. cond b (Some (from, y)) (find (λ (e : ℕ × A). same e.1 x) (enumerate_from (from + 1) xs))) differ
    ∙ same_found same (from + 1) xs n x apart.1 at itself ∙ ap (λ j. Some (j, x)) k

pub number_back : {A : Type 0} (same : A → A → Bool) (xs : List A) (n : ℕ) (x : A) → IsDistinct same xs
    → slice_get xs n ≡ Some x → same x x ≡ true
    → number_where (λ y. same y x) xs ≡ Some n
number_back {A} same xs n x apart at itself =
    ap (λ (o : Option (ℕ × A)). option_map (λ e. e.0) o) (same_found same 0 xs n x apart at itself)
    ∙ ap (λ k. Some k) (let z : 0 + n ≡ n = omega arith in z)

pub bytes_itself : (a : List ℕ) → bytes_eq a a ≡ true
bytes_itself a = (bytes_eq-Decides a a).1 refl

-- A name that may be left out, and the number that it means.
module _ {X : Type 0} (name : X → List ℕ) (xs : List X) where
  abbrev pub look : List ℕ → Option ℕ
  look n = number_where (λ x. bytes_eq (name x) n) xs

  abbrev pub name_at : Option ℕ → Option (List ℕ)
  name_at c = c >>= λ n. option_map name (slice_get xs n)

  pub named : (o : Option (List ℕ)) (c : Option ℕ) → number_or_none look o ≡ Some c
      → IsWithin (length xs) c × (name_at c ≡ o)
  named None None h = (tt, refl)
  named None (Some n) h = absurd (cc)
  named (Some text) c h = by (look text) refl h where
    P : Option ℕ → Type 0
    P d = IsWithin (length xs) d × (name_at d ≡ Some text)

    by : (r : Option ℕ) → look text ≡ r → option_map Some r ≡ Some c → P c
    by None e k = absurd (cc)
    by (Some n) e k =
        let is = number_at (λ x. bytes_eq (name x) text) xs n e in
        let same : Some n ≡ c = cc in
        let named_so : option_map name (slice_get xs n) ≡ Some text =
        ap (option_map name) is.at ∙ ap (λ t. Some t) (equal_bytes (name is.found) text is.passes) in
        subst P same (slice_get_within xs n is.found is.at, named_so)

  pub numbered : (c : Option ℕ) → IsDistinct (λ x y. bytes_eq (name x) (name y)) xs → IsWithin (length xs) c
      → number_or_none look (name_at c) ≡ Some c
  numbered None apart within = refl
  numbered (Some n) apart within = by (slice_get xs n) refl where
    by : (o : Option X) → slice_get xs n ≡ o → number_or_none look (name_at (Some n)) ≡ Some (Some n)
    by None e = absurd (past xs n within e) where
      past : (ys : List X) (k : ℕ) → k < length ys → slice_get ys k ≡ None → ⊥
      past [] k lt f = omega arith
      past (y ∷ ys) zero lt f = cc
      past (y ∷ ys) (suc k) lt f = past ys k (omega arith) f
    by (Some x) e =
        ap (λ (o : Option X). number_or_none look (option_map name o)) e
        ∙ ap (option_map Some) (number_back (λ a b. bytes_eq (name a) (name b)) xs n x apart e (bytes_itself (name x)))
