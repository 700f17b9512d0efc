-- Values at their numbers: what an insertion and a removal of an entry make of them.
use Rattle.std.proofs.Common.{◌≡◌, ℕ, ◌==◌, nat_lt, Bool, true, false, not, cond, List, [], ◌∷◌, ◌++◌, map}
use Rattle.std.proofs.Common.{if◌then◌else◌, refl, ap, ap₂, sym, subst, ◌∙◌, arith}
use Rattle.std.specs.declared.cmp.Ordering.{Ordering}
use Rattle.std.specs.declared.cmp.Ordering.TheVariants.{Less, Equal, Greater}
use Rattle.std.specs.BTreeMap.{insert_entry}
use Rattle.std.specs.List.{AllByRecursion, filter}
use Rattle.std.specs.List.Sorted.{IsStrictlySortedBy}
use Rattle.std.specs.Map.{keys_of, values_of}
use Rattle.std.specs.Ordering.{is_eq, match_ordering, nat_cmp}
use Rattle.std.proofs.lemmas.Bool.Decides.{nat_tests}
use Rattle.std.proofs.lemmas.Cmp.{nat_cmp_total, ranked}
use Rattle.rt_ptree.specs.Entries.{without_key}
use Rattle.rt_ptree.proofs.Order.{IsRising-insert, IsRising-without}
use Rattle.rt_value.proofs.Plain.{AllOf, all_weaker, filter_all}
use Rattle.rt_registry.specs.Numbered.{IsNumbered, put_at, without}

-- what the order of two numbers says of the tests on them

less_is : (a b : ℕ) → nat_cmp a b ≡ Less → nat_lt a b ≡ true
less_is a b h = let r = ranked a b Less (sym h) in grind (arith, nat_tests, r)

less_back : (a b : ℕ) → nat_cmp a b ≡ Less → nat_lt b a ≡ false
less_back a b h = let r = ranked a b Less (sym h) in grind (arith, nat_tests, r)

less_apart : (a b : ℕ) → nat_cmp a b ≡ Less → (b == a) ≡ false
less_apart a b h = let r = ranked a b Less (sym h) in grind (arith, nat_tests, r)

more_is : (a b : ℕ) → nat_cmp a b ≡ Greater → nat_lt b a ≡ true
more_is a b h = let r = ranked a b Greater (sym h) in grind (arith, nat_tests, r)

more_back : (a b : ℕ) → nat_cmp a b ≡ Greater → nat_lt a b ≡ false
more_back a b h = let r = ranked a b Greater (sym h) in grind (arith, nat_tests, r)

more_apart : (a b : ℕ) → nat_cmp a b ≡ Greater → (b == a) ≡ false
more_apart a b h = let r = ranked a b Greater (sym h) in grind (arith, nat_tests, r)

same_is : (a b : ℕ) → nat_cmp a b ≡ Equal → a ≡ b
same_is a b h = ranked a b Equal (sym h)

not_less : (a : ℕ) → nat_lt a a ≡ false
not_less a = grind (arith, nat_tests)

itself : (a : ℕ) → (a == a) ≡ true
itself a = grind (arith, nat_tests)

filter_none : {A : Type 0} (p : A → Bool) (xs : List A) → AllOf (λ x. p x ≡ false) xs → filter p xs ≡ []
filter_none p [] e = refl
filter_none p (x ∷ xs) e = ap (λ b. cond b (x ∷ filter p xs) (filter p xs)) e.0 ∙ filter_none p xs e.1

module _ {V : Type 0} (number : V → ℕ) where
  abbrev Keyed : List (ℕ × V) → Type 0
  Keyed es = AllByRecursion (λ e. e.0 ≡ number e.1) es

  abbrev Over : ℕ → List V → Type 0
  Over n vs = AllOf (λ w. nat_cmp n (number w) ≡ Less) vs

  values_over : (n : ℕ) (es : List (ℕ × V)) → Keyed es → AllByRecursion (λ k. nat_cmp n k ≡ Less) (keys_of es)
      → Over n (values_of es)
  values_over n [] h over = tt
  values_over n (e ∷ es) h over = (subst (λ k. nat_cmp n k ≡ Less) h.0 over.0, values_over n es h.1 over.1)

  -- put before all
  put_first : (v : V) (vs : List V) → Over (number v) vs → put_at number v vs ≡ v ∷ vs
  put_first v vs over =
      ap₂ (λ ys zs. ys ++ v ∷ zs)
      (filter_none (λ w. nat_lt (number w) (number v)) vs
      (all_weaker _ _ vs (λ w less. less_back (number v) (number w) less) over))
      (filter_all (λ w. nat_lt (number v) (number w)) vs
      (all_weaker _ _ vs (λ w less. less_is (number v) (number w) less) over))

  pub values-insert : (v : V) (es : List (ℕ × V)) → IsNumbered number es
      → values_of (insert_entry nat_cmp es (number v) v) ≡ put_at number v (values_of es)
  unfolding IsStrictlySortedBy
  values-insert v [] h = refl
  values-insert v (e ∷ es) h =
      by (nat_cmp (number v) e.0) refl
      (values-insert v es (record { keyed = h.keyed.1; rising = h.rising.1 }))
    where
      by : (r : Ordering) → nat_cmp (number v) e.0 ≡ r
          → values_of (insert_entry nat_cmp es (number v) v) ≡ put_at number v (values_of es)
          → values_of
          (match_ordering r ((number v, v) ∷ e ∷ es) ((e.0, v) ∷ es) (e ∷ insert_entry nat_cmp es (number v) v))
          ≡ put_at number v (e.1 ∷ values_of es)
      by Less is more =
          let behind = all_weaker _ (λ k. nat_cmp (number v) k ≡ Less) (keys_of es)
          (λ k less. nat_cmp_total.trans (number v) e.0 k is less) h.rising.0 in
          sym (put_first v (e.1 ∷ values_of es) (values_over (number v) (e ∷ es) h.keyed (is, behind)))
      by Equal is more =
          let same : number v ≡ e.0 = same_is (number v) e.0 is in
          let one : number v ≡ number e.1 = same ∙ h.keyed.0 in
          let low = subst (λ k. nat_lt k (number v) ≡ false) one (not_less (number v)) in
          let high = subst (λ k. nat_lt (number v) k ≡ false) one (not_less (number v)) in
          let behind = subst (λ n. AllByRecursion (λ k. nat_cmp n k ≡ Less) (keys_of es)) (sym same) h.rising.0 in
          rw (low, high) (sym (put_first v (values_of es) (values_over (number v) es h.keyed.1 behind)))
      by Greater is more =
          let key = subst (λ k. nat_cmp (number v) k ≡ Greater) h.keyed.0 is in
          rw (more_is (number v) (number e.1) key, more_back (number v) (number e.1) key) (ap (λ ys. e.1 ∷ ys) more)

  pub values-without : (n : ℕ) (es : List (ℕ × V)) → IsNumbered number es
      → values_of (without_key nat_cmp es n) ≡ without number n (values_of es)
  unfolding IsStrictlySortedBy
  values-without n [] h = refl
  values-without n (e ∷ es) h =
      by (nat_cmp n e.0) refl (values-without n es (record { keyed = h.keyed.1; rising = h.rising.1 }))
    where
      by : (r : Ordering) → nat_cmp n e.0 ≡ r → values_of (without_key nat_cmp es n) ≡ without number n (values_of es)
          → values_of (if is_eq r then es else e ∷ without_key nat_cmp es n) ≡ without number n (e.1 ∷ values_of es)
      by Less is more =
          rw (less_apart n (number e.1) (subst (λ k. nat_cmp n k ≡ Less) h.keyed.0 is)) (ap (λ ys. e.1 ∷ ys) more)
      by Equal is more =
          let same : n ≡ e.0 = same_is n e.0 is in
          let found : (number e.1 == n) ≡ true = subst (λ k. (k == n) ≡ true) (same ∙ h.keyed.0) (itself n) in
          let behind = subst (λ m. AllByRecursion (λ k. nat_cmp m k ≡ Less) (keys_of es)) (sym same) h.rising.0 in
          rw found
          (sym (filter_all (λ w. not (number w == n)) (values_of es)
          (all_weaker _ _ (values_of es) (λ w less. ap not (less_apart n (number w) less))
          (values_over n es h.keyed.1 behind))))
      by Greater is more =
          rw (more_apart n (number e.1) (subst (λ k. nat_cmp n k ≡ Greater) h.keyed.0 is)) (ap (λ ys. e.1 ∷ ys) more)

  keyed-insert : (v : V) (es : List (ℕ × V)) → Keyed es → Keyed (insert_entry nat_cmp es (number v) v)
  keyed-insert v [] h = (refl, tt)
  keyed-insert v (e ∷ es) h = by (nat_cmp (number v) e.0) refl (keyed-insert v es h.1)
    where
      by : (r : Ordering) → nat_cmp (number v) e.0 ≡ r → Keyed (insert_entry nat_cmp es (number v) v)
          → Keyed (match_ordering r ((number v, v) ∷ e ∷ es) ((e.0, v) ∷ es) (e ∷ insert_entry nat_cmp es (number v) v))
      by Less is more = (refl, h)
      by Equal is more = (sym (same_is (number v) e.0 is), h.1)
      by Greater is more = (h.0, more)

  keyed-without : (n : ℕ) (es : List (ℕ × V)) → Keyed es → Keyed (without_key nat_cmp es n)
  keyed-without n [] h = tt
  keyed-without n (e ∷ es) h =
      elim (nat_cmp n e.0) as (λ r. Keyed (if is_eq r then es else e ∷ without_key nat_cmp es n)) [
        | Less ↦ (h.0, keyed-without n es h.1)
        | Equal ↦ h.1
        | Greater ↦ (h.0, keyed-without n es h.1)
      ]

  pub IsNumbered-insert : (v : V) (es : List (ℕ × V)) → IsNumbered number es
      → IsNumbered number (insert_entry nat_cmp es (number v) v)
  IsNumbered-insert v es h =
      record { keyed = keyed-insert v es h.keyed; rising = IsRising-insert nat_cmp_total (number v) v es h.rising }

  pub IsNumbered-without : (n : ℕ) (es : List (ℕ × V)) → IsNumbered number es
      → IsNumbered number (without_key nat_cmp es n)
  IsNumbered-without n es h =
      record { keyed = keyed-without n es h.keyed; rising = IsRising-without nat_cmp n es h.rising }

  numbers_of : (es : List (ℕ × V)) → Keyed es → keys_of es ≡ map number (values_of es)
  numbers_of [] h = refl
  numbers_of (e ∷ es) h = ap₂ (λ k ks. k ∷ ks) h.0 (numbers_of es h.1)

  pub numbers-rise : (es : List (ℕ × V)) → IsNumbered number es → IsStrictlySortedBy nat_cmp (map number (values_of es))
  numbers-rise es h = subst (IsStrictlySortedBy nat_cmp) (numbers_of es h.keyed) h.rising
