-- What is found at each key after an insertion and a removal.
use Rattle.std.proofs.Common.{◌≡◌, Bool, Some, None, List, [], ◌∷◌, true, false, refl, ap, sym, ◌∙◌, if◌then◌else◌}
use Rattle.std.specs.declared.cmp.Ordering.{Ordering}
use Rattle.std.specs.declared.cmp.Ordering.TheVariants.{Less, Equal, Greater}
use Rattle.std.specs.BTreeMap.{insert_entry, is_at}
use Rattle.std.specs.Cmp.{IsTotalOrder}
use Rattle.std.specs.Map.{keys_of}
use Rattle.std.specs.Ordering.{is_eq, match_ordering, ordering_reverse, eq_by_cmp}
use Rattle.std.proofs.lemmas.Cmp.{eq_by_cmp_equiv, alike_right}
use Rattle.std.proofs.lemmas.Map.{lookup-remove_entry}
use Rattle.std.proofs.lemmas.Map.Keys.{IsDistinct-from_sorted}
use Rattle.rt_ptree.specs.Entries.{IsRising, Updates, value_at, without_key}

is_eq_true : (r : Ordering) → is_eq r ≡ true → r ≡ Equal
is_eq_true Less h = cc
is_eq_true Equal h = refl
is_eq_true Greater h = cc

is_eq-reverse : (r : Ordering) → is_eq (ordering_reverse r) ≡ is_eq r
is_eq-reverse Less = refl
is_eq-reverse Equal = refl
is_eq-reverse Greater = refl

-- two choices of which the second is made only where the first is not
cond_swap : {X : Type 0} (a b : Bool) (x y z : X) → (b ≡ true → a ≡ false) → (if b then y else if a then x else z) ≡ (if a then x else if b then y else z)
cond_swap a false x y z apart = refl
cond_swap false true x y z apart = refl
cond_swap true true x y z apart = cc (apart refl)

cond_twice : {X : Type 0} (b : Bool) (x y z : X) → (if b then x else z) ≡ (if b then x else if b then y else z)
cond_twice true x y z = refl
cond_twice false x y z = refl

module _ {K : Type 0} {cmp : K → K → Ordering} (o : IsTotalOrder cmp) (k : K) where
  -- keys that are equal to one key are equal
  same_tests : (x y : K) → is_at (cmp k) x ≡ true → is_at (cmp k) y ≡ eq_by_cmp cmp x y
  same_tests x y equal = ap is_eq (o.congr k x y (is_eq_true _ equal))

  is_at-flip : (q : K) → is_eq (cmp q k) ≡ is_at (cmp k) q
  is_at-flip q = ap is_eq (o.antisymm q k) ∙ is_eq-reverse (cmp k q)

module _ {K V : Type 0} {cmp : K → K → Ordering} (o : IsTotalOrder cmp) (k : K) where
  pub Updates-without : (es : List (K × V)) → IsRising cmp es → Updates cmp es (without_key cmp es k) k None
  Updates-without es rising q = lookup-remove_entry (eq_by_cmp_equiv o) (is_at (cmp k)) (same_tests o k) q es (IsDistinct-from_sorted cmp (keys_of es) rising)

  put_found : (v : V) (e : K × V) (es : List (K × V)) (q : K) → value_at cmp (insert_entry cmp es k v) q ≡ (if is_at (cmp k) q then Some v else value_at cmp es q) → (r : Ordering) → cmp k e.0 ≡ r → value_at cmp (match_ordering r ((k, v) ∷ e ∷ es) ((e.0, v) ∷ es) (e ∷ insert_entry cmp es k v)) q ≡ (if is_at (cmp k) q then Some v else value_at cmp (e ∷ es) q)
  put_found v e es q rest Less is = rw (is_at-flip o k q)
  put_found v e es q rest Equal is =
      let same : is_at (cmp k) q ≡ is_eq (cmp q e.0) = sym (is_at-flip o k q) ∙ ap is_eq (alike_right o k e.0 q is) in
      rw same (cond_twice (is_eq (cmp q e.0)) (Some v) (Some e.1) (value_at cmp es q))
  put_found v e es q rest Greater is =
      let apart : is_eq (cmp q e.0) ≡ true → is_at (cmp k) q ≡ false = λ equal. ap is_eq (alike_right o q e.0 k (is_eq_true _ equal) ∙ is) in
      rw rest (cond_swap (is_at (cmp k) q) (is_eq (cmp q e.0)) (Some v) (Some e.1) (value_at cmp es q) apart)

  pub Updates-insert : (v : V) (es : List (K × V)) → Updates cmp es (insert_entry cmp es k v) k (Some v)
  Updates-insert v [] q = rw (is_at-flip o k q)
  Updates-insert v (e ∷ es) q = put_found v e es q (Updates-insert v es q) (cmp k e.0) refl
