-- Ranges of dots: which dots they have, as a list and by look-up; one range less; and one dot more.
use Rattle.std.proofs.Common.{◌≡◌, ◌⊎◌, ◌≤◌, ◌<◌, ◌+◌, ◌-◌, ℕ, zero, suc, Bool, true, false, ◌||◌, ◌&&◌, cond, List, [], ◌∷◌, ◌++◌, map, Some, None, refl, sym, ap, subst, ◌∙◌, inl, inr, arith, nat_cmp}
use Rattle.std.specs.Prelude.{◌==◌, nat_le}
use Rattle.std.specs.Cmp.{nat_cmp_is}
use Rattle.std.specs.List.{AllByRecursion, range_with_len}
use Rattle.std.specs.List.Sorted.{IsStrictlySortedBy}
use Rattle.std.specs.Map.{keys_of}
use Rattle.std.specs.Ordering.{is_lt, ordering_then}
use Rattle.std.specs.declared.cmp.Ordering.{Ordering}
use Rattle.std.specs.declared.cmp.Ordering.TheVariants.{Less, Equal, Greater}
use Rattle.std.proofs.lemmas.Bool.{and_parts, eqb-true, eq-eqb, leb-true, le-leb}
use Rattle.std.proofs.lemmas.Cmp.{eq_by_cmp_equiv, ranked}
use Rattle.std.proofs.lemmas.Map.Keys.{IsDistinct-from_sorted}
use Rattle.std.proofs.lemmas.Map.Views.{Contains-from_lookup, lookup-from_Contains, tells_apart}
use Rattle.rt_ptree.specs.Entries.{IsRising, entry_after}
use Rattle.rt_value.proofs.Among.{Among, to_contains, from_contains}
use Rattle.rt_value.proofs.Plain.{AllOf, any_append, all_weaker, all_themselves}
use Rattle.rt_value.proofs.Tests.{same_tests}
use Rattle.rt_cluster.specs.declared.dots.Dot.{Dot}
use Rattle.rt_cluster.specs.Operations.{is_dot, is_among, dot_at}
use Rattle.rt_cluster.specs.Index.{dot_cmp}
use Rattle.rt_cluster.specs.Ranges.{range_dots, dots_in, IsIn, is_in, first_at, AreRanges}
use Rattle.rt_cluster.proofs.DotLists.{same_dot}
use Rattle.rt_cluster.proofs.Indexed.{dot_total, dot_exact, some_one, not_both, split}

-- a range as a list

module _ (node : ℕ) (d : Dot) where
  run_has : (k a : ℕ) → node ≡ d.node → a ≤ d.number → d.number < a + k
      → is_among (map (dot_at node) (range_with_len a k)) d ≡ true
  run_has zero a e low high = absurd (omega arith)
  run_has (suc k) a e low high =
      elim (split (is_dot d (dot_at node a))) [
        | inl h ↦ ap (λ b. b || is_among (map (dot_at node) (range_with_len (a + 1) k)) d) h
        | inr h ↦
            let differ : d.number ≡ a → ⊥ =
            λ same. let z : true ≡ false = sym (ap (λ b. b && (d.number == a)) (eq-eqb d.node node (sym e))
            ∙ eq-eqb d.number a same) ∙ h in cc in
            ap (λ b. b || is_among (map (dot_at node) (range_with_len (a + 1) k)) d) h
            ∙ run_has k (a + 1) e (omega arith) (omega arith)
      ]

  run_or : (k a : ℕ) (b : Bool) → is_dot d (dot_at node a) ≡ b
      → (is_among (map (dot_at node) (range_with_len (a + 1) k)) d ≡ true
      → (node ≡ d.node) × (a + 1 ≤ d.number) × (d.number < a + 1 + k))
      → (b || is_among (map (dot_at node) (range_with_len (a + 1) k)) d) ≡ true
      → (node ≡ d.node) × (a ≤ d.number) × (d.number < a + suc k)
  run_or k a true e f h =
      let same = same_dot d (dot_at node a) e in
      let number : d.number ≡ a = ap (λ (x : Dot). x.number) same in
      (sym (ap (λ (x : Dot). x.node) same), omega arith, omega arith)
  run_or k a false e f h =
      let r = f h in
      let low : a + 1 ≤ d.number = r.1 in
      let high : d.number < a + 1 + k = r.2 in
      (r.0, omega arith, omega arith)

  run_within : (k a : ℕ) → is_among (map (dot_at node) (range_with_len a k)) d ≡ true
      → (node ≡ d.node) × (a ≤ d.number) × (d.number < a + k)
  run_within zero a h = absurd (cc)
  run_within (suc k) a h = run_or k a (is_dot d (dot_at node a)) refl (run_within k (a + 1)) h

module _ (last : Dot) (first : ℕ) (d : Dot) where
  in_from : is_among (range_dots (last, first)) d ≡ true → IsIn last first d
  in_from h =
      let r = run_within last.node d (last.number + 1 - first) first h in
      let low : first ≤ d.number = r.1 in
      let high : d.number < first + (last.number + 1 - first) = r.2 in
      record { node = sym r.0; low = low; high = omega arith }

  in_to : IsIn last first d → is_among (range_dots (last, first)) d ≡ true
  in_to i =
      let low : first ≤ d.number = i.low in
      let high : d.number ≤ last.number = i.high in
      run_has last.node d (last.number + 1 - first) first (sym i.node) low (omega arith)

  pub tested_in : is_in last first d ≡ true → IsIn last first d
  tested_in h =
      let parts = and_parts _ _ h in
      let ends = and_parts _ _ parts.1 in
      record {
        node = eqb-true d.node last.node parts.0;
        low = leb-true first d.number ends.0;
        high = leb-true d.number last.number ends.1;
      }

  pub in_tested : IsIn last first d → is_in last first d ≡ true
  in_tested i =
      ap (λ b. b && (nat_le first d.number && nat_le d.number last.number)) (eq-eqb d.node last.node i.node)
      ∙ ap (λ b. b && nat_le d.number last.number) (le-leb first d.number i.low)
      ∙ le-leb d.number last.number i.high

-- a dot of ranges is one of a range

found_or : (e : Dot × ℕ) (es : List (Dot × ℕ)) (d : Dot) (b : Bool) → is_among (range_dots e) d ≡ b
    → (is_among (dots_in es) d ≡ true → (f : Dot × ℕ) × Among es f × IsIn f.0 f.1 d)
    → (b || is_among (dots_in es) d) ≡ true → (f : Dot × ℕ) × Among (e ∷ es) f × IsIn f.0 f.1 d
found_or e es d true at more h = (e, inl refl, in_from e.0 e.1 d at)
found_or e es d false at more h = let r = more h in (r.0, inr r.1, r.2)

found_in : (es : List (Dot × ℕ)) (d : Dot) → is_among (dots_in es) d ≡ true
    → (f : Dot × ℕ) × Among es f × IsIn f.0 f.1 d
found_in [] d h = absurd (cc)
found_in (e ∷ es) d h =
    found_or e es d (is_among (range_dots e) d) refl (found_in es d)
    (sym (any_append (is_dot d) (range_dots e) (dots_in es)) ∙ h)

pub or_yes : (b : Bool) → (b || true) ≡ true
or_yes true = refl
or_yes false = refl

there_in : (es : List (Dot × ℕ)) (e : Dot × ℕ) (d : Dot) → Among es e → IsIn e.0 e.1 d
    → is_among (dots_in es) d ≡ true
there_in [] e d at i = absurd at
there_in (f ∷ es) e d (inl same) i =
    any_append (is_dot d) (range_dots f) (dots_in es)
    ∙ ap (λ b. b || is_among (dots_in es) d)
    (ap (λ (g : Dot × ℕ). is_among (range_dots g) d) same ∙ in_to e.0 e.1 d i)
there_in (f ∷ es) e d (inr at) i =
    any_append (is_dot d) (range_dots f) (dots_in es)
    ∙ ap (λ b. is_among (range_dots f) d || b) (there_in es e d at i)
    ∙ or_yes (is_among (range_dots f) d)

-- the range that the dot is of
pub record Has (ranges : List (Dot × ℕ)) (d : Dot) : Type 0 where
  pub last : Dot
  pub first : ℕ
  pub there : first_at ranges last ≡ Some first
  pub within : IsIn last first d

module _ (ranges : List (Dot × ℕ)) where
  pub range_at : IsRising dot_cmp ranges → (e : Dot × ℕ) → Among ranges e → first_at ranges e.0 ≡ Some e.1
  range_at rising e at =
      lookup-from_Contains (eq_by_cmp_equiv dot_total) e.0 e.1 ranges
      (IsDistinct-from_sorted dot_cmp (keys_of ranges) rising) (to_contains ranges e at)

  at_range : (last : Dot) (first : ℕ) → first_at ranges last ≡ Some first → Among ranges (last, first)
  at_range last first at = from_contains _ _ (Contains-from_lookup (tells_apart dot_exact) last first ranges at)

  pub has_from : IsRising dot_cmp ranges → (d : Dot) → is_among (dots_in ranges) d ≡ true → Has ranges d
  has_from rising d h =
      let r = found_in ranges d h in
      record { last = r.0.0; first = r.0.1; there = range_at rising r.0 r.1; within = r.2 }

  pub has_to : (d : Dot) → Has ranges d → is_among (dots_in ranges) d ≡ true
  has_to d h = there_in ranges (h.last, h.first) d (at_range h.last h.first h.there) h.within

  pub all_filled : AreRanges ranges → AllOf (λ (e : Dot × ℕ). e.1 ≤ e.0.number) ranges
  all_filled are =
      all_weaker (Among ranges) (λ (e : Dot × ℕ). e.1 ≤ e.0.number) ranges
      (λ e at. are.filled e.0 e.1 (range_at are.rising e at)) (all_themselves ranges)

-- the order of dots, by their numbers

dot_less : (d e : Dot) → dot_cmp d e ≡ Less → (d.node < e.node) ⊎ ((d.node ≡ e.node) × (d.number < e.number))
dot_less d e h = by (nat_cmp d.node e.node) refl where
  by : (o : Ordering) → o ≡ nat_cmp d.node e.node
      → (d.node < e.node) ⊎ ((d.node ≡ e.node) × (d.number < e.number))
  by Less at = inl (ranked d.node e.node Less at)
  by Equal at = inr (
    ranked d.node e.node Equal at,
    ranked d.number e.number Less (sym (ap (λ o. ordering_then o (nat_cmp d.number e.number)) at ∙ h)),
  )
  by Greater at = absurd (let z : Greater ≡ Less =
      ap (λ o. ordering_then o (nat_cmp d.number e.number)) at ∙ h in cc)

less_dot : (d e : Dot) → d.node ≡ e.node → d.number < e.number → dot_cmp d e ≡ Less
less_dot d e same less =
    ap (λ o. ordering_then o (nat_cmp d.number e.number)) (sym (nat_cmp_is d.node e.node Equal same))
    ∙ sym (nat_cmp_is d.number e.number Less less)

-- the first range whose last dot is above the dot

keys_all : (P : Dot → Type 0) (es : List (Dot × ℕ)) → AllByRecursion P (keys_of es) → (g : Dot × ℕ) → Among es g → P g.0
keys_all P [] a g at = absurd at
keys_all P (e ∷ es) a g (inl same) = subst (λ (x : Dot × ℕ). P x.0) same a.0
keys_all P (e ∷ es) a g (inr at) = keys_all P es a.1 g at

module _ (d : Dot) where
  pub record Next (es : List (Dot × ℕ)) (f : Dot × ℕ) : Type 0 where
    pub there : Among es f
    pub above : dot_cmp d f.0 ≡ Less
    pub least : (g : Dot × ℕ) → Among es g → dot_cmp d g.0 ≡ Less → (g ≡ f) ⊎ (dot_cmp f.0 g.0 ≡ Less)

  next_here : (e : Dot × ℕ) (es : List (Dot × ℕ)) → AllByRecursion (λ k. dot_cmp e.0 k ≡ Less) (keys_of es)
      → dot_cmp d e.0 ≡ Less → Next (e ∷ es) e
  next_here e es a above = record { there = inl refl; above = above; least = λ g at less. first g at } where
    first : (g : Dot × ℕ) → Among (e ∷ es) g → (g ≡ e) ⊎ (dot_cmp e.0 g.0 ≡ Less)
    first g (inl same) = inl (sym same)
    first g (inr at) = inr (keys_all (λ k. dot_cmp e.0 k ≡ Less) es a g at)

  next_later : (e : Dot × ℕ) (es : List (Dot × ℕ)) (f : Dot × ℕ) → (dot_cmp d e.0 ≡ Less → ⊥) → Next es f
      → Next (e ∷ es) f
  next_later e es f off n = record { there = inr n.there; above = n.above; least = λ g at less. step g at less } where
    step : (g : Dot × ℕ) → Among (e ∷ es) g → dot_cmp d g.0 ≡ Less → (g ≡ f) ⊎ (dot_cmp f.0 g.0 ≡ Less)
    step g (inl same) less = absurd (off (ap (λ (x : Dot × ℕ). dot_cmp d x.0) same ∙ less))
    step g (inr at) less = n.least g at less

  next_or : (e : Dot × ℕ) (es : List (Dot × ℕ)) (f : Dot × ℕ) (o : Ordering) → dot_cmp d e.0 ≡ o
      → AllByRecursion (λ k. dot_cmp e.0 k ≡ Less) (keys_of es)
      → (entry_after dot_cmp es d ≡ Some f → Next es f)
      → cond (is_lt o) (Some e) (entry_after dot_cmp es d) ≡ Some f → Next (e ∷ es) f
  next_or e es f Less at a more h =
      subst (λ (x : Dot × ℕ). Next (e ∷ es) x) (some_one e f h) (next_here e es a at)
  next_or e es f Equal at a more h =
      next_later e es f (λ z. let bad : Equal ≡ Less = sym at ∙ z in cc) (more h)
  next_or e es f Greater at a more h =
      next_later e es f (λ z. let bad : Greater ≡ Less = sym at ∙ z in cc) (more h)

  pub next_in : (es : List (Dot × ℕ)) → IsRising dot_cmp es → (f : Dot × ℕ) → entry_after dot_cmp es d ≡ Some f
      → Next es f
  unfolding IsStrictlySortedBy
  next_in [] rising f h = absurd (cc)
  next_in (e ∷ es) rising f h = next_or e es f (dot_cmp d e.0) refl rising.0 (next_in es rising.1 f) h

  none_or : (e : Dot × ℕ) (es : List (Dot × ℕ)) (o : Ordering) → dot_cmp d e.0 ≡ o
      → (entry_after dot_cmp es d ≡ None → (g : Dot × ℕ) → Among es g → dot_cmp d g.0 ≡ Less → ⊥)
      → cond (is_lt o) (Some e) (entry_after dot_cmp es d) ≡ None
      → (g : Dot × ℕ) → Among (e ∷ es) g → dot_cmp d g.0 ≡ Less → ⊥
  none_or e es Less at more h g in_es less = cc
  none_or e es Equal at more h g (inl same) less =
      let bad : Equal ≡ Less = sym at ∙ ap (λ (x : Dot × ℕ). dot_cmp d x.0) same ∙ less in cc
  none_or e es Equal at more h g (inr later) less = more h g later less
  none_or e es Greater at more h g (inl same) less =
      let bad : Greater ≡ Less = sym at ∙ ap (λ (x : Dot × ℕ). dot_cmp d x.0) same ∙ less in cc
  none_or e es Greater at more h g (inr later) less = more h g later less

  none_after : (es : List (Dot × ℕ)) → entry_after dot_cmp es d ≡ None → (g : Dot × ℕ) → Among es g
      → dot_cmp d g.0 ≡ Less → ⊥
  none_after [] h g at less = at
  none_after (e ∷ es) h g at less = none_or e es (dot_cmp d e.0) refl (none_after es) h g at less

-- a dot is looked up

no_test : (b : Bool) → (b ≡ true → ⊥) → b ≡ false
no_test true f = absurd (f refl)
no_test false f = refl

module _ (ranges : List (Dot × ℕ)) (are : AreRanges ranges) (d : Dot) where
  pub last_in : (first : ℕ) → first_at ranges d ≡ Some first → Has ranges d
  last_in first at =
      record {
        last = d;
        first = first;
        there = at;
        within = record { node = refl; low = are.filled d first at; high = omega arith };
      }

  pub last_has : (first : ℕ) → first_at ranges d ≡ Some first → is_among (dots_in ranges) d ≡ true
  last_has first at = has_to ranges d (last_in first at)

  module _ (none : first_at ranges d ≡ None) where
    behind : (h : Has ranges d) → dot_cmp d h.last ≡ Less
    behind h =
        elim (split (d.number == h.last.number)) [
          | inl e ↦
              let same : h.last ≡ d =
              ap (λ n. dot_at n h.last.number) (sym h.within.node)
              ∙ ap (dot_at d.node) (sym (eqb-true d.number h.last.number e)) in
              absurd (not_both (first_at ranges d) h.first none (ap (first_at ranges) (sym same) ∙ h.there))
          | inr e ↦
              let off : d.number ≡ h.last.number → ⊥ =
              λ same. let bad : true ≡ false = sym (eq-eqb d.number h.last.number same) ∙ e in cc in
              let high : d.number ≤ h.last.number = h.within.high in
              less_dot d h.last h.within.node (omega arith)
        ]

    pub none_has : entry_after dot_cmp ranges d ≡ None → is_among (dots_in ranges) d ≡ false
    none_has after =
        no_test (is_among (dots_in ranges) d)
        (λ t. let h = has_from ranges are.rising d t in
        none_after d ranges after (h.last, h.first) (at_range ranges h.last h.first h.there) (behind h))

    -- the next range has the dot where any has it
    next_is : (f : Dot × ℕ) → Next d ranges f → (h : Has ranges d) → dot_cmp f.0 h.last ≡ Less → f.0 ≡ h.last
    next_is f n h less =
        let low : h.first ≤ d.number = h.within.low in
        let same : d.node ≡ h.last.node = h.within.node in
        elim (dot_less d f.0 n.above) [
          | inl up ↦
              elim (dot_less f.0 h.last less) [
                | inl more ↦ absurd (omega arith)
                | inr more ↦ let level : f.0.node ≡ h.last.node = more.0 in absurd (omega arith)
              ]
          | inr up ↦
              let on : d.node ≡ f.0.node = up.0 in
              let over : d.number < f.0.number = up.1 in
              elim (dot_less f.0 h.last less) [
                | inl more ↦ absurd (omega arith)
                | inr more ↦
                    let under : f.0.number < h.last.number = more.1 in
                    let at = range_at ranges are.rising f n.there in
                    are.apart f.0 h.last f.1 h.first at h.there f.0
                    (record { node = refl; low = are.filled f.0 f.1 at; high = omega arith })
                    (record { node = more.0; low = omega arith; high = omega arith })
              ]
        ]

    of_next : (f : Dot × ℕ) → Next d ranges f → (h : Has ranges d) → IsIn f.0 f.1 d
    of_next f n h =
        elim (n.least (h.last, h.first) (at_range ranges h.last h.first h.there) (behind h)) [
          | inl same ↦ subst (λ (x : Dot × ℕ). IsIn x.0 x.1 d) same h.within
          | inr less ↦
              let one = next_is f n h less in
              let first : h.first ≡ f.1 =
              some_one h.first f.1 (sym h.there ∙ ap (first_at ranges) (sym one)
              ∙ range_at ranges are.rising f n.there) in
              subst (λ (x : Dot). IsIn x f.1 d) (sym one) (subst (λ (x : ℕ). IsIn h.last x d) first h.within)
        ]

    pub next_has : (f : Dot × ℕ) → entry_after dot_cmp ranges d ≡ Some f
        → is_among (dots_in ranges) d ≡ is_in f.0 f.1 d
    next_has f after =
        let n = next_in d ranges are.rising f after in
        same_tests (is_among (dots_in ranges) d) (is_in f.0 f.1 d)
        (λ t. in_tested f.0 f.1 d (of_next f n (has_from ranges are.rising d t)))
        (λ t. has_to ranges d (record {
          last = f.0;
          first = f.1;
          there = range_at ranges are.rising f n.there;
          within = tested_in f.0 f.1 d t;
        }))

-- a walk over the numbers of a range, and over all ranges

pub range_more : (a n : ℕ) → range_with_len a (n + 1) ≡ range_with_len a n ++ (a + n) ∷ []
range_more a n = ap (range_with_len a) (next n) ∙ by n a where
  next : (k : ℕ) → k + 1 ≡ suc k
  next k = omega arith

  by : (k b : ℕ) → range_with_len b (suc k) ≡ range_with_len b k ++ (b + k) ∷ []
  by zero b = let same : b ≡ b + 0 = omega arith in ap (λ x. x ∷ []) same
  by (suc k) b =
      let same : b + 1 + k ≡ b + suc k = omega arith in
      ap (λ xs. b ∷ xs) (by k (b + 1) ∙ ap (λ x. range_with_len (b + 1) k ++ x ∷ []) same)
