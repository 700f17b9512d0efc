-- Ranges of dots, one less, and with one dot more: it goes into one range with those right before and behind it.
use Rattle.std.proofs.Common.{◌≡◌, ◌⊎◌, ◌≤◌, ◌<◌, ◌+◌, ◌-◌, ℕ, true, false, ◌||◌, ◌&&◌, List, [], Option, Some, None, refl, sym, ap, subst, ◌∙◌, inl, inr, arith}
use Rattle.std.specs.Prelude.{◌==◌, nat_le}
use Rattle.std.specs.BTreeMap.{is_at}
use Rattle.std.specs.List.Sorted.{IsStrictlySortedBy}
use Rattle.std.specs.Option.{unwrap_or}
use Rattle.std.proofs.lemmas.Bool.{and_parts, eqb-true, eq-eqb, leb-true, le-leb}
use Rattle.rt_ptree.specs.Entries.{IsRising, Updates, entry_after}
use Rattle.rt_value.proofs.Tests.{same_tests}
use Rattle.rt_cluster.specs.declared.dots.Dot.{Dot}
use Rattle.rt_cluster.specs.Operations.{is_dot, is_among, dot_at}
use Rattle.rt_cluster.specs.Index.{dot_cmp}
use Rattle.rt_cluster.specs.Ranges.{dots_in, IsIn, first_at, AreRanges, dot_before, IsLastWith}
use Rattle.rt_cluster.proofs.DotLists.{same_dot, dot_itself}
use Rattle.rt_cluster.proofs.Indexed.{at_dot, dot_at_itself, chosen, other, some_one, not_both, split}
use Rattle.rt_cluster.proofs.RangeLists.{Has, has_from, has_to, last_in, range_at, next_in, or_yes}

pub none_are : AreRanges []
unfolding IsStrictlySortedBy
none_are = record { rising = tt; filled = λ k n h. absurd (cc); apart = λ j k m n h. absurd (cc) }

-- a range taken out

pub none_left : (ranges : List (Dot × ℕ)) (p : Dot) → first_at ranges p ≡ None → Updates dot_cmp ranges ranges p None
none_left ranges p none q =
    elim (split (is_at (dot_cmp p) q)) [
      | inl e ↦ ap (first_at ranges) (sym (at_dot p q e)) ∙ none
          ∙ sym (chosen (is_at (dot_cmp p) q) None (first_at ranges q) e)
      | inr e ↦ sym (other (is_at (dot_cmp p) q) None (first_at ranges q) e)
    ]

off_at : (p k : Dot) → is_at (dot_cmp p) k ≡ false → p ≡ k → ⊥
off_at p k e same =
    let bad : true ≡ false = sym (ap (is_at (dot_cmp p)) (sym same) ∙ dot_at_itself p) ∙ e in cc

module _ (ranges left : List (Dot × ℕ)) (p : Dot) (taken : Updates dot_cmp ranges left p None) where
  still : (k : Dot) (n : ℕ) → first_at left k ≡ Some n → (first_at ranges k ≡ Some n) × (p ≡ k → ⊥)
  still k n h =
      elim (split (is_at (dot_cmp p) k)) [
        | inl e ↦ absurd (not_both (first_at left k) n
            (taken k ∙ chosen (is_at (dot_cmp p) k) None (first_at ranges k) e) h)
        | inr e ↦ (sym (taken k ∙ other (is_at (dot_cmp p) k) None (first_at ranges k) e) ∙ h, off_at p k e)
      ]

  pub left_are : AreRanges ranges → IsRising dot_cmp left → AreRanges left
  left_are are rising = record {
    rising = rising;
    filled = λ k n h. are.filled k n (still k n h).0;
    apart = λ j k m n g h. are.apart j k m n (still j m g).0 (still k n h).0;
  }

pub next_with : (ranges : List (Dot × ℕ)) (d : Dot) (f : Dot × ℕ) → AreRanges ranges
    → entry_after dot_cmp ranges d ≡ Some f → ((f.0.node == d.node) && (f.1 == d.number + 1)) ≡ true
    → IsLastWith ranges d f.0
next_with ranges d f are after h =
    let parts = and_parts _ _ h in
    inr (
      eqb-true f.0.node d.node parts.0,
      range_at ranges are.rising f (next_in d ranges are.rising f after).there
          ∙ ap (λ (n : ℕ). Some n) (eqb-true f.1 (d.number + 1) parts.1),
    )

is_in_at : (j k : Dot) (m n : ℕ) (x : Dot) → j ≡ k → m ≡ n → IsIn j m x → IsIn k n x
is_in_at j k m n x e f i = subst (λ (y : Dot). IsIn y n x) e (subst (λ (y : ℕ). IsIn j y x) f i)

-- a dot put in

module _ (ranges left after : List (Dot × ℕ)) (are : AreRanges ranges) (d last : Dot) (first : ℕ)
    (fresh : is_among (dots_in ranges) d ≡ false) (last_is : IsLastWith ranges d last)
    (first_is : first ≡ unwrap_or (first_at ranges (dot_before d)) d.number)
    (taken : Updates dot_cmp ranges left (dot_before d) None)
    (put : Updates dot_cmp left after last (Some first)) where
  unheard : Has ranges d → ⊥
  unheard h = let bad : true ≡ false = sym (has_to ranges d h) ∙ fresh in cc

  begins : (first ≡ d.number) ⊎ (first_at ranges (dot_before d) ≡ Some first)
  begins = by (first_at ranges (dot_before d)) refl first_is where
    by : (o : Option ℕ) → first_at ranges (dot_before d) ≡ o → first ≡ unwrap_or o d.number
        → (first ≡ d.number) ⊎ (first_at ranges (dot_before d) ≡ Some first)
    by None at e = inl e
    by (Some n) at e = inr (at ∙ ap (λ (m : ℕ). Some m) (sym e))

  low : first ≤ d.number
  low =
      elim begins [
        | inl e ↦ omega arith
        | inr at ↦ let filled : first ≤ d.number - 1 = are.filled (dot_before d) first at in omega arith
      ]

  node_is : last.node ≡ d.node
  node_is =
      elim last_is [
        | inl e ↦ ap (λ (x : Dot). x.node) e
        | inr h ↦ h.0
      ]

  high : d.number ≤ last.number
  high =
      elim last_is [
        | inl e ↦ let same : last.number ≡ d.number = ap (λ (x : Dot). x.number) e in omega arith
        | inr h ↦ let filled : d.number + 1 ≤ last.number = are.filled last (d.number + 1) h.1 in omega arith
      ]

  -- the new range is the dot, and the two that are gone

  before_part : (x : Dot) → IsIn last first x → x.number < d.number
      → (h : Has ranges x) × (h.last ≡ dot_before d)
  before_part x i less =
      let from : first ≤ x.number = i.low in
      elim begins [
        | inl e ↦ absurd (omega arith)
        | inr at ↦ (
          record {
            last = dot_before d;
            first = first;
            there = at;
            within = record { node = i.node ∙ node_is; low = from; high = omega arith };
          },
          refl,
        )
      ]

  behind_part : (x : Dot) → IsIn last first x → d.number < x.number → (h : Has ranges x) × (h.last ≡ last)
  behind_part x i less =
      let to : x.number ≤ last.number = i.high in
      elim last_is [
        | inl e ↦ let same : last.number ≡ d.number = ap (λ (y : Dot). y.number) e in absurd (omega arith)
        | inr h ↦ (
          record {
            last = last;
            first = d.number + 1;
            there = h.1;
            within = record { node = i.node; low = omega arith; high = to };
          },
          refl,
        )
      ]

  parts : (x : Dot) → IsIn last first x
      → (x ≡ d) ⊎ ((h : Has ranges x) × ((h.last ≡ dot_before d) ⊎ (h.last ≡ last)))
  parts x i =
      elim (split (x.number == d.number)) [
        | inl e ↦ inl (ap (λ n. dot_at n x.number) (i.node ∙ node_is)
            ∙ ap (dot_at d.node) (eqb-true x.number d.number e))
        | inr e ↦
            let off : x.number ≡ d.number → ⊥ =
            λ same. let bad : true ≡ false = sym (eq-eqb x.number d.number same) ∙ e in cc in
            elim (split (nat_le x.number d.number)) [
              | inl f ↦
                  let below : x.number ≤ d.number = leb-true x.number d.number f in
                  let part = before_part x i (omega arith) in inr (part.0, inl part.1)
              | inr f ↦
                  let over : x.number ≤ d.number → ⊥ =
                  λ below. let bad : true ≡ false = sym (le-leb x.number d.number below) ∙ f in cc in
                  let part = behind_part x i (omega arith) in inr (part.0, inr part.1)
            ]
      ]

  -- the ranges that are there then

  new_there : first_at after last ≡ Some first
  new_there = put last ∙ chosen (is_at (dot_cmp last) last) (Some first) (first_at left last) (dot_at_itself last)

  abbrev IsOld : Dot → ℕ → Type 0
  IsOld k n = (first_at ranges k ≡ Some n) × (dot_before d ≡ k → ⊥) × (last ≡ k → ⊥)

  after_at : (k : Dot) (n : ℕ) → first_at after k ≡ Some n → ((k ≡ last) × (n ≡ first)) ⊎ IsOld k n
  after_at k n h =
      elim (split (is_at (dot_cmp last) k)) [
        | inl e ↦ inl (
          sym (at_dot last k e),
          some_one n first (sym h ∙ put k ∙ chosen (is_at (dot_cmp last) k) (Some first) (first_at left k) e),
        )
        | inr e ↦
            let old = still ranges left (dot_before d) taken k n
            (sym (put k ∙ other (is_at (dot_cmp last) k) (Some first) (first_at left k) e) ∙ h) in
            inr (old.0, old.1, off_at last k e)
      ]

  clash : (k : Dot) (n : ℕ) → IsOld k n → (x : Dot) → IsIn last first x → IsIn k n x → ⊥
  clash k n old x i l =
      elim (parts x i) [
        | inl e ↦ unheard (record {
          last = k;
          first = n;
          there = old.0;
          within = subst (λ (y : Dot). IsIn k n y) e l;
        })
        | inr h ↦
            let one = are.apart h.0.last k h.0.first n h.0.there old.0 x h.0.within l in
            elim h.1 [
              | inl f ↦ old.1 (sym f ∙ one)
              | inr f ↦ old.2 (sym f ∙ one)
            ]
      ]

  apart_then : (j k : Dot) (m n : ℕ) → first_at after j ≡ Some m → first_at after k ≡ Some n
      → (x : Dot) → IsIn j m x → IsIn k n x → j ≡ k
  apart_then j k m n g h x i l =
      elim (after_at j m g) [
        | inl a ↦
            elim (after_at k n h) [
              | inl b ↦ a.0 ∙ sym b.0
              | inr b ↦ absurd (clash k n b x (is_in_at j last m first x a.0 a.1 i) l)
            ]
        | inr a ↦
            elim (after_at k n h) [
              | inl b ↦ absurd (clash j m a x (is_in_at k last n first x b.0 b.1 l) i)
              | inr b ↦ are.apart j k m n a.0 b.0 x i l
            ]
      ]

  filled_then : (k : Dot) (n : ℕ) → first_at after k ≡ Some n → n ≤ k.number
  filled_then k n h =
      elim (after_at k n h) [
        | inl new ↦
            let same : k.number ≡ last.number = ap (λ (x : Dot). x.number) new.0 in
            let from : n ≡ first = new.1 in
            let under : first ≤ d.number = low in
            let over : d.number ≤ last.number = high in
            omega arith
        | inr old ↦ are.filled k n old.0
      ]

  pub put_are : IsRising dot_cmp after → AreRanges after
  put_are rising = record { rising = rising; filled = filled_then; apart = apart_then }

  put_from : (x : Dot) → Has after x → (x ≡ d) ⊎ Has ranges x
  put_from x h =
      elim (after_at h.last h.first h.there) [
        | inl new ↦
            elim (parts x (is_in_at h.last last h.first first x new.0 new.1 h.within)) [
              | inl e ↦ inl e
              | inr old ↦ inr old.0
            ]
        | inr old ↦ inr (record { last = h.last; first = h.first; there = old.0; within = h.within })
      ]

  in_new : (x : Dot) → x.node ≡ d.node → first ≤ x.number → x.number ≤ last.number → Has after x
  in_new x node from to =
      record {
        last = last;
        first = first;
        there = new_there;
        within = record { node = node ∙ sym node_is; low = from; high = to };
      }

  put_old : (x : Dot) → Has ranges x → Has after x
  put_old x h =
      let from : h.first ≤ x.number = h.within.low in
      let to : x.number ≤ h.last.number = h.within.high in
      let under : first ≤ d.number = low in
      let over : d.number ≤ last.number = high in
      elim (split (is_at (dot_cmp last) h.last)) [
        | inl e ↦
            let same = at_dot last h.last e in
            let end : last.number ≡ h.last.number = ap (λ (y : Dot). y.number) same in
            elim last_is [
              | inl f ↦ absurd (unheard (last_in ranges are d h.first
                  (ap (first_at ranges) (sym f ∙ same) ∙ h.there)))
              | inr w ↦
                  let start : h.first ≡ d.number + 1 =
                  some_one h.first (d.number + 1) (sym h.there ∙ ap (first_at ranges) (sym same) ∙ w.1) in
                  in_new x (h.within.node ∙ ap (λ (y : Dot). y.node) (sym same) ∙ node_is) (omega arith) (omega arith)
            ]
        | inr e ↦
            elim (split (is_at (dot_cmp (dot_before d)) h.last)) [
              | inl f ↦
                  let same = at_dot (dot_before d) h.last f in
                  let end : d.number - 1 ≡ h.last.number = ap (λ (y : Dot). y.number) same in
                  let start : first ≡ h.first =
                  first_is ∙ ap (λ o. unwrap_or o d.number) (ap (first_at ranges) same ∙ h.there) in
                  in_new x (h.within.node ∙ ap (λ (y : Dot). y.node) (sym same)) (omega arith) (omega arith)
              | inr f ↦ record {
                last = h.last;
                first = h.first;
                there = put h.last ∙ other (is_at (dot_cmp last) h.last) (Some first) (first_at left h.last) e
                    ∙ taken h.last
                    ∙ other (is_at (dot_cmp (dot_before d)) h.last) None (first_at ranges h.last) f ∙ h.there;
                within = h.within;
              }
            ]
      ]

  put_new : (x : Dot) → x ≡ d → Has after x
  put_new x e =
      let same : x.number ≡ d.number = ap (λ (y : Dot). y.number) e in
      let under : first ≤ d.number = low in
      let over : d.number ≤ last.number = high in
      in_new x (ap (λ (y : Dot). y.node) e) (omega arith) (omega arith)

  pub put_has : IsRising dot_cmp after → (x : Dot)
      → is_among (dots_in after) x ≡ (is_dot x d || is_among (dots_in ranges) x)
  put_has rising x =
      same_tests (is_among (dots_in after) x) (is_dot x d || is_among (dots_in ranges) x)
      (λ t. elim (put_from x (has_from after rising x t)) [
        | inl e ↦ ap (λ b. b || is_among (dots_in ranges) x) (ap (is_dot x) (sym e) ∙ dot_itself x)
        | inr h ↦ ap (λ b. is_dot x d || b) (has_to ranges x h) ∙ or_yes (is_dot x d)
      ])
      (λ t. has_to after x (elim (split (is_dot x d)) [
        | inl e ↦ put_new x (same_dot x d e)
        | inr e ↦ put_old x (has_from ranges are.rising x
            (sym (ap (λ b. b || is_among (dots_in ranges) x) e) ∙ t))
      ]))
