-- What was taken in fits, and what is led to by it.
use Rattle.std.proofs.Common.{◌≡◌, ℕ, zero, suc, ◌+◌, ◌<◌, ◌≤◌, ◌≢◌, ◌⊎◌, true, false, List, [], ◌∷◌, ◌++◌, length, get_or, slice_set, Option, Some, None, refl, sym, ap, subst, ◌∙◌, arith, inl, inr}
use Rattle.std.specs.Prelude.{Contains, slice_get, nat_lt}
use Rattle.std.proofs.lemmas.Bool.{ltb-true, lt-ltb}
use Rattle.rt_value.proofs.Among.{Among, to_contains, from_contains, among_either, among_left, among_right}
use Rattle.rt_value.specs.Choice.{◌>>=◌}
use Rattle.rt_cluster.specs.declared.dots.Dot.{Dot}
use Rattle.rt_cluster.specs.declared.dots.Mark.{Mark}
use Rattle.rt_cluster.specs.declared.dots.Delta.{Delta}
use Rattle.rt_cluster.specs.Operations.{Operation, removes, tracked, mark_at, dot_at, marks_by, marks_of, last_number, HasOneTrackADot}
use Rattle.rt_json.specs.declared.tree.Json.{Json}
use Rattle.rt_cluster.proofs.DotLists.{marks_both}
use Rattle.rt_cluster.proofs.Doing.{counted_next}
use Rattle.rt_cluster.specs.Standing.{Known, Stands, StandsFor, IsBehind}
use Rattle.rt_cluster.proofs.Merged.{last_stays}
use Rattle.rt_cluster_script.specs.declared.nodes.Nodes.{Nodes}
use Rattle.rt_cluster_script.specs.Script.{State}
use Rattle.rt_cluster_script.specs.Agreeing.{Fits, AllFit, AllStand, Agrees, Led}
use Rattle.rt_cluster_script.proofs.Lists.{fits_found, fits_set, marks_sub, one_sub}

-- what a merge promises
abbrev pub Merges : Known → Known → Delta → Type 0
Merges old new delta = (known said : List Operation) → Stands old known → StandsFor delta said
    → HasOneTrackADot (said ++ known) → IsBehind old.node said known → Stands new (said ++ known)

module _ (told : List Operation) (one : HasOneTrackADot told) (node : ℕ) (old new : Known)
    (known said : List Operation) (delta : Delta) (fits : Fits told node old known)
    (among : (o : Operation) → Contains said o → Contains told o) (stands : StandsFor delta said)
    (merges : Merges old new delta) (same : new.node ≡ old.node) where
  both : (o : Operation) → Contains (said ++ known) o → Contains told o
  both o h = elim (among_either said known o (from_contains (said ++ known) o h)) [
    | inl a ↦ among o (to_contains said o a)
    | inr b ↦ fits.kept o (to_contains known o b)
  ]

  behind : IsBehind node said known
  behind m h e = fits.own m (marks_sub said told among m h) e

  pub fits_learned : Fits told node new (said ++ known)
  fits_learned = record {
    stands = merges known said fits.stands stands (one_sub (said ++ known) told both one)
        (subst (λ n. IsBehind n said known) (sym fits.is_node) behind);
    is_node = same ∙ fits.is_node;
    kept = both;
    own = λ m h e. subst (λ n. m.dot.number ≤ n) (sym (last_stays node said known behind)) (fits.own m h e);
  }

pub bind_is : {A B : Type 0} (f : A → Option B) (o : Option A) (x : A) → o ≡ Some x → (o >>= f) ≡ f x
bind_is f o x e = ap (λ y. y >>= f) e

pub bind_none : {A B : Type 0} (f : A → Option B) (o : Option A) → o ≡ None → (o >>= f) ≡ None
bind_none f o e = ap (λ y. y >>= f) e

pub bind_never : {A B : Type 0} (f : A → Option B) (o : Option A) → ((x : A) → f x ≡ None) → (o >>= f) ≡ None
bind_never f None h = refl
bind_never f (Some x) h = h x

pub past : {A : Type 0} (n : ℕ) (xs ys : List A) → false ≡ nat_lt n (length ys) → ys ≡ xs → n < length xs → ⊥
past n xs ys e same h =
    let yes : nat_lt n (length ys) ≡ true = ap (λ zs. nat_lt n (length zs)) same ∙ lt-ltb n (length xs) h in
    let bad : false ≡ true = e ∙ yes in absurd (cc)

pub within : {A : Type 0} (n : ℕ) (xs ys : List A) → true ≡ nat_lt n (length ys) → ys ≡ xs → n < length xs
within n xs ys e same = ltb-true n (length xs) (sym (e ∙ ap (λ zs. nat_lt n (length zs)) same))

pub learned_fit : (told : List Operation) → HasOneTrackADot told → (rs : List Known) (ks : List (List Operation)) (n : ℕ)
    (old new : Known) (said : List Operation) (delta : Delta) → AllFit told 0 rs ks → n < length rs
    → old ≡ get_or rs n old → StandsFor delta said → ((o : Operation) → Contains said o → Contains told o)
    → Merges old new delta → new.node ≡ old.node
    → (known : List Operation) × (slice_get ks n ≡ Some known) × AllFit told 0 (slice_set rs n new)
    (slice_set ks n (said ++ known))
learned_fit told one rs ks n old new said delta fit inside is stands among merges same =
    let found = fits_found told 0 rs ks n old fit inside is in (
      found.0,
      found.1,
      fits_set told 0 rs ks n new (said ++ found.0) fit
          (fits_learned told one (0 + n) old new found.0 said delta found.2 among stands merges same),
    )

pub led_none : (nodes : Nodes) (o : Option State) → o ≡ None → Led nodes o false
led_none nodes o e = subst (λ x. Led nodes x false) (sym e) tt

pub led_some : (nodes : Nodes) (o : Option State) (next : State) → o ≡ Some next → Agrees nodes next → Led nodes o true
led_some nodes o next e a = subst (λ x. Led nodes x true) (sym e) a

-- what a node makes of what it knows: its marks are the node's own, behind its last one, and at most one
pub record IsNext (node : ℕ) (known : List Operation) (o : Operation) : Type 0 where
  pub newer : (m : Mark) → Among (marks_by o) m → (m.dot.node ≡ node) × (last_number node known < m.dot.number)
      × (m.dot.number ≤ last_number node (o ∷ known))
  pub longer : last_number node known ≤ last_number node (o ∷ known)
  pub single : (m n : Mark) → Among (marks_by o) m → Among (marks_by o) n → m ≡ n

module _ (told : List Operation) (one : HasOneTrackADot told) (node : ℕ) (o : Operation) where
  abbrev told_after : List Operation
  told_after = told ++ o ∷ []

  marks_either : (m : Mark) → Contains (marks_of told_after) m → Among (marks_of told) m ⊎ Among (marks_by o) m
  marks_either m h =
      elim (among_either (marks_of told) (marks_of (o ∷ [])) m (subst (λ ms. Among ms m) (marks_both told (o ∷ []))
      (from_contains (marks_of told_after) m h))) [
        | inl a ↦ inl a
        | inr b ↦ inr (elim (among_either (marks_by o) [] m b) [ inl a ↦ a | inr c ↦ absurd c ])
      ]

  kept_after : (known : List Operation) → ((p : Operation) → Contains known p → Contains told p) → (p : Operation)
      → Contains known p → Contains told_after p
  kept_after known kept p h = to_contains told_after p (among_left told (o ∷ []) p (from_contains told p (kept p h)))

  module _ (known : List Operation) (next : IsNext node known o) where
    fits_other : (j : ℕ) (r : Known) (k : List Operation) → j ≢ node → Fits told j r k → Fits told_after j r k
    fits_other j r k other fits = record {
      stands = fits.stands;
      is_node = fits.is_node;
      kept = kept_after k fits.kept;
      own = λ m h e. elim (marks_either m h) [
        | inl a ↦ fits.own m (to_contains (marks_of told) m a) e
        | inr b ↦ absurd (other (sym e ∙ (next.newer m b).0))
      ];
    }

    others_fit : (j : ℕ) (rs : List Known) (ks : List (List Operation)) → node < j → AllFit told j rs ks
        → AllFit told_after j rs ks
    others_fit j [] [] past fit = fit
    others_fit j [] (k ∷ ks) past fit = absurd fit
    others_fit j (r ∷ rs) [] past fit = absurd fit
    others_fit j (r ∷ rs) (k ∷ ks) past fit =
        (fits_other j r k (λ e. omega (arith, past, e)) fit.0, others_fit (suc j) rs ks (omega (arith, past)) fit.1)

    set_fit : (i : ℕ) (rs : List Known) (ks : List (List Operation)) (n : ℕ) (r : Known) (mine : List Operation)
        → node ≡ i + n → AllFit told i rs ks → Fits told_after node r mine
        → AllFit told_after i (slice_set rs n r) (slice_set ks n mine)
    set_fit i [] [] n r mine at fit new = fit
    set_fit i [] (k ∷ ks) n r mine at fit new = absurd fit
    set_fit i (q ∷ rs) [] n r mine at fit new = absurd fit
    set_fit i (q ∷ rs) (k ∷ ks) zero r mine at fit new =
        let here : node ≡ i = omega (arith, at) in
        (subst (λ j. Fits told_after j r mine) here new, others_fit (suc i) rs ks (omega (arith, at)) fit.1)
    set_fit i (q ∷ rs) (k ∷ ks) (suc n) r mine at fit new = (
      fits_other i q k (λ e. omega (arith, at, e)) fit.0,
      set_fit (suc i) rs ks n r mine (omega (arith, at)) fit.1 new,
    )

    module _ (old new : Known) (fits : Fits told node old known) (stands : Stands new (o ∷ known))
        (same : new.node ≡ old.node) where
      from_next : (p : Operation) → Among (o ∷ known) p → Contains told_after p
      from_next p (inl e) = to_contains told_after p (among_right told (o ∷ []) p (inl e))
      from_next p (inr h) = kept_after known fits.kept p (to_contains known p h)

      pub fits_next : Fits told_after node new (o ∷ known)
      fits_next = record {
        stands = stands;
        is_node = same ∙ fits.is_node;
        kept = λ p h. from_next p (from_contains (o ∷ known) p h);
        own = λ m h e. elim (marks_either m h) [
          | inl a ↦ let before = fits.own m (to_contains (marks_of told) m a) e in
              let longer = next.longer in omega (arith, before, longer)
          | inr b ↦ (next.newer m b).2
        ];
      }

      clash : (m n : Mark) → Among (marks_of told) m → Among (marks_by o) n → m.dot ≡ n.dot → ⊥
      clash m n a b e =
          let newer = next.newer n b in
          let number : m.dot.number ≡ n.dot.number = ap (λ (d : Dot). d.number) e in
          let before = fits.own m (to_contains (marks_of told) m a) (ap (λ (d : Dot). d.node) e ∙ newer.0) in
          let late = newer.1 in omega (arith, number, before, late)

      one_pair : (m n : Mark) → Among (marks_of told) m ⊎ Among (marks_by o) m
          → Among (marks_of told) n ⊎ Among (marks_by o) n → m.dot ≡ n.dot → m ≡ n
      one_pair m n (inl a) (inl b) e = one m n (to_contains _ _ a) (to_contains _ _ b) e
      one_pair m n (inl a) (inr b) e = absurd (clash m n a b e)
      one_pair m n (inr a) (inl b) e = absurd (clash n m b a (sym e))
      one_pair m n (inr a) (inr b) e = next.single m n a b

      pub one_next : HasOneTrackADot told_after
      one_next m n h k e = one_pair m n (marks_either m h) (marks_either n k) e

-- what an operation promises
abbrev pub Makes : Known → Known → (List Operation → Operation) → Type 0
Makes old new operation = (known : List Operation) → Stands old known → HasOneTrackADot known
    → Stands new (operation known ∷ known)

abbrev pub Tells : Known → Delta → (List Operation → Operation) → Type 0
Tells old delta operation = (known : List Operation) → Stands old known → StandsFor delta (operation known ∷ [])

pub record Done (told : List Operation) (rs : List Known) (ks : List (List Operation)) (n : ℕ) (new : Known)
    (delta : Delta) (operation : List Operation → Operation) : Type 0 where
  pub known : List Operation
  pub found : slice_get ks n ≡ Some known
  pub fit : AllFit (told ++ operation known ∷ []) 0 (slice_set rs n new) (slice_set ks n (operation known ∷ known))
  pub one : HasOneTrackADot (told ++ operation known ∷ [])
  pub said : StandsFor delta (operation known ∷ [])

pub done : (told : List Operation) → HasOneTrackADot told → (rs : List Known) (ks : List (List Operation)) (n : ℕ)
    (old new : Known) (delta : Delta) (operation : List Operation → Operation) → AllFit told 0 rs ks → n < length rs
    → old ≡ get_or rs n old → ((known : List Operation) → IsNext n known (operation known))
    → (old.node ≡ n → Makes old new operation)
    → (old.node ≡ n → Tells old delta operation)
    → new.node ≡ old.node
    → Done told rs ks n new delta operation
done told one rs ks n old new delta operation fit inside is next makes says same =
    let found = fits_found told 0 rs ks n old fit inside is in
    let here : 0 + n ≡ n = omega arith in
    let fits : Fits told n old found.0 = subst (λ j. Fits told j old found.0) here found.2 in
    let stands = makes fits.is_node found.0 fits.stands (one_sub found.0 told fits.kept one) in
    let o = operation found.0 in
    record {
      known = found.0;
      found = found.1;
      fit = set_fit told one n o found.0 (next found.0) 0 rs ks n new (o ∷ found.0) (sym here) fit
          (fits_next told one n o found.0 (next found.0) old new fits stands same);
      one = one_next told one n o found.0 (next found.0) old new fits stands same;
      said = says fits.is_node found.0 fits.stands;
    }

pub removal_next : (node : ℕ) (known : List Operation) (gone : List Dot) → IsNext node known (removes gone)
removal_next node known gone = record {
  newer = λ m h. absurd h;
  longer = omega arith;
  single = λ m n h k. absurd h;
}

pub told_set : (ds : List Delta) (os : List Operation) (d : Delta) (o : Operation) → AllStand ds os
    → StandsFor d (o ∷ []) → AllStand (ds ++ d ∷ []) (os ++ o ∷ [])
told_set [] [] d o stand new = (new, tt)
told_set [] (p ∷ os) d o stand new = absurd stand
told_set (e ∷ ds) [] d o stand new = absurd stand
told_set (e ∷ ds) (p ∷ os) d o stand new = (stand.0, told_set ds os d o stand.1 new)

module _ (node : ℕ) (topic key : List ℕ) (tree : Json) (known : List Operation) where
  new_mark : Mark
  new_mark = mark_at (dot_at node (last_number node known + 1)) topic key tree

  abbrev IsNewer : Mark → Type 0
  IsNewer m = (m.dot.node ≡ node) × (last_number node known < m.dot.number)
      × (m.dot.number ≤ last_number node (tracked node topic key tree known ∷ known))

  mark_newer : (m : Mark) → mark_at (dot_at node (last_number node known + 1)) topic key tree ≡ m → IsNewer m
  mark_newer m e =
      let counted = counted_next node topic key tree known in
      subst IsNewer e (refl, omega arith, omega (arith, counted))

  pub tracked_next : IsNext node known (tracked node topic key tree known)
  tracked_next = record {
    newer = λ m h. elim h [ inl e ↦ mark_newer m e | inr f ↦ absurd f ];
    longer = let counted = counted_next node topic key tree known in omega (arith, counted);
    single = λ m n h k. elim h [
      | inl e ↦ elim k [ inl f ↦ sym e ∙ f | inr f ↦ absurd f ]
      | inr e ↦ absurd e
    ];
  }
