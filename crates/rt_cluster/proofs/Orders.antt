-- Marks in order: lists of the same marks have one order, so the same operations show the same.
use Rattle.std.proofs.Common.{◌≡◌, Bool, true, false, ◌||◌, List, [], ◌∷◌, refl, sym, ap, subst, ◌∙◌, inl, inr}
use Rattle.std.specs.List.{AllByRecursion, flat_map, list_any}
use Rattle.std.specs.List.Sorted.{IsStrictlySortedBy}
use Rattle.std.specs.Cmp.{IsTotalOrder, tied_itself}
use Rattle.std.specs.Ordering.{ordering_reverse, is_eq, eq_by_cmp}
use Rattle.std.specs.declared.cmp.Ordering.{Ordering}
use Rattle.std.specs.declared.cmp.Ordering.TheVariants.{Less, Equal, Greater}
use Rattle.std.proofs.lemmas.Cmp.{nat_cmp_total, nat_list_cmp_total, on_total, then_total}
use Rattle.std.proofs.lemmas.Map.Lookups.{exact_unsigned}
use Rattle.rt_value.proofs.Ties.{both_equal}
use Rattle.rt_value.specs.Ordered.{in_order}
use Rattle.rt_value.proofs.Among.{Among, to_contains, from_contains, among_flat, among_left, among_right}
use Rattle.rt_value.proofs.Plain.{all_among, any_among}
use Rattle.rt_value.proofs.InOrder as order
use Rattle.rt_cluster.specs.declared.dots.Dot.{Dot}
use Rattle.rt_cluster.specs.declared.dots.Mark.{Mark}
use Rattle.rt_cluster.specs.Operations.{Operation, marks_by, gone_by, gone_of, view, is_dot, is_among, dot_at}
use Rattle.rt_cluster.specs.Operations.{SameOperations, HasOneTrackADot}
use Rattle.rt_cluster.specs.Shown.{mark_cmp, state_tree}
use Rattle.rt_cluster.specs.Standing.{Known, Stands}
use Rattle.rt_cluster.specs.Laws.{Converges, ReplicasShow, ReplicasAgree}
use Rattle.rt_cluster.proofs.DotLists.{in_view, of_view}

pub mark_total : IsTotalOrder mark_cmp
mark_total =
    then_total (on_total (λ (m : Mark). m.topic) nat_list_cmp_total)
    (then_total (on_total (λ (m : Mark). m.key) nat_list_cmp_total)
    (then_total (on_total (λ (m : Mark). m.dot.node) nat_cmp_total)
    (on_total (λ (m : Mark). m.dot.number) nat_cmp_total)))

abbrev Rises : List Mark → Type 0
Rises ms = order.Rises mark_cmp mark_total ms

rises : (ms : List Mark) → IsStrictlySortedBy mark_cmp ms → Rises ms
unfolding IsStrictlySortedBy
rises [] s = tt
rises (m ∷ ms) s = (s.0, rises ms s.1)

-- marks that tie have one dot
tied_dots : (m n : Mark) → mark_cmp m n ≡ Equal → m.dot ≡ n.dot
tied_dots m n h =
    let dots = both_equal _ _ (both_equal _ _ (both_equal _ _ h).1).1 in
    ap (λ x. dot_at x m.dot.number) (exact_unsigned m.dot.node n.dot.node dots.0)
    ∙ ap (dot_at n.dot.node) (exact_unsigned m.dot.number n.dot.number dots.1)

never : (m n : Mark) → mark_cmp m n ≡ Less → mark_cmp n m ≡ Less → ⊥
never m n e f = let z : Less ≡ Greater = sym f ∙ mark_total.antisymm n m ∙ ap ordering_reverse e in cc

heads_are : (m n : Mark) (ms ns : List Mark) → Rises (m ∷ ms) → Rises (n ∷ ns) → Among (n ∷ ns) m → Among (m ∷ ms) n
    → m ≡ n
heads_are m n ms ns r s (inl e) b = sym e
heads_are m n ms ns r s (inr a) (inl e) = e
heads_are m n ms ns r s (inr a) (inr b) =
    absurd (never n m (all_among (λ (x : Mark). mark_cmp n x ≡ Less) ns m s.0 a)
    (all_among (λ (x : Mark). mark_cmp m x ≡ Less) ms n r.0 b))

behind_head : (m n : Mark) (ms : List Mark) → AllByRecursion (λ (x : Mark). mark_cmp m x ≡ Less) ms → Among ms n
    → m ≡ n → ⊥
behind_head m n ms a at e =
    let less : mark_cmp m n ≡ Less = all_among (λ (x : Mark). mark_cmp m x ≡ Less) ms n a at in
    let z : Less ≡ Equal = sym (subst (λ (x : Mark). mark_cmp m x ≡ Less) (sym e) less) ∙ tied_itself mark_total m in cc

-- two rising lists of the same marks are one
pub one_list : (ms ns : List Mark) → Rises ms → Rises ns → ((m : Mark) → Among ms m → Among ns m)
    → ((m : Mark) → Among ns m → Among ms m) → ms ≡ ns
one_list [] [] r s f g = refl
one_list [] (n ∷ ns) r s f g = absurd (g n (inl refl))
one_list (m ∷ ms) [] r s f g = absurd (f m (inl refl))
one_list (m ∷ ms) (n ∷ ns) r s f g =
    let e : m ≡ n = heads_are m n ms ns r s (f m (inl refl)) (g n (inl refl)) in
    let tails = one_list ms ns r.1 s.1
    (λ x at. elim (f x (inr at)) [ inl i ↦ absurd (behind_head m x ms r.0 at (e ∙ i)) | inr i ↦ i ])
    (λ x at. elim (g x (inr at)) [ inl i ↦ absurd (behind_head n x ns s.0 at (sym e ∙ i)) | inr i ↦ i ]) in
    λ i. e i ∷ tails i

tie_of : (m n : Mark) (ns : List Mark) (b : Bool) → eq_by_cmp mark_cmp m n ≡ b
    → (list_any (eq_by_cmp mark_cmp m) ns ≡ true → (x : Mark) × Among ns x × (mark_cmp m x ≡ Equal))
    → (b || list_any (eq_by_cmp mark_cmp m) ns) ≡ true → (x : Mark) × Among (n ∷ ns) x × (mark_cmp m x ≡ Equal)
tie_of m n ns true e f h = (n, inl refl, is_equal (mark_cmp m n) e) where
  is_equal : (o : Ordering) → is_eq o ≡ true → o ≡ Equal
  is_equal Less k = absurd (cc)
  is_equal Equal k = refl
  is_equal Greater k = absurd (cc)
tie_of m n ns false e f h = let r = f h in (r.0, inr r.1, r.2)

ties_with : (m : Mark) (ns : List Mark) → list_any (eq_by_cmp mark_cmp m) ns ≡ true
    → (x : Mark) × Among ns x × (mark_cmp m x ≡ Equal)
ties_with m [] h = absurd (cc)
ties_with m (n ∷ ns) h = tie_of m n ns (eq_by_cmp mark_cmp m n) refl (ties_with m ns) h

-- where no two different marks have one dot, all stand in order
ordered_has : (ms : List Mark) → ((m n : Mark) → Among ms m → Among ms n → m.dot ≡ n.dot → m ≡ n) → (m : Mark)
    → Among ms m
    → Among (in_order mark_cmp ms) m
ordered_has ms one m h =
    let r = ties_with m (in_order mark_cmp ms)
    (all_among (order.Ties mark_cmp mark_total (in_order mark_cmp ms)) ms m
    (order.in_order_ties mark_cmp mark_total ms) h) in
    let same : m ≡ r.0 = one m r.0 h (order.in_order_among mark_cmp mark_total ms r.0 r.1) (tied_dots m r.0 r.2) in
    subst (λ (x : Mark). Among (in_order mark_cmp ms) x) (sym same) r.1

-- the view has one mark a dot where the operations have
view_one : (ops : List Operation) → HasOneTrackADot ops → (m n : Mark) → Among (view ops) m → Among (view ops) n
    → m.dot ≡ n.dot → m ≡ n
view_one ops one m n h k e =
    one m n (to_contains _ _ (of_view ops m h).0) (to_contains _ _ (of_view ops n k).0) e

flat_sub : {A : Type 0} (f : Operation → List A) (some others : List Operation) → ((o : Operation) → Among some o
    → Among others o)
    → (x : A) → Among (flat_map f some) x → Among (flat_map f others) x
flat_sub f some others sub x h =
    let r = among_flat f some x h in flat_has f others r.0 x (sub r.0 r.1) r.2 where
      flat_has : {A : Type 0} (f : Operation → List A) (os : List Operation) (o : Operation) (x : A) → Among os o
          → Among (f o) x
          → Among (flat_map f os) x
      flat_has f [] o x h k = absurd h
      flat_has {A} f (p ∷ os) o x (inl e) k =
          among_left (f p) (flat_map f os) x (subst (λ (q : Operation). Among (f q) x) (sym e) k)
      flat_has f (p ∷ os) o x (inr h) k = among_right (f p) (flat_map f os) x (flat_has f os o x h k)

gone_sub : (some others : List Operation) → ((o : Operation) → Among some o → Among others o) → (d : Dot)
    → is_among (gone_of some) d ≡ true → is_among (gone_of others) d ≡ true
gone_sub some others sub d h =
    let r = any_of (gone_of some) h in
    any_among (is_dot d) (gone_of others) r.0 (flat_sub gone_by some others sub r.0 r.1) r.2 where
      any_or : (e : Dot) (ds : List Dot) (b : Bool) → is_dot d e ≡ b
          → (list_any (is_dot d) ds ≡ true → (x : Dot) × Among ds x × (is_dot d x ≡ true))
          → (b || list_any (is_dot d) ds) ≡ true → (x : Dot) × Among (e ∷ ds) x × (is_dot d x ≡ true)
      any_or e ds true k f h = (e, inl refl, k)
      any_or e ds false k f h = let r = f h in (r.0, inr r.1, r.2)

      any_of : (ds : List Dot) → list_any (is_dot d) ds ≡ true → (x : Dot) × Among ds x × (is_dot d x ≡ true)
      any_of [] h = absurd (cc)
      any_of (e ∷ ds) h = any_or e ds (is_dot d e) refl (any_of ds) h

still_there : (a b : Bool) → (b ≡ true → a ≡ true) → a ≡ false → b ≡ false
still_there a true f e = absurd (let z : true ≡ false = sym (f refl) ∙ e in cc)
still_there a false f e = refl

view_sub : (some others : List Operation) → ((o : Operation) → Among some o → Among others o)
    → ((o : Operation) → Among others o → Among some o) → (m : Mark) → Among (view some) m → Among (view others) m
view_sub some others sub back m h =
    let r = of_view some m h in
    in_view others m (flat_sub marks_by some others sub m r.0)
    (still_there (is_among (gone_of some) m.dot) _ (gone_sub others some back m.dot) r.1)

module _ (some others : List Operation) (same : SameOperations some others) where
  to : (o : Operation) → Among some o → Among others o
  to o h = from_contains _ _ ((same o).0 (to_contains _ _ h))

  back : (o : Operation) → Among others o → Among some o
  back o h = from_contains _ _ ((same o).1 (to_contains _ _ h))

  -- the others have one track a dot, too
  pub one_there : HasOneTrackADot some → HasOneTrackADot others
  one_there one m n h k e =
      one m n (to_contains _ _ (flat_sub marks_by others some back m (from_contains _ _ h)))
      (to_contains _ _ (flat_sub marks_by others some back n (from_contains _ _ k))) e

  pub one_order : HasOneTrackADot some → in_order mark_cmp (view some) ≡ in_order mark_cmp (view others)
  one_order one =
      one_list (in_order mark_cmp (view some)) (in_order mark_cmp (view others))
      (order.in_order_rises mark_cmp mark_total (view some)) (order.in_order_rises mark_cmp mark_total (view others))
      (λ m h. ordered_has (view others) (view_one others (one_there one)) m
      (view_sub some others to back m (order.in_order_among mark_cmp mark_total (view some) m h)))
      (λ m h. ordered_has (view some) (view_one some one) m
      (view_sub others some back to m (order.in_order_among mark_cmp mark_total (view others) m h)))

pub converges : Converges
converges some others same one topic = ap (λ (ms : List Mark). state_tree ms topic) (one_order some others same one)

-- a replica's marks are those of the view, in order
pub live_is : (replica : Known) (operations : List Operation) → Stands replica operations → HasOneTrackADot operations
    → replica.live ≡ in_order mark_cmp (view operations)
live_is replica operations stands one =
    one_list replica.live (in_order mark_cmp (view operations)) (rises replica.live stands.rising)
    (order.in_order_rises mark_cmp mark_total (view operations))
    (λ m h. ordered_has (view operations) (view_one operations one) m
    (from_contains _ _ ((stands.sets.live_is_view m).0 (to_contains _ _ h))))
    (λ m h. from_contains _ _ ((stands.sets.live_is_view m).1
    (to_contains _ _ (order.in_order_among mark_cmp mark_total (view operations) m h))))

pub replicas_show : ReplicasShow
replicas_show replica operations stands one topic =
    ap (λ (ms : List Mark). state_tree ms topic) (live_is replica operations stands one)

pub replicas_agree : ReplicasAgree
replicas_agree p q some others stands stand same one topic =
    replicas_show p some stands one topic
    ∙ converges some others same one topic
    ∙ sym (replicas_show q others stand (one_there some others same one) topic)
