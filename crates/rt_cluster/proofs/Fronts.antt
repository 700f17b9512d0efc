-- The marks of a topic, those of a node under a key, and the dots of a node, are blocks of their maps.
use Rattle.std.proofs.Common.{◌≡◌, ◌<◌, ℕ, Bool, true, false, ◌&&◌, List, [], ◌∷◌, refl, sym, ap, ◌∙◌, arith, nat_cmp}
use Rattle.std.specs.Prelude.{◌==◌}
use Rattle.std.specs.Cmp.{IsTotalOrder}
use Rattle.std.specs.Ordering.{MatchOrdering, ordering_then, is_eq, is_le}
use Rattle.rt_ptree.specs.Walk.{entries_from}
use Rattle.rt_value.proofs.Plain.{filter_all, all_every}
use Rattle.std.specs.Cmp.Lexicographic.{slice_cmp}
use Rattle.std.specs.Str.{bytes_eq}
use Rattle.std.specs.declared.cmp.Ordering.{Ordering}
use Rattle.std.specs.declared.cmp.Ordering.TheVariants.{Less, Equal, Greater}
use Rattle.std.proofs.lemmas.Bool.{eqb-true, eq-eqb}
use Rattle.std.proofs.lemmas.Cmp.{nat_cmp_total, nat_list_cmp_total, on_total, then_total, ranked, tied_itself}
use Rattle.std.proofs.lemmas.Map.Lookups.{exact_unsigned}
use Rattle.std.proofs.lemmas.Map.Text.{is_eq-slice_cmp}
use Rattle.std.proofs.lemmas.Slice.Eq.{bytes_eq-Decides}
use Rattle.rt_presence.proofs.Walks.{then_not_greater}
use Rattle.rt_presence.proofs.Orders.{is_eq_true}
use Rattle.rt_value.proofs.Tests.{same_tests}
use Rattle.rt_cluster.specs.declared.dots.Dot.{Dot}
use Rattle.rt_cluster.specs.declared.places.Place.{Place}
use Rattle.rt_cluster.specs.Operations.{dot_at}
use Rattle.rt_cluster.specs.Index.{dot_cmp, place_cmp, least_on, is_beside}
use Rattle.rt_cluster.proofs.Blocks.{below, over}

then_assoc : (o p q : Ordering) → ordering_then o (ordering_then p q) ≡ ordering_then (ordering_then o p) q
then_assoc Less p q = refl
then_assoc Equal p q = refl
then_assoc Greater p q = refl

is_eq_then : (o p : Ordering) → is_eq (ordering_then o p) ≡ (is_eq o && is_eq p)
is_eq_then Less p = refl
is_eq_then Equal p = refl
is_eq_then Greater p = refl

is_eq_number : (m n : ℕ) → is_eq (nat_cmp m n) ≡ (m == n)
is_eq_number m n =
    same_tests (is_eq (nat_cmp m n)) (m == n)
    (λ h. eq-eqb m n (exact_unsigned m n (is_eq_true _ h)))
    (λ h. ap is_eq (ap (nat_cmp m) (sym (eqb-true m n h)) ∙ tied_itself nat_cmp_total m))

pub none_below : (n : ℕ) → nat_cmp 0 n ≡ Greater → ⊥
none_below n h = low n (nat_cmp 0 n) h (ranked 0 n (nat_cmp 0 n) refl) where
  low : (m : ℕ) (r : Ordering) → r ≡ Greater → MatchOrdering r (0 < m) (0 ≡ m) (m < 0) → ⊥
  low m Less e h = cc
  low m Equal e h = cc
  low m Greater e h = omega arith

empty_first : (text : List ℕ) → slice_cmp nat_cmp [] text ≡ Greater → ⊥
empty_first [] h = cc
empty_first (x ∷ xs) h = cc

-- the dots of a node
abbrev pub of_node : ℕ → Dot → Bool
of_node node d = node == d.node

pub node_below : (node : ℕ) (d : Dot) → dot_cmp (dot_at node 0) d ≡ Greater → of_node node d ≡ false
node_below node d h =
    sym (is_eq_number node d.node)
    ∙ below dot_cmp (λ (x y : Dot). nat_cmp x.node y.node) (λ (x y : Dot). nat_cmp x.number y.number)
    (on_total (λ (x : Dot). x.node) nat_cmp_total) (λ x y. refl) (dot_at node 0) (λ x. none_below x.number) d h

pub node_over : (node : ℕ) (d e : Dot) → (dot_cmp (dot_at node 0) d ≡ Greater → ⊥) → of_node node d ≡ false
    → dot_cmp d e ≡ Less → of_node node e ≡ false
node_over node d e above off less =
    sym (is_eq_number node e.node)
    ∙ over dot_cmp (λ (x y : Dot). nat_cmp x.node y.node) (λ (x y : Dot). nat_cmp x.number y.number)
    (on_total (λ (x : Dot). x.node) nat_cmp_total) (λ x y. refl) (dot_at node 0) (λ x. none_below x.number) d e above
    (is_eq_number node d.node ∙ off) less

-- the marks of a topic
abbrev pub of_topic : List ℕ → Place → Bool
of_topic topic p = bytes_eq p.topic topic

topic_is : (topic : List ℕ) (p : Place) → is_eq (slice_cmp nat_cmp topic p.topic) ≡ bytes_eq p.topic topic
topic_is topic p =
    is_eq-slice_cmp topic p.topic
    ∙ same_tests (bytes_eq topic p.topic) (bytes_eq p.topic topic)
    (λ h. (bytes_eq-Decides p.topic topic).1 (sym ((bytes_eq-Decides topic p.topic).0 h)))
    (λ h. (bytes_eq-Decides topic p.topic).1 (sym ((bytes_eq-Decides p.topic topic).0 h)))

topic_least : (topic : List ℕ) (k :
    Place) → ordering_then (slice_cmp nat_cmp [] k.key) (dot_cmp (dot_at 0 0) k.dot) ≡ Greater → ⊥
topic_least topic k h =
    then_not_greater (slice_cmp nat_cmp [] k.key) (dot_cmp (dot_at 0 0) k.dot) (empty_first k.key)
    (then_not_greater (nat_cmp 0 k.dot.node) (nat_cmp 0 k.dot.number) (none_below k.dot.node)
    (none_below k.dot.number)) h

pub topic_below : (topic : List ℕ) (p : Place) → place_cmp (least_on topic) p ≡ Greater → of_topic topic p ≡ false
topic_below topic p h =
    sym (topic_is topic p)
    ∙ below place_cmp (λ (x y : Place). slice_cmp nat_cmp x.topic y.topic)
    (λ (x y : Place). ordering_then (slice_cmp nat_cmp x.key y.key) (dot_cmp x.dot y.dot))
    (on_total (λ (x : Place). x.topic) nat_list_cmp_total) (λ x y. refl) (least_on topic) (topic_least topic) p h

pub topic_over : (topic : List ℕ) (p q : Place) → (place_cmp (least_on topic) p ≡ Greater → ⊥)
    → of_topic topic p ≡ false
    → place_cmp p q ≡ Less → of_topic topic q ≡ false
topic_over topic p q above off less =
    sym (topic_is topic q)
    ∙ over place_cmp (λ (x y : Place). slice_cmp nat_cmp x.topic y.topic)
    (λ (x y : Place). ordering_then (slice_cmp nat_cmp x.key y.key) (dot_cmp x.dot y.dot))
    (on_total (λ (x : Place). x.topic) nat_list_cmp_total) (λ x y. refl) (least_on topic) (topic_least topic) p q above
    (topic_is topic p ∙ off) less

-- the marks of a node under a key

abbrev key_front : Place → Place → Ordering
key_front x y =
    ordering_then (slice_cmp nat_cmp x.topic y.topic)
    (ordering_then (slice_cmp nat_cmp x.key y.key) (nat_cmp x.dot.node y.dot.node))

key_total : IsTotalOrder key_front
key_total =
    then_total (on_total (λ (p : Place). p.topic) nat_list_cmp_total)
    (then_total (on_total (λ (p : Place). p.key) nat_list_cmp_total) (on_total (λ (p :
    Place). p.dot.node) nat_cmp_total))

key_is : (x y : Place) → place_cmp x y ≡ ordering_then (key_front x y) (nat_cmp x.dot.number y.dot.number)
key_is x y =
    ap (ordering_then (slice_cmp nat_cmp x.topic y.topic))
    (then_assoc (slice_cmp nat_cmp x.key y.key) (nat_cmp x.dot.node y.dot.node) (nat_cmp x.dot.number y.dot.number))
    ∙ then_assoc (slice_cmp nat_cmp x.topic y.topic)
    (ordering_then (slice_cmp nat_cmp x.key y.key) (nat_cmp x.dot.node y.dot.node)) (nat_cmp x.dot.number y.dot.number)

beside_is : (x y : Place) → is_eq (key_front x y) ≡ is_beside x y
beside_is x y =
    is_eq_then (slice_cmp nat_cmp x.topic y.topic)
    (ordering_then (slice_cmp nat_cmp x.key y.key) (nat_cmp x.dot.node y.dot.node))
    ∙ ap (λ b. b && is_eq (ordering_then (slice_cmp nat_cmp x.key y.key) (nat_cmp x.dot.node y.dot.node)))
    (is_eq-slice_cmp x.topic y.topic)
    ∙ ap (λ b. bytes_eq x.topic y.topic && b)
    (is_eq_then (slice_cmp nat_cmp x.key y.key) (nat_cmp x.dot.node y.dot.node)
    ∙ ap (λ b. b && is_eq (nat_cmp x.dot.node y.dot.node)) (is_eq-slice_cmp x.key y.key)
    ∙ ap (λ b. bytes_eq x.key y.key && b) (is_eq_number x.dot.node y.dot.node))

module _ (least : Place) (low : least.dot.number ≡ 0) where
  is_low : (k : Place) → nat_cmp least.dot.number k.dot.number ≡ Greater → ⊥
  is_low k h = none_below k.dot.number (ap (λ n. nat_cmp n k.dot.number) (sym low) ∙ h)

  pub key_below : (p : Place) → place_cmp least p ≡ Greater → is_beside least p ≡ false
  key_below p h =
      sym (beside_is least p)
      ∙ below place_cmp key_front (λ (x y : Place). nat_cmp x.dot.number y.dot.number) key_total key_is least is_low p h

  pub key_over : (p q : Place) → (place_cmp least p ≡ Greater → ⊥) → is_beside least p ≡ false → place_cmp p q ≡ Less
      → is_beside least q ≡ false
  key_over p q above off less =
      sym (beside_is least q)
      ∙ over place_cmp key_front (λ (x y : Place). nat_cmp x.dot.number y.dot.number) key_total key_is least is_low p q
      above (beside_is least p ∙ off) less

-- from the first of all, all entries are walked

pub le_of : (o : Ordering) → (o ≡ Greater → ⊥) → is_le o ≡ true
le_of Less f = refl
le_of Equal f = refl
le_of Greater f = absurd (f refl)

pub all_places : {V : Type 0} (es : List (Place × V)) → entries_from place_cmp es (least_on []) ≡ es
all_places {V} es =
    filter_all (λ (e : Place × V). is_le (place_cmp (least_on []) e.0)) es
    (all_every (λ (e : Place × V). is_le (place_cmp (least_on []) e.0) ≡ true) es
    (λ e. le_of (place_cmp (least_on []) e.0)
    (then_not_greater (slice_cmp nat_cmp [] e.0.topic)
    (ordering_then (slice_cmp nat_cmp [] e.0.key) (dot_cmp (dot_at 0 0) e.0.dot)) (empty_first e.0.topic)
    (topic_least [] e.0))))

pub all_dots : {V : Type 0} (es : List (Dot × V)) → entries_from dot_cmp es (dot_at 0 0) ≡ es
all_dots {V} es =
    filter_all (λ (e : Dot × V). is_le (dot_cmp (dot_at 0 0) e.0)) es
    (all_every (λ (e : Dot × V). is_le (dot_cmp (dot_at 0 0) e.0) ≡ true) es
    (λ e. le_of (dot_cmp (dot_at 0 0) e.0)
    (then_not_greater (nat_cmp 0 e.0.node) (nat_cmp 0 e.0.number) (none_below e.0.node) (none_below e.0.number))))
