-- What a node does stands for what it says, and it stands for that from then on.
use Rattle.std.proofs.Common.{◌≡◌, ◌↔◌, ◌≤◌, ◌+◌, ℕ, Bool, true, false, ◌||◌, ◌&&◌, not, cond, max, List, [], ◌∷◌, ◌++◌, map, Option, Some, None, is_some, IsSome, refl, sym, ap, subst, ◌∙◌, inl, inr, arith, append-nil}
use Rattle.std.specs.Prelude.{Contains, ◌==◌}
use Rattle.std.specs.List.{filter}
use Rattle.std.specs.Map.{keys_of}
use Rattle.std.proofs.lemmas.Bool.{and_parts, eq-eqb}
use Rattle.rt_value.proofs.Tests.{same_tests}
use Rattle.rt_json.specs.declared.tree.Json.{Json}
use Rattle.rt_ptree.specs.Entries.{IsRising}
use Rattle.rt_value.proofs.Among.{Among, to_contains, from_contains, among_filter, filter_among}
use Rattle.rt_value.proofs.Plain.{any_append, filter_map_swap, map_map}
use Rattle.rt_cluster.specs.declared.dots.Dot.{Dot}
use Rattle.rt_cluster.specs.declared.dots.Mark.{Mark}
use Rattle.rt_cluster.specs.declared.places.Place.{Place}
use Rattle.rt_cluster.specs.Operations.{Operation, removes, marks_of, view, is_dot, is_among, is_told}
use Rattle.rt_cluster.specs.Operations.{last_in, last_number, is_own, dots_where, dot_at, mark_at, tracked, HasOneTrackADot}
use Rattle.rt_cluster.specs.Index.{place_cmp, place_of, mark_of, tree_at, placed_at, IsIndexed}
use Rattle.rt_cluster.specs.Standing.{StandFor}
use Rattle.rt_cluster.proofs.DotLists.{same_dot, told_is, marked, marks_dot, of_view}
use Rattle.rt_cluster.proofs.DotKeys.{has_key}
use Rattle.rt_cluster.proofs.Entries.{holds_is}

-- the dots of the marks that pass a test, of two lists of the same marks

dots_sub : (p : Mark → Bool) (ms ns : List Mark) → ((m : Mark) → Among ms m → Among ns m) → (d : Dot)
    → is_told (filter p ms) d ≡ true → is_told (filter p ns) d ≡ true
dots_sub p ms ns sub d h =
    let r = marked d (filter p ms) h in
    let f = among_filter p ms r.0 r.1 in
    ap (is_told (filter p ns)) r.2 ∙ marks_dot (filter p ns) r.0 (filter_among p ns r.0 (sub r.0 f.0) f.1)

pub dots_same : (p : Mark → Bool) (ms ns : List Mark) → ((m : Mark) → Contains ms m ↔ Contains ns m) → (d : Dot)
    → is_among (map (λ (m : Mark). m.dot) (filter p ms)) d ≡ is_among (map (λ (m : Mark). m.dot) (filter p ns)) d
dots_same p ms ns same d =
    told_is (filter p ms) d
    ∙ same_tests (is_told (filter p ms) d) (is_told (filter p ns) d)
    (dots_sub p ms ns (λ m h. from_contains _ _ ((same m).0 (to_contains _ _ h))) d)
    (dots_sub p ns ms (λ m h. from_contains _ _ ((same m).1 (to_contains _ _ h))) d)
    ∙ sym (told_is (filter p ns) d)

-- the dots of entries are those of their marks
pub entry_dots : (p : Mark → Bool) (es : List (Place × Json))
    → map (λ (e : Place × Json). e.0.dot) (filter (λ e. p (mark_of e)) es)
    ≡ map (λ (m : Mark). m.dot) (filter p (map mark_of es))
entry_dots p es =
    sym (ap (map (λ (m : Mark). m.dot)) (filter_map_swap p mark_of es)
    ∙ map_map (λ (m : Mark). m.dot) mark_of (filter (λ e. p (mark_of e)) es))

-- a removal

pub removal_said : (dots gone : List Dot) → ((d : Dot) → is_among dots d ≡ is_among gone d)
    → StandFor (Contains []) (is_among dots) (removes gone ∷ [])
removal_said dots gone same = record {
  live_is_view = λ m. (λ h. h, λ h. h);
  seen_are_dots = λ d. same d ∙ ap (λ (ds : List Dot). is_among ds d) (sym (append-nil gone));
}

-- a track

more_bound : (b : Bool) (k number last : ℕ) → k ≤ last → k ≤ cond b (max number last) last
more_bound true k number last h = omega arith
more_bound false k number last h = h

pub last_bound : (node : ℕ) (ms : List Mark) (m : Mark) → Among ms m → m.dot.node ≡ node
    → m.dot.number ≤ last_in node ms
last_bound node [] m h e = absurd h
last_bound node (n ∷ ms) m (inl same) e =
    let here : (n.dot.node == node) ≡ true = eq-eqb n.dot.node node (ap (λ (x : Mark). x.dot.node) same ∙ e) in
    let number : n.dot.number ≡ m.dot.number = ap (λ (x : Mark). x.dot.number) same in
    let P : ℕ → Type 0 = λ k. m.dot.number ≤ k in
    subst P (sym (ap (λ b. cond b (max n.dot.number (last_in node ms)) (last_in node ms)) here)) (omega arith)
last_bound node (n ∷ ms) m (inr h) e =
    more_bound (n.dot.node == node) m.dot.number n.dot.number (last_in node ms) (last_bound node ms m h e)

or_swap : (a b : Bool) → (a || (b || false)) ≡ (b || a)
or_swap true true = refl
or_swap true false = refl
or_swap false true = refl
or_swap false false = refl

module _ (node : ℕ) (topic key : List ℕ) (tree : Json) (known : List Operation) where
  new_dot : Dot
  new_dot = dot_at node (last_number node known + 1)

  -- no track of the node's has the next number
  pub not_yet : (m : Mark) → Among (marks_of known) m → m.dot ≡ dot_at node (last_number node known + 1) → ⊥
  not_yet m h e =
      let bound : m.dot.number ≤ last_number node known =
      last_bound node (marks_of known) m h (ap (λ (d : Dot). d.node) e) in
      let number : m.dot.number ≡ last_number node known + 1 = ap (λ (d : Dot). d.number) e in
      omega arith

  not_replaced_at : (b :
      Bool) → is_among (dots_where (is_own node topic key) known) (dot_at node (last_number node known + 1)) ≡ b
      → b ≡ false
  not_replaced_at true h =
      let r = marked (dot_at node (last_number node known + 1)) (filter (is_own node topic key) (view known))
      (sym (told_is (filter (is_own node topic key) (view known)) (dot_at node (last_number node known + 1))) ∙ h) in
      let f = among_filter (is_own node topic key) (view known) r.0 r.1 in
      absurd (not_yet r.0 (of_view known r.0 f.0).0 (sym r.2))
  not_replaced_at false h = refl

  not_replaced : is_among (dots_where (is_own node topic key) known ++ []) (dot_at node
      (last_number node known + 1)) ≡ false
  not_replaced =
      ap (λ (ds : List Dot). is_among ds (dot_at node (last_number node known + 1)))
      (append-nil (dots_where (is_own node topic key) known))
      ∙ not_replaced_at (is_among (dots_where (is_own node topic key) known) (dot_at node
      (last_number node known + 1))) refl

  view_is : view (tracked node topic key tree known ∷ [])
      ≡ mark_at (dot_at node (last_number node known + 1)) topic key tree ∷ []
  view_is = ap (λ b. cond (not b) (mark_at (dot_at node
      (last_number node known + 1)) topic key tree ∷ []) []) not_replaced

  pub track_said : (own : List Dot)
      → ((d : Dot) → is_among own d ≡ is_among (dots_where (is_own node topic key) known) d)
      → StandFor (Contains (mark_at (dot_at node (last_number node known + 1)) topic key tree ∷ []))
      (is_among (own ++ dot_at node (last_number node known + 1) ∷ [])) (tracked node topic key tree known ∷ [])
  track_said own same = record {
    live_is_view = λ m. (
      subst (λ (ms : List Mark). Contains ms m) (sym view_is),
      subst (λ (ms : List Mark). Contains ms m) view_is,
    );
    seen_are_dots = λ d.
        any_append (is_dot d) own (dot_at node (last_number node known + 1) ∷ [])
        ∙ or_swap (is_among own d) (is_dot d (dot_at node (last_number node known + 1)))
        ∙ ap (λ b. is_dot d (dot_at node (last_number node known + 1)) || b)
        (same d ∙ ap (λ (ds : List Dot). is_among ds d) (sym (append-nil (dots_where (is_own node topic key) known))));
  }

  one_of : HasOneTrackADot known → (m n : Mark)
      → Among (mark_at (dot_at node (last_number node known + 1)) topic key tree ∷ marks_of known) m
      → Among (mark_at (dot_at node (last_number node known + 1)) topic key tree ∷ marks_of known) n → m.dot ≡ n.dot
      → m ≡ n
  one_of one m n (inl h) (inl k) e = sym h ∙ k
  one_of one m n (inl h) (inr k) e = absurd (not_yet n k (sym e ∙ ap (λ (x : Mark). x.dot) (sym h)))
  one_of one m n (inr h) (inl k) e = absurd (not_yet m h (e ∙ ap (λ (x : Mark). x.dot) (sym k)))
  one_of one m n (inr h) (inr k) e = one m n (to_contains _ _ h) (to_contains _ _ k) e

  pub still_one : HasOneTrackADot known → HasOneTrackADot (tracked node topic key tree known ∷ known)
  still_one one m n h k e =
      let all = marks_of (tracked node topic key tree known ∷ known) in
      one_of one m n (from_contains all m h) (from_contains all n k) e

  max_next : (n : ℕ) → max (n + 1) n ≡ n + 1
  max_next n = omega arith

  pub counted_next : last_number node known + 1 ≡ last_number node (tracked node topic key tree known ∷ known)
  counted_next =
      sym (ap (λ b. cond b (max (last_number node known + 1) (last_number node known)) (last_number node known))
      (eq-eqb node node refl) ∙ max_next (last_number node known))

-- the dots of a node by the index are those of its marks

module _ (node : ℕ) where
  key_or : (d : Dot) (e : Dot × Place) (es : List (Dot × Place)) (b c : Bool) → (node == e.0.node) ≡ b
      → is_dot d e.0 ≡ c
      → is_among (map (λ (f :
      Dot × Place). f.0) (filter (λ f. node == f.0.node) es)) d ≡ ((node == d.node) && is_among (keys_of es) d)
      → is_among (map (λ (f :
      Dot × Place). f.0) (cond b (e ∷ filter (λ f. node == f.0.node) es) (filter (λ f. node == f.0.node) es))) d
      ≡ ((node == d.node) && (c || is_among (keys_of es) d))
  key_or d e es true true f g h =
      let own : (node == d.node) ≡ true = ap (λ (x : Dot). node == x.node) (same_dot d e.0 g) ∙ f in
      ap (λ b. b || is_among (map (λ (x : Dot × Place). x.0) (filter (λ x. node == x.0.node) es)) d) g
      ∙ sym (ap (λ b. b && true) own)
  key_or d e es true false f g h =
      ap (λ b. b || is_among (map (λ (x : Dot × Place). x.0) (filter (λ x. node == x.0.node) es)) d) g ∙ h
  key_or d e es false true f g h =
      let off : (node == d.node) ≡ false = ap (λ (x : Dot). node == x.node) (same_dot d e.0 g) ∙ f in
      h ∙ ap (λ b. b && is_among (keys_of es) d) off ∙ sym (ap (λ b. b && true) off)
  key_or d e es false false f g h = h

  keys_are : (d : Dot) (es : List (Dot × Place))
      → is_among (map (λ (f : Dot × Place). f.0) (filter (λ f. node == f.0.node) es)) d
      ≡ ((node == d.node) && is_among (keys_of es) d)
  keys_are d [] = sym (and_no (node == d.node)) where
    and_no : (b : Bool) → (b && false) ≡ false
    and_no true = refl
    and_no false = refl
  keys_are d (e ∷ es) = key_or d e es (node == e.0.node) (is_dot d e.0) refl refl (keys_are d es)

  module _ (marks : List (Place × Json)) (places : List (Dot × Place)) (index : IsIndexed marks places)
      (rising : IsRising place_cmp marks) (d : Dot) where
    live : List Mark
    live = map mark_of marks

    placed_told : (o : Option Place) → placed_at places d ≡ o → (node == d.node) ≡ true → is_some o ≡ true
        → is_told (filter (λ (m : Mark). node == m.dot.node) (map mark_of marks)) d ≡ true
    placed_told None e own some = absurd (cc)
    placed_told (Some p) e own some = with_tree (tree_at marks p) refl (index.there d p e) where
      with_tree : (o : Option Json) → tree_at marks p ≡ o → IsSome o
          → is_told (filter (λ (m : Mark). node == m.dot.node) (map mark_of marks)) d ≡ true
      with_tree None f h = absurd (cc)
      with_tree (Some j) f h =
          let m : Mark = mark_of (p, j) in
          let same : p.dot ≡ d = index.own d p e in
          let there : Among (map mark_of marks) m = from_contains _ _ ((holds_is marks rising m).1 f) in
          ap (is_told (filter (λ (x : Mark). node == x.dot.node) (map mark_of marks))) (sym same)
          ∙ marks_dot (filter (λ (x : Mark). node == x.dot.node) (map mark_of marks)) m
          (filter_among (λ (x : Mark). node == x.dot.node) (map mark_of marks) m there
          (ap (λ (x : Dot). node == x.node) same ∙ own))

    told_placed : is_told (filter (λ (m : Mark). node == m.dot.node) (map mark_of marks)) d ≡ true
        → ((node == d.node) && is_some (placed_at places d)) ≡ true
    told_placed h =
        let r = marked d (filter (λ (m : Mark). node == m.dot.node) (map mark_of marks)) h in
        let f = among_filter (λ (m : Mark). node == m.dot.node) (map mark_of marks) r.0 r.1 in
        let held = (holds_is marks rising r.0).0 (to_contains _ _ f.0) in
        let found = index.found (place_of r.0) (ap is_some held) in
        ap (λ (x : Dot). (node == x.node) && is_some (placed_at places x)) r.2
        ∙ ap (λ b. b && is_some (placed_at places r.0.dot)) f.1 ∙ ap is_some found

    pub node_dots : is_among (map (λ (f : Dot × Place). f.0) (filter (λ f. node == f.0.node) places)) d
        ≡ is_among (map (λ (m : Mark). m.dot) (filter (λ m. node == m.dot.node) (map mark_of marks))) d
    node_dots =
        keys_are d places
        ∙ ap (λ b. (node == d.node) && b) (sym (has_key places d))
        ∙ same_tests ((node == d.node) && is_some (placed_at places d))
        (is_told (filter (λ (m : Mark). node == m.dot.node) (map mark_of marks)) d)
        (λ h. let parts = and_parts _ _ h in placed_told (placed_at places d) refl parts.0 parts.1) told_placed
        ∙ sym (told_is (filter (λ (m : Mark). node == m.dot.node) (map mark_of marks)) d)
