-- Marks that are told are put in one after another, where their dots haven't been seen.
use Rattle.std.proofs.Common.{◌≡◌, ◌⊎◌, Bool, true, false, ◌||◌, List, [], ◌∷◌, ◌++◌, Option, Some, None, is_some, IsSome, refl, sym, ap, subst, ◌∙◌, inl, inr}
use Rattle.std.specs.BTreeMap.{is_at}
use Rattle.rt_json.specs.declared.tree.Json.{Json}
use Rattle.rt_ptree.specs.Entries.{Updates}
use Rattle.rt_value.proofs.Among.{Among, to_contains, among_left, among_right, among_either}
use Rattle.rt_value.proofs.Plain.{any_append}
use Rattle.rt_cluster.specs.declared.dots.Dot.{Dot}
use Rattle.rt_cluster.specs.declared.dots.Mark.{Mark}
use Rattle.rt_cluster.specs.declared.places.Place.{Place}
use Rattle.rt_cluster.specs.Operations.{is_dot, is_among, is_told}
use Rattle.rt_cluster.specs.Index.{dot_cmp, place_cmp, place_of, mark_of, tree_at, placed_at, Holds, IsIndexed, IsAllSeen, HasOneADot}
use Rattle.rt_cluster.proofs.DotLists.{same_dot, dot_itself, or_parts, or_either, marked}
use Rattle.rt_cluster.proofs.Indexed.{at_dot, at_place, place_at_itself, chosen, other, some_one, not_both, split}

pub same_mark : (m n : Mark) → place_of m ≡ place_of n → m.tree ≡ n.tree → m ≡ n
same_mark m n e f = ap (λ (p : Place). mark_of (p, m.tree)) e ∙ ap (λ (t : Json). mark_of (place_of n, t)) f

pub told_more : (ms : List Mark) (m : Mark) (d : Dot) → is_told (ms ++ m ∷ []) d ≡ (is_told ms d || is_dot d m.dot)
told_more ms m d = any_append (λ (x : Mark). is_dot d x.dot) ms (m ∷ [])
    ∙ ap (λ b. is_told ms d || b) (or_no (is_dot d m.dot)) where
      or_no : (b : Bool) → (b || false) ≡ b
      or_no true = refl
      or_no false = refl

-- where all that have a place were seen, a dot that wasn't has none
pub no_place : (places : List (Dot × Place)) (seen : List Dot) → IsAllSeen places seen → (d : Dot)
    → is_among seen d ≡ false
    → placed_at places d ≡ None
no_place places seen all d un = none (placed_at places d) refl where
  none : (o : Option Place) → placed_at places d ≡ o → o ≡ None
  none None e = refl
  none (Some p) e = absurd (let bad : true ≡ false = sym (all d (ap is_some e)) ∙ un in cc)

pub or_last : (a b c : Bool) → (a || (b || c)) ≡ ((b || a) || c)
or_last true true c = refl
or_last true false c = refl
or_last false true c = refl
or_last false false c = refl

or_told : (a b c s : Bool) → s ≡ (b || c) → (a ≡ true → s ≡ true) → s ≡ ((b || a) || c)
or_told true b c s e f = f refl ∙ sym (was b) where
  was : (x : Bool) → ((x || true) || c) ≡ true
  was true = refl
  was false = refl
or_told false b c s e f = e ∙ ap (λ x. x || c) (sym (or_no b)) where
  or_no : (x : Bool) → (x || false) ≡ x
  or_no true = refl
  or_no false = refl

-- what was put in of the marks `done`, from these on
pub record HasPut (before : List (Place × Json)) (was : List Dot) (told done : List Mark) (marks : List (Place × Json))
    (places : List (Dot × Place)) (seen : List Dot) : Type 0 where
  pub kept : (m : Mark) → Holds before m → Holds marks m
  pub came : (m : Mark) → Holds marks m → Holds before m ⊎ (Among done m × (is_among was m.dot ≡ false))
  pub taken : HasOneADot told → (m : Mark) → Among done m → is_among was m.dot ≡ false → Holds marks m
  pub dots : (d : Dot) → is_among seen d ≡ (is_told done d || is_among was d)
  pub index : IsIndexed marks places
  pub all_seen : IsAllSeen places seen

pub none_put : (marks : List (Place × Json)) (places : List (Dot × Place)) (seen : List Dot) (told : List Mark)
    → IsIndexed marks places → IsAllSeen places seen → HasPut marks seen told [] marks places seen
none_put marks places seen told index all = record {
  kept = λ m h. h;
  came = λ m h. inl h;
  taken = λ one m h un. absurd h;
  dots = λ d. refl;
  index = index;
  all_seen = all;
}

module _ (before : List (Place × Json)) (was : List Dot) (told done : List Mark) (marks : List (Place × Json))
    (places : List (Dot × Place)) (seen : List Dot) (so_far : HasPut before was told done marks places seen)
    (n : Mark) (in_told : (m : Mark) → Among (done ++ n ∷ []) m → Among told m) where
  came_more : (m : Mark) → Holds before m ⊎ (Among done m × (is_among was m.dot ≡ false))
      → Holds before m ⊎ (Among (done ++ n ∷ []) m × (is_among was m.dot ≡ false))
  came_more m (inl h) = inl h
  came_more m (inr h) = inr (among_left done (n ∷ []) m h.0, h.1)

  module _ (had : is_among seen n.dot ≡ true) where
    skip_last : HasOneADot told → (m : Mark) → n ≡ m → is_among was m.dot ≡ false → Holds marks m
    skip_last one m e un =
        let unseen : is_among was n.dot ≡ false = ap (λ (x : Mark). is_among was x.dot) e ∙ un in
        let r = marked n.dot done (or_either _ _ (sym (so_far.dots n.dot) ∙ had) unseen) in
        let same : n ≡ r.0 = one n r.0 (to_contains _ _ (in_told n (among_right done (n ∷ []) n (inl refl))))
        (to_contains _ _ (in_told r.0 (among_left done (n ∷ []) r.0 r.1))) r.2 in
        subst (λ (x : Mark). Holds marks x) (sym same ∙ e)
        (so_far.taken one r.0 r.1 (ap (is_among was) (sym r.2) ∙ unseen))

    pub skipped : HasPut before was told (done ++ n ∷ []) marks places seen
    skipped = record {
      kept = so_far.kept;
      came = λ m h. came_more m (so_far.came m h);
      taken = λ one m h un. elim (among_either done (n ∷ []) m h) [
        | inl a ↦ so_far.taken one m a un
        | inr b ↦ elim b [ inl e ↦ skip_last one m e un | inr z ↦ absurd z ]
      ];
      dots = λ d.
          or_told (is_dot d n.dot) (is_told done d) (is_among was d) (is_among seen d) (so_far.dots d)
          (λ h. ap (is_among seen) (same_dot d n.dot h) ∙ had)
          ∙ ap (λ b. b || is_among was d) (sym (told_more done n d));
      index = so_far.index;
      all_seen = so_far.all_seen;
    }

  module _ (unseen : is_among seen n.dot ≡ false) (after : List (Place × Json)) (more : List (Dot × Place))
      (dots : List Dot) (updates : Updates place_cmp marks after (place_of n) (Some n.tree))
      (moved : Updates dot_cmp places more n.dot (Some (place_of n))) (index : IsIndexed after more)
      (added : (d : Dot) → is_among dots d ≡ (is_dot d n.dot || is_among seen d)) where
    there : Holds after n
    there = updates (place_of n)
        ∙ chosen (is_at (place_cmp (place_of n)) (place_of n)) (Some n.tree) (tree_at marks (place_of n))
        (place_at_itself (place_of n))

    still : (m : Mark) → Holds marks m → Holds after m
    still m h =
        elim (split (is_at (place_cmp (place_of n)) (place_of m))) [
          | inl e ↦
              absurd (not_both (placed_at places n.dot) (place_of m) (no_place places seen so_far.all_seen n.dot unseen)
              (ap (λ (p : Place). placed_at places p.dot) (at_place (place_of n) (place_of m) e)
              ∙ so_far.index.found (place_of m) (ap is_some h)))
          | inr e ↦
              updates (place_of m)
              ∙ other (is_at (place_cmp (place_of n)) (place_of m)) (Some n.tree) (tree_at marks (place_of m)) e ∙ h
        ]

    arrived : (m : Mark) → Holds after m → Holds before m ⊎ (Among (done ++ n ∷ []) m × (is_among was m.dot ≡ false))
    arrived m h =
        elim (split (is_at (place_cmp (place_of n)) (place_of m))) [
          | inl e ↦
              let tree : n.tree ≡ m.tree = some_one n.tree m.tree
              (sym (updates (place_of m)
              ∙ chosen (is_at (place_cmp (place_of n)) (place_of m)) (Some n.tree) (tree_at marks (place_of m)) e)
              ∙ h) in
              let same : n ≡ m = same_mark n m (at_place (place_of n) (place_of m) e) tree in
              let fresh : is_among was n.dot ≡ false =
              (or_parts (is_told done n.dot) (is_among was n.dot) (sym (so_far.dots n.dot) ∙ unseen)).1 in
              inr (among_right done (n ∷ []) m (inl same), ap (λ (x : Mark). is_among was x.dot) (sym same) ∙ fresh)
          | inr e ↦
              came_more m (so_far.came m (sym (updates (place_of m)
              ∙ other (is_at (place_cmp (place_of n)) (place_of m)) (Some n.tree) (tree_at marks (place_of m)) e) ∙ h))
        ]

    seen_still : (d : Dot) → IsSome (placed_at more d) → is_among dots d ≡ true
    seen_still d some =
        elim (split (is_at (dot_cmp n.dot) d)) [
          | inl e ↦
              added d ∙ ap (λ b. b || is_among seen d) (ap (is_dot d) (at_dot n.dot d e) ∙ dot_itself d)
          | inr e ↦
              added d
              ∙ ap (λ b. is_dot d n.dot || b) (so_far.all_seen d (ap is_some (sym (moved d
              ∙ other (is_at (dot_cmp n.dot) d) (Some (place_of n)) (placed_at places d) e)) ∙ some))
              ∙ or_yes (is_dot d n.dot)
        ] where
          or_yes : (b : Bool) → (b || true) ≡ true
          or_yes true = refl
          or_yes false = refl

    pub put_one : HasPut before was told (done ++ n ∷ []) after more dots
    put_one = record {
      kept = λ m h. still m (so_far.kept m h);
      came = arrived;
      taken = λ one m h un. elim (among_either done (n ∷ []) m h) [
        | inl a ↦ still m (so_far.taken one m a un)
        | inr b ↦ elim b [ inl e ↦ subst (λ (x : Mark). Holds after x) e there | inr z ↦ absurd z ]
      ];
      dots = λ d.
          added d ∙ ap (λ b. is_dot d n.dot || b) (so_far.dots d)
          ∙ or_last (is_dot d n.dot) (is_told done d) (is_among was d)
          ∙ ap (λ b. b || is_among was d) (sym (told_more done n d));
      index = index;
      all_seen = seen_still;
    }

-- at equal maps
pub put_same : (before : List (Place × Json)) (was : List Dot) (told done : List Mark) (marks other_marks :
    List (Place × Json))
    (places other_places : List (Dot × Place)) (seen other_seen : List Dot) → other_marks ≡ marks
    → other_places ≡ places
    → other_seen ≡ seen → HasPut before was told done marks places seen
    → HasPut before was told done other_marks other_places other_seen
put_same before was told done marks other_marks places other_places seen other_seen e f g h =
    subst (λ (x : List (Place × Json)). HasPut before was told done x other_places other_seen) (sym e)
    (subst (λ (x : List (Dot × Place)). HasPut before was told done marks x other_seen) (sym f)
    (subst (λ (x : List Dot). HasPut before was told done marks places x) (sym g) h))
