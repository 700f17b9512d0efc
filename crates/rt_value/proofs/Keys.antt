-- Texts in byte order, each once, and elements grouped by such keys.
use Rattle.std.proofs.Common.{◌≡◌, ℕ, Bool, true, false, ◌||◌, ◌&&◌, not, cond, List, [], ◌∷◌, ◌++◌, refl, sym, ap, ◌∙◌}
use Rattle.std.specs.List.{filter, flat_map, list_any}
use Rattle.std.specs.Str.{bytes_eq}
use Rattle.std.specs.Ordering.{nat_cmp, is_eq, eq_by_cmp}
use Rattle.std.specs.Cmp.Lexicographic.{slice_cmp, nat_list_cmp_total}
use Rattle.std.specs.declared.cmp.Ordering.{Ordering}
use Rattle.std.specs.declared.cmp.Ordering.TheVariants.{Less, Equal}
use Rattle.std.proofs.lemmas.Map.Text.{is_eq-slice_cmp}
use Rattle.std.proofs.lemmas.Slice.Eq.{bytes_eq-Decides}
use Rattle.rt_value.specs.Ordered.{in_order}
use Rattle.rt_value.proofs.InOrder as order
use Rattle.rt_value.proofs.Plain.{AllOf, all_weaker, filter_alike, filter_and, all_every}
use Rattle.rt_value.proofs.Moves.{Moves, then_to, moves_same, moves_back, moves_right, moves_parts}

abbrev pub by_bytes : List ℕ → List ℕ → Ordering
by_bytes k l = slice_cmp nat_cmp k l

abbrev pub same : List ℕ → List ℕ → Bool
same k l = bytes_eq k l

pub tied : (k l : List ℕ) → by_bytes k l ≡ Equal → k ≡ l
tied k l e = (bytes_eq-Decides k l).0 (sym (is_eq-slice_cmp k l) ∙ ap is_eq e)

pub apart : (k l : List ℕ) → by_bytes k l ≡ Less → same k l ≡ false
apart k l e = sym (is_eq-slice_cmp k l) ∙ ap is_eq e

abbrev pub Above : List ℕ → List (List ℕ) → Type 0
Above k ls = order.Above by_bytes nat_list_cmp_total k ls

abbrev pub Rises : List (List ℕ) → Type 0
Rises ks = order.Rises by_bytes nat_list_cmp_total ks

pub above_less : (k l : List ℕ) (ls : List (List ℕ)) → by_bytes k l ≡ Less → Above l ls → Above k ls
above_less k l ls e a = order.above_less by_bytes nat_list_cmp_total k l ls e a

pub ordered_rises : (ks : List (List ℕ)) → Rises (in_order by_bytes ks)
ordered_rises ks = order.in_order_rises by_bytes nat_list_cmp_total ks

abbrev pub IsIn : List (List ℕ) → List ℕ → Type 0
IsIn ks j = list_any (same j) ks ≡ true

-- what ties is the same
ties_are : (j : List ℕ) (ks : List (List ℕ)) → list_any (eq_by_cmp by_bytes j) ks ≡ list_any (same j) ks
ties_are j [] = refl
ties_are j (k ∷ ks) =
    ap (λ b. b || list_any (eq_by_cmp by_bytes j) ks) (is_eq-slice_cmp j k) ∙ ap (λ b. same j k || b) (ties_are j ks)

pub ordered_has : (ks : List (List ℕ)) → AllOf (IsIn (in_order by_bytes ks)) ks
ordered_has ks =
    let sorted = in_order by_bytes ks in
    all_weaker (order.Ties by_bytes nat_list_cmp_total sorted) (IsIn sorted) ks (λ j h. sym (ties_are j sorted) ∙ h)
    (order.in_order_ties by_bytes nat_list_cmp_total ks)

-- grouped by their keys, elements are the same in another order

module _ {A : Type 0} (key : A → List ℕ) where
  abbrev pub of_key : List ℕ → A → Bool
  of_key k x = same (key x) k

  abbrev others : List ℕ → A → Bool
  others k x = not (of_key k x)

  abbrev pub group : List A → List ℕ → List A
  group xs k = filter (of_key k) xs

  no_keys : (xs : List A) → AllOf (λ x. IsIn [] (key x)) xs → xs ≡ []
  no_keys [] h = refl
  no_keys (x ∷ xs) h = absurd (let e = h.0 in cc)

  still_in : (k : List ℕ) (ks : List (List ℕ)) (x : A) (b : Bool) → same (key x) k ≡ b → not b ≡ true → IsIn (k ∷ ks) (key x) → IsIn ks (key x)
  still_in k ks x true e f h = absurd (cc)
  still_in k ks x false e f h = ap (λ b. b || list_any (same (key x)) ks) (sym e) ∙ h

  kept_in : (k : List ℕ) (ks : List (List ℕ)) (x : A) (xs : List A) (b : Bool) → others k x ≡ b → IsIn (k ∷ ks) (key x)
      → AllOf (λ y. IsIn ks (key y)) (filter (others k) xs)
      → AllOf (λ y. IsIn ks (key y)) (cond b (x ∷ filter (others k) xs) (filter (others k) xs))
  kept_in k ks x xs true e h m = (still_in k ks x (same (key x) k) refl e h, m)
  kept_in k ks x xs false e h m = m

  others_in : (k : List ℕ) (ks : List (List ℕ)) (xs : List A) → AllOf (λ x. IsIn (k ∷ ks) (key x)) xs
      → AllOf (λ x. IsIn ks (key x)) (filter (others k) xs)
  others_in k ks [] h = tt
  others_in k ks (x ∷ xs) h = kept_in k ks x xs (others k x) refl h.0 (others_in k ks xs h.1)

  -- a key's elements are none of another key's
  not_other : (k j : List ℕ) (x : A) → by_bytes k j ≡ Less → of_key j x ≡ (others k x && of_key j x)
  not_other k j x e = case_of (same (key x) j) (same (key x) k) refl refl where
    case_of : (a b : Bool) → same (key x) j ≡ a → same (key x) k ≡ b → a ≡ (not b && a)
    case_of false true f g = refl
    case_of false false f g = refl
    case_of true false f g = refl
    case_of true true f g =
        let one : key x ≡ j = (bytes_eq-Decides (key x) j).0 f in
        let two : key x ≡ k = (bytes_eq-Decides (key x) k).0 g in
        let t : same k j ≡ true = (bytes_eq-Decides k j).1 (sym two ∙ one) in
        absurd (let z : true ≡ false = sym t ∙ apart k j e in cc)

  same_group : (k j : List ℕ) (xs : List A) → by_bytes k j ≡ Less → group xs j ≡ group (filter (others k) xs) j
  same_group k j xs e =
      filter_alike (of_key j) (λ x. others k x && of_key j x) xs
      (all_every (λ x. of_key j x ≡ (others k x && of_key j x)) xs (λ x. not_other k j x e)) ∙ filter_and (of_key j) (others k) xs

  same_groups : (k : List ℕ) (ks : List (List ℕ)) (xs : List A) → Above k ks → flat_map (group xs) ks ≡ flat_map (group (filter (others k) xs)) ks
  same_groups k [] xs a = refl
  same_groups k (j ∷ ks) xs a =
      ap (λ ys. ys ++ flat_map (group xs) ks) (same_group k j xs a.0) ∙ ap (λ ys. group (filter (others k) xs) j ++ ys) (same_groups k ks xs a.1)

  pub grouped : (ks : List (List ℕ)) (xs : List A) → Rises ks → AllOf (λ x. IsIn ks (key x)) xs → Moves (flat_map (group xs) ks) xs
  grouped [] xs r h = moves_same [] xs (sym (no_keys xs h))
  grouped (k ∷ ks) xs r h =
      let rest = filter (others k) xs in
      then_to (flat_map (group xs) (k ∷ ks)) (group xs k ++ rest) xs
      (then_to (flat_map (group xs) (k ∷ ks)) (group xs k ++ flat_map (group rest) ks) (group xs k ++ rest)
      (moves_same (flat_map (group xs) (k ∷ ks)) (group xs k ++ flat_map (group rest) ks) (ap (λ ys. group xs k ++ ys) (same_groups k ks xs r.0)))
      (moves_right (group xs k) (flat_map (group rest) ks) rest (grouped ks rest r.1 (others_in k ks xs h))))
      (moves_back xs (group xs k ++ rest) (moves_parts (of_key k) xs))
