-- What a statement's rows add to those that stand, where names that have one number are one.
use Rattle.std.proofs.Common.{◌≡◌, ◌⊎◌, ◌+◌, Bool, true, false, not, List, [], ◌∷◌, ◌++◌, length, Option, Some, None}
use Rattle.std.proofs.Common.{refl, ap, sym, ◌∙◌, subst, arith, inl, inr, length-append}
use Rattle.std.specs.Prelude.{is_none}
use Rattle.std.specs.Bool.{Decides}
use Rattle.std.specs.List.{AllByRecursion, IsDistinct, list_any, filter, filter_map, cons_option}
use Rattle.std.proofs.lemmas.Bool.{cases_Bool, false_from_ne_true, not_from_false, not-true}
use Rattle.rt_value.specs.Choice.{is_at}
use Rattle.rt_value.proofs.Among.{Among, among_either, among_left, among_right, among_filter, filter_among}
use Rattle.rt_value.proofs.Among.{among_filter_map}
use Rattle.rt_catalog.specs.Lists.{new_rows}
use Rattle.rt_catalog.proofs.Once.{all_among, among_all, none_any, apart_both, turned, among_same, once_apart}
use Rattle.rt_catalog.proofs.Once.{new_among, among_once}

pub filter_map_among : {A B : Type 0} (f : A → Option B) (xs : List A) (x : A) (y : B) → Among xs x → f x ≡ Some y
    → Among (filter_map f xs) y
filter_map_among f [] x y h e = absurd h
filter_map_among {A} {B} f (z ∷ xs) x y (inl i) e =
    let P : Option B → Type 0 = λ o. Among (cons_option o (filter_map f xs)) y in subst P (sym (ap f i ∙ e)) (inl refl)
filter_map_among {A} {B} f (z ∷ xs) x y (inr i) e = behind (f z) (filter_map_among f xs x y i e) where
  behind : (o : Option B) → Among (filter_map f xs) y → Among (cons_option o (filter_map f xs)) y
  behind None h = h
  behind (Some w) h = inr h

length_all_some : {A B : Type 0} (f : A → Option B) (xs : List A) → AllByRecursion (λ x. is_none (f x) ≡ false) xs
    → length (filter_map f xs) ≡ length xs
length_all_some f [] all = refl
length_all_some {A} {B} f (x ∷ xs) all = by (f x) all.0 (length_all_some f xs all.1) where
  by : (o : Option B) → is_none o ≡ false → length (filter_map f xs) ≡ length xs
      → length (cons_option o (filter_map f xs)) ≡ length (x ∷ xs)
  by None e h = absurd (cc)
  by (Some y) e h = omega (arith, h)

module _ {R N : Type 0} (look : R → Option N) (same_row : R → R → Bool)
    (rows_decide : (a b : R) → Decides (same_row a b) (a ≡ b))
    (same : N → N → Bool) (decides : (a b : N) → Decides (same a b) (a ≡ b))
    (one : (r s : R) (n : N) → look r ≡ Some n → look s ≡ Some n → r ≡ s) (before : List N) (rows : List R) where
  abbrev stands : R → Bool
  stands r = is_at (λ n. list_any (same n) before) (look r)

  abbrev new : List R
  new = new_rows stands same_row rows

  abbrev after : List N
  after = before ++ filter_map look new

  -- a row that is new doesn't stand
  new_row : (r : R) → Among new r → Among rows r × (stands r ≡ false)
  new_row r h = let (at, e) =
      among_filter (λ s. not (stands s)) rows r (new_among same_row rows_decide stands rows r h) in
      (at, not-true (stands r) e)

  pub after_named : (n : N) → Among after n → Among before n ⊎ ((r : R) × Among rows r × (look r ≡ Some n))
  after_named n h =
      elim (among_either before (filter_map look new) n h) [
        | inl a ↦ inl a
        | inr a ↦ let (r, at, e) = among_filter_map look new n a in inr (r, (new_row r at).0, e)
      ]

  pub named_after : (n : N) → Among before n ⊎ ((r : R) × Among rows r × (look r ≡ Some n)) → Among after n
  named_after n (inl h) = among_left before (filter_map look new) n h
  named_after n (inr (r, at, e)) = by (cases_Bool (stands r)) where
    by : (stands r ≡ true) ⊎ (stands r ≡ false) → Among after n
    by (inl h) =
        let there : list_any (same n) before ≡ true = sym (ap (is_at (λ k. list_any (same k) before)) e) ∙ h in
        among_left before (filter_map look new) n (among_same same decides n before there)
    by (inr h) =
        let kept = filter_among (λ s. not (stands s)) rows r at (not_from_false (stands r) h) in
        among_right before (filter_map look new) n
        (filter_map_among look new r n
        (among_once same_row rows_decide [] (filter (λ s. not (stands s)) rows) r (inr kept)) e)

  -- names that are apart have numbers that are apart
  numbers_apart : (rs : List R) → IsDistinct same_row rs → IsDistinct same (filter_map look rs)
  unfolding IsDistinct
  numbers_apart [] a = tt
  numbers_apart (r ∷ rs) a = by (look r) refl (numbers_apart rs a.1) where
    by : (o : Option N) → look r ≡ o → IsDistinct same (filter_map look rs)
        → IsDistinct same (cons_option o (filter_map look rs))
    by None e h = h
    by (Some n) e h = (
      all_among (λ m. same n m ≡ false) (filter_map look rs) (λ m at.
          let (s, among, f) = among_filter_map look rs m at in
          false_from_ne_true (same n m) (λ t.
          let k : look s ≡ Some n = f ∙ ap (λ z. Some z) (sym ((decides n m).0 t)) in
          let differ : same_row r s ≡ false = among_all (λ z. same_row r z ≡ false) rs a.0 s among in
          let z : true ≡ false = sym ((rows_decide r s).1 (one r s n e k)) ∙ differ in cc)),
      h,
    )

  pub after_apart : IsDistinct same before → IsDistinct same after
  unfolding IsDistinct
  after_apart a =
      apart_both same before (filter_map look new) a
      (numbers_apart new (once_apart same_row rows_decide [] (filter (λ s. not (stands s)) rows) tt))
      (all_among (λ x. AllByRecursion (λ y. same x y ≡ false) (filter_map look new)) before (λ x here.
      all_among (λ y. same x y ≡ false) (filter_map look new) (λ y there.
      let (r, at, e) = among_filter_map look new y there in
      let none : list_any (same y) before ≡ false =
      sym (ap (is_at (λ k. list_any (same k) before)) e) ∙ (new_row r at).1 in
      turned same decides y x (among_all (λ z. same y z ≡ false) before (none_any (same y) before none) x here))))

  pub after_counted : list_any (λ r. is_none (look r)) rows ≡ false → length after ≡ length before + length new
  after_counted known =
      let all : AllByRecursion (λ r. is_none (look r) ≡ false) new =
      all_among (λ r. is_none (look r) ≡ false) new (λ r at.
      among_all (λ s. is_none (look s) ≡ false) rows (none_any (λ s. is_none (look s)) rows known) r (new_row r at).0)
      in
      length-append before (filter_map look new) ∙ ap (λ k. length before + k) (length_all_some look new all)
