-- What a caller sees depends on tables of lesser rank alone.
use Rattle.std.proofs.Common.{◌≡◌, ℕ, zero, suc, ◌+◌, ◌<◌, ◌≤◌, Bool, true, false, cond, ◌&&◌, not, ◌||◌, List, [], ◌∷◌, map, Option, Some, None, refl, ap, sym, ◌∙◌, subst, arith, slice_get}
use Rattle.std.specs.Prelude.{nat_le}
use Rattle.std.specs.List.{list_any, list_all, position_from}
use Rattle.std.proofs.lemmas.Bool.{leb-true, and_parts}
use Rattle.rt_value.specs.declared.row.Row.{Row}
use Rattle.rt_value.specs.declared.value.Value.{Value}
use Rattle.rt_value.specs.declared.value.Value.TheVariants as value
use Rattle.rt_policy.specs.declared.judge.Judge.{Judge}
use Rattle.rt_policy.specs.declared.judge.Judge.TheOpen.{Judge-F}
use Rattle.rt_policy.specs.declared.judge.Judge.TheViews.{roll-Judge}
use Rattle.rt_policy.specs.declared.judge.Judge.TheFolds.{fold-roll-Judge, ind-Judge, map-Judge}
use Rattle.rt_policy.specs.declared.tables.TableRules.{TableRules}
use Rattle.rt_policy.specs.declared.tables.Policy.{Policy}
use Rattle.rt_policy.specs.declared.caller.Seen.{Seen}
use Rattle.rt_policy.specs.Truth.{truth_in, is_true, worth_of_truth, compared, one_of, not_of, all_of, any_of, is_tested}
use Rattle.rt_policy.specs.Worth.{Who, Place, View, IsWorth, worth_step, worth, shows}
use Rattle.rt_policy.specs.declared.caller.Seen.TheVariants as Seens
use Rattle.rt_policy.specs.Ranks.{rank_in, rank_of, reach, reach_in, reach_step, largest, descends, has_no_ring}
use Rattle.rt_policy.specs.Visibility.{applies, passes, permits, refuses, judged, seen_at, seen_by, is_met, IsVisibility, visibility_within, visibility, view_of, is_yes, refused_by, lists}

any_same : {X : Type 0} (p q : X → Bool) → ((x : X) → p x ≡ q x) → (xs : List X) → list_any p xs ≡ list_any q xs
any_same p q h [] = refl
any_same p q h (x ∷ xs) = ap (λ b. b || list_any p xs) (h x) ∙ ap (λ b. q x || b) (any_same p q h xs)

-- tests that agree wherever the elements are good
any_same_where : {X : Type 0} (good p q : X → Bool) → ((x : X) → good x ≡ true → p x ≡ q x) → (xs : List X) → list_all good xs ≡ true → list_any p xs ≡ list_any q xs
any_same_where good p q h [] g = refl
any_same_where good p q h (x ∷ xs) g =
    let b = and_parts (good x) (list_all good xs) g in
    ap (λ b. b || list_any p xs) (h x b.0) ∙ ap (λ b. q x || b) (any_same_where good p q h xs b.1)

position_same_where : {X : Type 0} (good p q : X → Bool) → ((x : X) → good x ≡ true → p x ≡ q x) → (xs : List X) (n : ℕ) → list_all good xs ≡ true → position_from p n xs ≡ position_from q n xs
position_same_where good p q h [] n g = refl
position_same_where good p q h (x ∷ xs) n g =
    let b = and_parts (good x) (list_all good xs) g in
    ap (λ b. cond b (Some n) (position_from p (n + 1) xs)) (h x b.0) ∙ ap (λ o. cond (q x) (Some n) o) (position_same_where good p q h xs (n + 1) b.1)

pub all_at : {X : Type 0} (good : X → Bool) (xs : List X) (i : ℕ) (x : X) → list_all good xs ≡ true → slice_get xs i ≡ Some x → good x ≡ true
all_at good [] i x g e = absurd (cc)
all_at good (y ∷ ys) zero x g e = let same : y ≡ x = cc in ap good (sym same) ∙ (and_parts (good y) (list_all good ys) g).0
all_at good (y ∷ ys) (suc i) x g e = all_at good ys i x (and_parts (good y) (list_all good ys) g).1 e

pub within : (s : Bool) (r n : ℕ) → (not s || nat_le r n) ≡ true → s ≡ true → r ≤ n
within true r n h e = leb-true r n h
within false r n h e = absurd (cc)

abbrev pub view_with : (ℕ → List Row) → (ℕ → Row → Bool) → View
view_with rows sees = record { rows = rows; sees = sees }

-- the two agree on tables below a rank
abbrev pub Agree : List TableRules → (ℕ → Row → Bool) → (ℕ → Row → Bool) → ℕ → Type 0
Agree tables f g n = (t : ℕ) (r : Row) → rank_of tables t < n → f t r ≡ g t r

-- two ways to give values by their forms, over views that agree on what is read
module _ (tables : List TableRules) (who : Who) (rows : ℕ → List Row) (f g : ℕ → Row → Bool)
    (U V : Judge → Place → Value) (by_forms_f : IsWorth who (view_with rows f) U) (by_forms_g : IsWorth who (view_with rows g) V) where
  abbrev pub Same : Judge → Type 0
  Same j = (n : ℕ) (at : Place) → reach tables j ≤ n → Agree tables f g n → U j at ≡ V j at

  reached : (x : Judge-F Judge) → reach tables (roll-Judge x) ≡ reach_step tables (map-Judge Judge ℕ (reach tables) x)
  reached x = fold-roll-Judge ℕ (reach_step tables) x

  binary : (h : Value → Value → Value) (v w x y : Value) → v ≡ w → x ≡ y → h v x ≡ h w y
  binary h v w x y a b = ap (λ z. h z x) a ∙ ap (h w) b

  items_same : (all : List ((j : Judge) × Same j)) (n : ℕ) (at : Place) → largest (map (reach tables) (map (λ e. e.0) all)) ≤ n → Agree tables f g n →
      map (λ (h : Place → Value). h at) (map U (map (λ e. e.0) all)) ≡ map (λ (h : Place → Value). h at) (map V (map (λ e. e.0) all))
  items_same [] n at le agree = refl
  items_same (j ∷ js) n at le agree =
      ap (λ v. v ∷ map (λ (h : Place → Value). h at) (map U (map (λ e. e.0) js))) (j.1 n at (omega arith) agree)
      ∙ ap (λ vs. V j.0 at ∷ vs) (items_same js n at (omega arith) agree)

  shows_same : (t : ℕ) (outer : Row) (c : (j : Judge) × Same j) (n : ℕ) → suc (rank_of tables t) ≤ n → reach tables c.0 ≤ n → Agree tables f g n → (r : Row) → shows (view_with rows f) t outer (U c.0) r ≡ shows (view_with rows g) t outer (V c.0) r
  shows_same t outer c n lt le agree r =
      let place : Place = record { outer = outer; inner = Some r } in
      ap (λ b. b && is_true (truth_in (U c.0 place))) (agree t r (omega arith)) ∙ ap (λ v. g t r && is_true (truth_in v)) (c.1 n place le agree)

  layer : (y : Judge-F ((j : Judge) × Same j)) → Same (roll-Judge (map-Judge ((j : Judge) × Same j) Judge (λ e. e.0) y))
  layer (Judge-F.Literal v) n at le agree = by_forms_f (Judge-F.Literal v) at ∙ sym (by_forms_g (Judge-F.Literal v) at)
  layer (Judge-F.Outer k) n at le agree = by_forms_f (Judge-F.Outer k) at ∙ sym (by_forms_g (Judge-F.Outer k) at)
  layer (Judge-F.Inner k) n at le agree = by_forms_f (Judge-F.Inner k) at ∙ sym (by_forms_g (Judge-F.Inner k) at)
  layer Judge-F.Uid n at le agree = by_forms_f Judge-F.Uid at ∙ sym (by_forms_g Judge-F.Uid at)
  layer Judge-F.Role n at le agree = by_forms_f Judge-F.Role at ∙ sym (by_forms_g Judge-F.Role at)
  layer (Judge-F.Claim k) n at le agree = by_forms_f (Judge-F.Claim k) at ∙ sym (by_forms_g (Judge-F.Claim k) at)
  layer (Judge-F.Compare op a b) n at le agree =
      let x = Judge-F.Compare op a.0 b.0 in
      let r = reached x in
      by_forms_f x at ∙ binary (λ v w. worth_of_truth (compared op v w)) _ _ _ _ (a.1 n at (omega (arith, r)) agree) (b.1 n at (omega (arith, r)) agree) ∙ sym (by_forms_g x at)
  layer (Judge-F.OneOf a all) n at le agree =
      let x = Judge-F.OneOf a.0 (map (λ e. e.0) all) in
      let r = reached x in
      by_forms_f x at ∙ ap (λ v. worth_of_truth (one_of v (map (λ (h : Place → Value). h at) (map U (map (λ e. e.0) all))))) (a.1 n at (omega (arith, r)) agree)
      ∙ ap (λ vs. worth_of_truth (one_of (V a.0 at) vs)) (items_same all n at (omega (arith, r)) agree) ∙ sym (by_forms_g x at)
  layer (Judge-F.Not a) n at le agree =
      let x = Judge-F.Not a.0 in
      let r = reached x in
      by_forms_f x at ∙ ap (λ v. worth_of_truth (not_of (truth_in v))) (a.1 n at (omega (arith, r)) agree) ∙ sym (by_forms_g x at)
  layer (Judge-F.And all) n at le agree =
      let x = Judge-F.And (map (λ e. e.0) all) in
      let r = reached x in
      by_forms_f x at ∙ ap (λ vs. worth_of_truth (all_of vs)) (items_same all n at (omega (arith, r)) agree) ∙ sym (by_forms_g x at)
  layer (Judge-F.Or all) n at le agree =
      let x = Judge-F.Or (map (λ e. e.0) all) in
      let r = reached x in
      by_forms_f x at ∙ ap (λ vs. worth_of_truth (any_of vs)) (items_same all n at (omega (arith, r)) agree) ∙ sym (by_forms_g x at)
  layer (Judge-F.Is asked a) n at le agree =
      let x = Judge-F.Is asked a.0 in
      let r = reached x in
      by_forms_f x at ∙ ap (λ v. value.Bool (is_tested asked v)) (a.1 n at (omega (arith, r)) agree) ∙ sym (by_forms_g x at)
  layer (Judge-F.Exists t c) n at le agree =
      let x = Judge-F.Exists t c.0 in
      let r = reached x in
      by_forms_f x at ∙ ap value.Bool (any_same _ _ (shows_same t at.outer c n (omega (arith, r)) (omega (arith, r)) agree) (rows t)) ∙ sym (by_forms_g x at)

  pub same : (j : Judge) → Same j
  same = ind-Judge Same (λ x y is. subst (λ z. Same (roll-Judge z)) is (layer y))

pub worth_by_forms : (who : Who) (view : View) → IsWorth who view (worth who view)
worth_by_forms who view form at = ap (λ (h : Place → Value). h at) (fold-roll-Judge (Place → Value) (worth_step who view) form)

-- nothing else is what the forms say
pub worth_only : (who : Who) (view : View) (value : Judge → Place → Value) → IsWorth who view value → (j : Judge) (at : Place) → value j at ≡ worth who view j at
worth_only who view value by_forms j at =
    same [] who view.rows view.sees view.sees value (worth who view) by_forms (worth_by_forms who view) j (reach [] j) at (omega arith) (λ t r lt. refl)

module _ (tables : List TableRules) (who : Who) (rows : ℕ → List Row) (f g : ℕ → Row → Bool) where
  gated : (s a r x y : Bool) → (s ≡ true → x ≡ y) → (((s && a) && r) && x) ≡ (((s && a) && r) && y)
  gated true a r x y h = ap (λ z. ((true && a) && r) && z) (h refl)
  gated false a r x y h = refl

  met_same : (row : Row) (n : ℕ) → Agree tables f g n → (o : Option Judge) → reach_in tables o ≤ n → is_met who (view_with rows f) row o ≡ is_met who (view_with rows g) row o
  met_same row n agree None le = refl
  met_same row n agree (Some j) le = ap (λ v. is_true (truth_in v)) (same tables who rows f g (worth who (view_with rows f)) (worth who (view_with rows g)) (worth_by_forms who (view_with rows f)) (worth_by_forms who (view_with rows g)) j n (record { outer = row; inner = None }) le agree)

  passes_same : (row : Row) (n : ℕ) → Agree tables f g n → (p : Policy) → (not p.selects || nat_le (reach_in tables p.judge) n) ≡ true → p.selects ≡ true → passes who (view_with rows f) row p ≡ passes who (view_with rows g) row p
  passes_same row n agree p good e = met_same row n agree p.judge (within p.selects (reach_in tables p.judge) n good e)

  permits_same : (row : Row) (n : ℕ) → Agree tables f g n → (p : Policy) → (not p.selects || nat_le (reach_in tables p.judge) n) ≡ true → permits who (view_with rows f) row p ≡ permits who (view_with rows g) row p
  permits_same row n agree p good = gated p.selects (lists who.role p.roles) (not p.restrictive) _ _ (passes_same row n agree p good)

  refuses_same : (row : Row) (n : ℕ) → Agree tables f g n → (p : Policy) → (not p.selects || nat_le (reach_in tables p.judge) n) ≡ true → refuses who (view_with rows f) row p ≡ refuses who (view_with rows g) row p
  refuses_same row n agree p good = gated p.selects (lists who.role p.roles) p.restrictive _ _ (λ e. ap not (passes_same row n agree p good e))

  judged_same : (row : Row) (n : ℕ) → Agree tables f g n → (ps : List Policy) → list_all (λ p. not p.selects || nat_le (reach_in tables p.judge) n) ps ≡ true → judged who (view_with rows f) row ps ≡ judged who (view_with rows g) row ps
  judged_same row n agree ps good =
      let any = list_any (applies who) ps in
      let few : (b : Bool) → Option ℕ → Seen = λ b o. cond (not any) Seens.NoPolicy (cond (not b) Seens.NonePermits (refused_by o)) in
      ap (λ b. few b (position_from (refuses who (view_with rows f) row) 0 ps)) (any_same_where _ _ _ (permits_same row n agree) ps good)
      ∙ ap (few (list_any (permits who (view_with rows g) row) ps)) (position_same_where _ _ _ (refuses_same row n agree) ps 0 good)

  at_same : (row : Row) (t : ℕ) → has_no_ring tables ≡ true → Agree tables f g (rank_of tables t) → (o : Option TableRules) → slice_get tables t ≡ o → seen_at who (view_with rows f) row o ≡ seen_at who (view_with rows g) row o
  at_same row t no_ring agree None e = refl
  at_same row t no_ring agree (Some entry) e =
      let good = all_at (descends tables) tables t entry no_ring e in
      let rank : rank_of tables t ≡ entry.rank = ap rank_in e in
      ap (cond (not entry.secured || who.bypass) Seens.Yes) (judged_same row entry.rank (λ u r lt. agree u r (omega arith)) entry.policies good)

  pub by_same : (t : ℕ) (row : Row) → has_no_ring tables ≡ true → Agree tables f g (rank_of tables t) → seen_by tables who (view_with rows f) t row ≡ seen_by tables who (view_with rows g) t row
  by_same t row no_ring agree = at_same row t no_ring agree (slice_get tables t) refl

module _ (tables : List TableRules) (no_ring : has_no_ring tables ≡ true) (who : Who) (rows : ℕ → List Row) where
  -- any number of ranks above the table's gives the same
  pub stable : (n m t : ℕ) (r : Row) → rank_of tables t < n → rank_of tables t < m → visibility_within n tables who rows t r ≡ visibility_within m tables who rows t r
  stable zero m t r a b = absurd (omega arith)
  stable (suc n) zero t r a b = absurd (omega arith)
  stable (suc n) (suc m) t r a b =
      by_same tables who rows (λ u s. is_yes (visibility_within n tables who rows u s)) (λ u s. is_yes (visibility_within m tables who rows u s)) t r no_ring
      (λ u s lt. ap is_yes (stable n m u s (omega arith) (omega arith)))

  pub visibility_is : (t : ℕ) (row : Row) → visibility tables who rows t row ≡ seen_by tables who (view_of tables who rows) t row
  unfolding visibility
  visibility_is t row =
      by_same tables who rows (λ u s. is_yes (visibility_within (rank_of tables t) tables who rows u s)) (λ u s. is_yes (visibility tables who rows u s)) t row no_ring
      (λ u s lt. ap is_yes (stable (rank_of tables t) (suc (rank_of tables u)) u s lt (omega arith)))

  -- whatever meets the rule is what is visible
  only_below : (seen : ℕ → Row → Seen) → IsVisibility tables who rows seen → (n t : ℕ) (r : Row) → rank_of tables t < n → seen t r ≡ visibility tables who rows t r
  only_below seen rule zero t r lt = absurd (omega arith)
  only_below seen rule (suc n) t r lt =
      rule t r ∙ by_same tables who rows (λ u s. is_yes (seen u s)) (λ u s. is_yes (visibility tables who rows u s)) t r no_ring
      (λ u s less. ap is_yes (only_below seen rule n u s (omega arith))) ∙ sym (visibility_is t r)

  pub only : (seen : ℕ → Row → Seen) → IsVisibility tables who rows seen → (t : ℕ) (r : Row) → seen t r ≡ visibility tables who rows t r
  only seen rule t r = only_below seen rule (suc (rank_of tables t)) t r (omega arith)
