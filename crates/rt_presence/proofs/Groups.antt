-- Metas that are grouped one after another are those under each key.
use Rattle.std.proofs.Common.{◌≡◌, ℕ, Bool, true, false, ◌||◌, cond, List, [], ◌∷◌, ◌++◌, map, reverse, Option, Some}
use Rattle.std.proofs.Common.{None, refl, ap, sym, ◌∙◌}
use Rattle.std.specs.Prelude.{filter, unwrap_or}
use Rattle.std.specs.List.{list_any}
use Rattle.std.specs.declared.cmp.Ordering.{Ordering}
use Rattle.std.specs.declared.cmp.Ordering.TheVariants.{Less, Equal, Greater}
use Rattle.std.specs.BTreeMap.{insert_entry, is_at}
use Rattle.std.specs.Map.{lookup, remove_entry}
use Rattle.std.specs.Ordering.{is_eq, match_ordering}
use Rattle.std.specs.Str.{bytes_eq}
use Rattle.std.specs.Cmp.Lexicographic.{nat_list_cmp_total}
use Rattle.std.proofs.lemmas.List.{reverse-append, reverse-reverse}
use Rattle.std.proofs.lemmas.Map.Text.{is_eq-slice_cmp}
use Rattle.std.proofs.lemmas.Slice.Eq.{bytes_eq-Decides}
use Rattle.std.proofs.lemmas.Bool.{or_parts}
use Rattle.rt_value.specs.Ordered.{inserted_by, inserted, in_order}
use Rattle.rt_value.proofs.Plain.{AllOf, all_weaker, map_map, map_same}
use Rattle.rt_value.proofs.Keys.{by_bytes, same, IsIn, Rises, Above, apart, tied, ordered_rises, ordered_has}
use Rattle.rt_json.specs.declared.tree.Json.{Json}
use Rattle.rt_presence.specs.Trees.{Held, Groups, under_key, metas_member, metas_of, added, all_added}

-- one more at the end is added first
pub added_last : (hs : List Held) (h : Held) (groups : Groups)
    → all_added (hs ++ h ∷ []) groups ≡ all_added hs (added h groups)
added_last [] h groups = refl
added_last (x ∷ hs) h groups = ap (added x) (added_last hs h groups)

abbrev back : List Held → List ℕ → List ℕ × List Json
back hs k = (k, reverse (under_key hs k))

abbrev backs : List Held → List (List ℕ) → Groups
backs hs ks = map (back hs) ks

pub under_other : (h : Held) (hs : List Held) (k : List ℕ) → bytes_eq h.0 k ≡ false
    → under_key (h ∷ hs) k ≡ under_key hs k
under_other h hs k e = ap (λ b.
    map (λ (x : Held). x.1) (cond b (h ∷ filter (λ (x : Held). bytes_eq x.0 k) hs)
    (filter (λ (x : Held). bytes_eq x.0 k) hs))) e

pub under_own : (h : Held) (hs : List Held) → under_key (h ∷ hs) h.0 ≡ h.1 ∷ under_key hs h.0
under_own h hs =
    ap (λ b. map (λ (x : Held). x.1)
    (cond b (h ∷ filter (λ (x : Held). bytes_eq x.0 h.0) hs) (filter (λ (x : Held). bytes_eq x.0 h.0) hs)))
    ((bytes_eq-Decides h.0 h.0).1 refl)

back_other : (h : Held) (hs : List Held) (k : List ℕ) → bytes_eq h.0 k ≡ false → back (h ∷ hs) k ≡ back hs k
back_other h hs k e = ap (λ (ms : List Json). let g : List ℕ × List Json = (k, reverse ms) in g) (under_other h hs k e)

reversed : {A : Type 0} (x : A) (xs : List A) → reverse (x ∷ xs) ≡ reverse xs ++ x ∷ []
reversed x xs = reverse-append (x ∷ []) xs

back_own : (h : Held) (hs : List Held) → back (h ∷ hs) h.0 ≡ (h.0, reverse (under_key hs h.0) ++ h.1 ∷ [])
back_own h hs = ap (λ (ms : List Json). let g : List ℕ × List Json = (h.0, ms) in g) (ap reverse (under_own h hs)
    ∙ reversed h.1 (under_key hs h.0))

backs_other : (h : Held) (hs : List Held) (ks : List (List ℕ)) → Above h.0 ks → backs (h ∷ hs) ks ≡ backs hs ks
backs_other h hs [] a = refl
backs_other h hs (k ∷ ks) a = ap (λ g. g ∷ backs (h ∷ hs) ks) (back_other h hs k (apart h.0 k a.0))
    ∙ ap (λ gs. back hs k ∷ gs) (backs_other h hs ks a.1)

none_removed : (hs : List Held) (k : List ℕ) (ks : List (List ℕ)) → Above k ks
    → remove_entry (is_at (by_bytes k)) (backs hs ks) ≡ backs hs ks
none_removed hs k [] a = refl
none_removed hs k (l ∷ ls) a = rw a.0 (ap (λ gs. back hs l ∷ gs) (none_removed hs k ls a.1))

put_first : (hs : List Held) (k : List ℕ) (v : List Json) (ks : List (List ℕ)) → Above k ks
    → insert_entry by_bytes (backs hs ks) k v ≡ (k, v) ∷ backs hs ks
put_first hs k v [] a = refl
put_first hs k v (l ∷ ls) a = rw a.0

module _ (h : Held) (hs : List Held) where
  abbrev v : List Json
  v = reverse (under_key hs h.0) ++ h.1 ∷ []

  abbrev rest : List (List ℕ) → Groups
  rest ls = remove_entry (is_at (by_bytes h.0)) (backs hs ls)

  step_at : (l : List ℕ) (ls : List (List ℕ)) (r : Ordering) → by_bytes h.0 l ≡ r → Rises (l ∷ ls)
      → insert_entry by_bytes (rest ls) h.0 v ≡ backs (h ∷ hs) (inserted by_bytes h.0 ls)
      → insert_entry by_bytes (cond (is_eq r) (backs hs ls) (back hs l ∷ rest ls)) h.0 v
      ≡ backs (h ∷ hs) (inserted_by by_bytes r h.0 l ls (inserted by_bytes h.0 ls))
  step_at l ls Less e rises more =
      let above : Above h.0 (l ∷ ls) = (
        e,
        all_weaker (λ (m : List ℕ). by_bytes l m ≡ Less) (λ (m : List ℕ). by_bytes h.0 m ≡ Less) ls
            (λ m f. nat_list_cmp_total.trans h.0 l m e f) rises.0,
      ) in
      ap (λ gs. insert_entry by_bytes (back hs l ∷ gs) h.0 v) (none_removed hs h.0 ls above.1)
      ∙ put_first hs h.0 v (l ∷ ls) above
      ∙ ap (λ gs. (h.0, v) ∷ gs) (sym (backs_other h hs (l ∷ ls) above))
      ∙ ap (λ g. g ∷ backs (h ∷ hs) (l ∷ ls)) (sym (back_own h hs))
  step_at l ls Equal e rises more =
      let is : h.0 ≡ l = tied h.0 l e in
      let above : Above h.0 ls = all_weaker (λ (m : List ℕ). by_bytes l m ≡ Less) (λ (m : List ℕ). by_bytes h.0 m
      ≡ Less) ls (λ m f. ap (λ (x : List ℕ). by_bytes x m) is ∙ f) rises.0 in
      put_first hs h.0 v ls above
      ∙ ap (λ gs. (h.0, v) ∷ gs) (sym (backs_other h hs ls above))
      ∙ ap (λ g. g ∷ backs (h ∷ hs) ls) (sym (back_own h hs))
      ∙ ap (λ (x : List ℕ). back (h ∷ hs) x ∷ backs (h ∷ hs) ls) is
  step_at l ls Greater e rises more =
      put_behind (by_bytes h.0 l) e
      ∙ ap (λ gs. back hs l ∷ gs) more
      ∙ ap (λ g. g ∷ backs (h ∷ hs) (inserted by_bytes h.0 ls))
      (sym (back_other h hs l (sym (is_eq-slice_cmp h.0 l) ∙ ap is_eq e)))
    where
      put_behind : (r : Ordering) → r ≡ Greater
          → match_ordering r ((h.0, v) ∷ back hs l ∷ rest ls) ((l, v) ∷ rest ls)
          (back hs l ∷ insert_entry by_bytes (rest ls) h.0 v) ≡ back hs l ∷ insert_entry by_bytes (rest ls) h.0 v
      put_behind r f = ap (λ o. match_ordering o ((h.0, v) ∷ back hs l ∷ rest ls) ((l, v) ∷ rest ls)
          (back hs l ∷ insert_entry by_bytes (rest ls) h.0 v)) f

  step : (ks : List (List ℕ)) → Rises ks
      → insert_entry by_bytes (rest ks) h.0 v ≡ backs (h ∷ hs) (inserted by_bytes h.0 ks)
  step [] rises = ap (λ g. g ∷ []) (sym (back_own h hs))
  step (l ∷ ls) rises = step_at l ls (by_bytes h.0 l) refl rises (step ls rises.1)

-- what is found at a key
module _ (hs : List Held) (k : List ℕ) where
  not_there : (h : Held) (ks : List (List ℕ)) (b : Bool) → bytes_eq h.0 k ≡ b → IsIn ks h.0
      → list_any (same k) ks ≡ false → b ≡ false
  not_there h ks true e i none =
      absurd (let bad : true ≡ false = sym i ∙ ap (λ (x : List ℕ). list_any (same x) ks) ((bytes_eq-Decides h.0 k).0 e)
      ∙ none in cc)
  not_there h ks false e i none = refl

  pub nothing_under : (gs : List Held) (ks : List (List ℕ)) → AllOf (λ (h : Held). IsIn ks h.0) gs
      → list_any (same k) ks ≡ false → under_key gs k ≡ []
  nothing_under [] ks a none = refl
  nothing_under (g ∷ gs) ks a none = under_other g gs k (not_there g ks (bytes_eq g.0 k) refl a.0 none)
      ∙ nothing_under gs ks a.1 none

  none_found : (ks : List (List ℕ)) → list_any (same k) ks ≡ false → lookup (is_at (by_bytes k)) (backs hs ks) ≡ None
  none_found [] none = refl
  none_found (l ∷ ls) none =
      let parts = or_parts (same k l) (list_any (same k) ls) none in
      ap (λ b. cond b (Some (reverse (under_key hs l))) (lookup (is_at (by_bytes k)) (backs hs ls)))
      (is_eq-slice_cmp k l ∙ parts.0) ∙ none_found ls parts.1

  some_at : (l : List ℕ) (ls : List (List ℕ)) (b : Bool) → same k l ≡ b
      → (list_any (same k) ls ≡ true → lookup (is_at (by_bytes k)) (backs hs ls) ≡ Some (reverse (under_key hs k)))
      → (b || list_any (same k) ls) ≡ true → lookup (is_at (by_bytes k)) (backs hs (l ∷ ls))
      ≡ Some (reverse (under_key hs k))
  some_at l ls true e more f =
      ap (λ b. cond b (Some (reverse (under_key hs l))) (lookup (is_at (by_bytes k)) (backs hs ls)))
      (is_eq-slice_cmp k l ∙ e)
      ∙ ap (λ (x : List ℕ). Some (reverse (under_key hs x))) (sym ((bytes_eq-Decides k l).0 e))
  some_at l ls false e more f =
      ap (λ b. cond b (Some (reverse (under_key hs l))) (lookup (is_at (by_bytes k)) (backs hs ls)))
      (is_eq-slice_cmp k l ∙ e) ∙ more f

  some_found : (ks : List (List ℕ)) → list_any (same k) ks ≡ true
      → lookup (is_at (by_bytes k)) (backs hs ks) ≡ Some (reverse (under_key hs k))
  some_found [] some = absurd (cc)
  some_found (l ∷ ls) some = some_at l ls (same k l) refl (some_found ls) some

  found : (ks : List (List ℕ)) → AllOf (λ (h : Held). IsIn ks h.0) hs
      → unwrap_or (lookup (is_at (by_bytes k)) (backs hs ks)) [] ≡ reverse (under_key hs k)
  found ks a = found_at (list_any (same k) ks) refl where
    found_at : (b : Bool) → list_any (same k) ks ≡ b → unwrap_or (lookup (is_at (by_bytes k)) (backs hs ks)) []
        ≡ reverse (under_key hs k)
    found_at true e = ap (λ (o : Option (List Json)). unwrap_or o []) (some_found ks e)
    found_at false e = ap (λ (o : Option (List Json)). unwrap_or o []) (none_found ks e)
        ∙ ap reverse (sym (nothing_under hs ks a e))

pub all_unmap : {A C : Type 0} (B : C → Type 0) (f : A → C) (xs : List A) → AllOf B (map f xs) → AllOf (λ x. B (f x)) xs
all_unmap B f [] a = tt
all_unmap B f (x ∷ xs) a = (a.0, all_unmap B f xs a.1)

abbrev pub keys : List Held → List (List ℕ)
keys hs = in_order by_bytes (map (λ (h : Held). h.0) hs)

all_back : (hs : List Held) → all_added hs [] ≡ backs hs (keys hs)
all_back [] = refl
all_back (h ∷ hs) =
    ap (added h) (all_back hs)
    ∙ ap (λ (ms : List Json). insert_entry by_bytes (rest h hs (keys hs)) h.0 (ms ++ h.1 ∷ []))
    (found hs h.0 (keys hs) (all_unmap (IsIn (keys hs)) (λ (x : Held). x.0) hs
    (ordered_has (map (λ (x : Held). x.0) hs))))
    ∙ step h hs (keys hs) (ordered_rises (map (λ (x : Held). x.0) hs))

-- the members of all groups
pub members_are : (hs : List Held) → map (λ (g : List ℕ × List Json). metas_member g.0 (reverse g.1)) (all_added hs [])
    ≡ map (metas_of hs) (keys hs)
members_are hs =
    ap (map (λ (g : List ℕ × List Json). metas_member g.0 (reverse g.1))) (all_back hs)
    ∙ map_map (λ (g : List ℕ × List Json). metas_member g.0 (reverse g.1)) (back hs) (keys hs)
    ∙ map_same (λ k. metas_member k (reverse (reverse (under_key hs k)))) (metas_of hs)
    (λ k. ap (metas_member k) (reverse-reverse (under_key hs k))) (keys hs)
