-- Metas whose keys rise, put one behind another, are those under each key.
use Rattle.std.proofs.Common.{◌≡◌, ℕ, Bool, true, false, cond, List, [], ◌∷◌, ◌++◌, map, refl, ap, sym, ◌∙◌}
use Rattle.std.proofs.Common.{append_assoc}
use Rattle.std.specs.Prelude.{⊤}
use Rattle.std.specs.List.{list_any}
use Rattle.std.specs.declared.cmp.Ordering.{Ordering}
use Rattle.std.specs.declared.cmp.Ordering.TheVariants.{Less, Equal, Greater}
use Rattle.std.specs.Str.{bytes_eq}
use Rattle.std.proofs.lemmas.Slice.Eq.{bytes_eq-Decides}
use Rattle.rt_value.specs.Ordered.{inserted_by, inserted, in_order}
use Rattle.rt_value.proofs.Plain.{AllOf, all_weaker, all_map_of}
use Rattle.rt_value.proofs.Keys.{by_bytes, same, IsIn, Rises, Above, above_less, apart, tied, ordered_rises}
use Rattle.rt_value.proofs.Keys.{ordered_has}
use Rattle.rt_json.specs.declared.tree.Json.{Json}
use Rattle.rt_presence.specs.Trees.{Held, Groups, under_key, groups_of, put_last}
use Rattle.rt_presence.proofs.Groups.{under_other, under_own, nothing_under, all_unmap, keys}

-- one more in front
abbrev put_first : Held → Groups → Groups
put_first h [] = (h.0, h.1 ∷ []) ∷ []
put_first h (g ∷ gs) = cond (bytes_eq h.0 g.0) ((h.0, h.1 ∷ g.1) ∷ gs) ((h.0, h.1 ∷ []) ∷ g ∷ gs)

abbrev pub all_put : List Held → Groups → Groups
all_put [] groups = groups
all_put (h ∷ hs) groups = all_put hs (put_last h groups)

abbrev from_front : List Held → Groups
from_front [] = []
from_front (h ∷ hs) = put_first h (from_front hs)

module _ (x y : Held) (g : List ℕ × List Json) where
  both_put : (c : Bool) → bytes_eq x.0 g.0 ≡ true
      → cond c ((x.0, (x.1 ∷ g.1) ++ y.1 ∷ []) ∷ []) ((x.0, x.1 ∷ g.1) ∷ (y.0, y.1 ∷ []) ∷ [])
      ≡ put_first x (cond c ((g.0, g.1 ++ y.1 ∷ []) ∷ []) (g ∷ (y.0, y.1 ∷ []) ∷ []))
  both_put true e = rw e
  both_put false e = rw e

  apart_put : (c : Bool) → bytes_eq x.0 g.0 ≡ false
      → (x.0, x.1 ∷ []) ∷ cond c ((g.0, g.1 ++ y.1 ∷ []) ∷ []) (g ∷ (y.0, y.1 ∷ []) ∷ [])
      ≡ put_first x (cond c ((g.0, g.1 ++ y.1 ∷ []) ∷ []) (g ∷ (y.0, y.1 ∷ []) ∷ []))
  apart_put true e = rw e
  apart_put false e = rw e

  one_put : (b : Bool) → bytes_eq x.0 g.0 ≡ b → put_last y (cond b ((x.0, x.1 ∷ g.1) ∷ []) ((x.0, x.1 ∷ []) ∷ g ∷ []))
      ≡ put_first x (put_last y (g ∷ []))
  one_put true e =
      ap (λ (k : List ℕ). cond (bytes_eq k y.0) ((x.0, (x.1 ∷ g.1) ++ y.1 ∷ []) ∷ [])
      ((x.0, x.1 ∷ g.1) ∷ (y.0, y.1 ∷ []) ∷ [])) ((bytes_eq-Decides x.0 g.0).0 e)
      ∙ both_put (bytes_eq g.0 y.0) e
  one_put false e = apart_put (bytes_eq g.0 y.0) e

-- one in front and one behind, in whichever order
either_first : (x y : Held) (groups : Groups) → put_last y (put_first x groups) ≡ put_first x (put_last y groups)
either_first x y [] = refl
either_first x y (g ∷ []) = one_put x y g (bytes_eq x.0 g.0) refl
either_first x y (g ∷ k ∷ gs) =
    elim (bytes_eq x.0 g.0) as (λ b. put_last y (cond b ((x.0, x.1 ∷ g.1) ∷ k ∷ gs) ((x.0, x.1 ∷ []) ∷ g ∷ k ∷ gs))
    ≡ cond b ((x.0, x.1 ∷ g.1) ∷ put_last y (k ∷ gs)) ((x.0, x.1 ∷ []) ∷ g ∷ put_last y (k ∷ gs))) [
      | true ↦ refl
      | false ↦ refl
    ]

put_behind : (x : Held) (hs : List Held) (groups : Groups)
    → all_put hs (put_first x groups) ≡ put_first x (all_put hs groups)
put_behind x [] groups = refl
put_behind x (y ∷ hs) groups = ap (all_put hs) (either_first x y groups) ∙ put_behind x hs (put_last y groups)

put_all : (hs : List Held) → all_put hs [] ≡ from_front hs
put_all [] = refl
put_all (h ∷ hs) = put_behind h hs [] ∙ ap (put_first h) (put_all hs)

-- where the last one is taken out

behind_last : (h : Held) (gs : Groups) (g : List ℕ × List Json) → put_last h (gs ++ g ∷ []) ≡ gs ++ put_last h (g ∷ [])
behind_last h [] g = refl
behind_last h (x ∷ []) g = refl
behind_last h (x ∷ y ∷ gs) g = ap (λ ks. x ∷ ks) (behind_last h (y ∷ gs) g)

module _ (key : List ℕ) (meta : Json) (gs : Groups) (k : List ℕ) (ms : List Json) where
  abbrev put_in : Bool → Groups
  put_in b = gs ++ cond b ((k, ms ++ meta ∷ []) ∷ []) ((k, ms) ∷ (key, meta ∷ []) ∷ [])

  pub put_same : bytes_eq k key ≡ true → gs ++ (k, ms ++ meta ∷ []) ∷ [] ≡ put_last (key, meta) (gs ++ (k, ms) ∷ [])
  put_same e = ap put_in (sym e) ∙ sym (behind_last (key, meta) gs (k, ms))

  pub put_other : bytes_eq k key ≡ false → (gs ++ (k, ms) ∷ []) ++ (key, meta ∷ []) ∷ []
      ≡ put_last (key, meta) (gs ++ (k, ms) ∷ [])
  put_other e = append_assoc gs ((k, ms) ∷ []) ((key, meta ∷ []) ∷ []) ∙ ap put_in (sym e)
      ∙ sym (behind_last (key, meta) gs (k, ms))

-- no key is below that of an earlier one

abbrev NotBelow : List ℕ → List ℕ → Type 0
NotBelow k l = by_bytes k l ≡ Greater → ⊥

abbrev pub KeysRise : List Held → Type 0
KeysRise [] = ⊤
KeysRise (h ∷ hs) = AllOf (λ (x : Held). by_bytes h.0 x.0 ≡ Greater → ⊥) hs × KeysRise hs

module _ (B : List ℕ → Type 0) where
  all_put_in : (k l : List ℕ) (ls more : List (List ℕ)) (o : Ordering) → B k → AllOf B (l ∷ ls) → AllOf B more
      → AllOf B (inserted_by by_bytes o k l ls more)
  all_put_in k l ls more Less b a m = (b, a)
  all_put_in k l ls more Equal b a m = a
  all_put_in k l ls more Greater b a m = (a.0, m)

  all_inserted : (k : List ℕ) (ls : List (List ℕ)) → B k → AllOf B ls → AllOf B (inserted by_bytes k ls)
  all_inserted k [] b a = (b, tt)
  all_inserted k (l ∷ ls) b a = all_put_in k l ls (inserted by_bytes k ls) (by_bytes k l) b a (all_inserted k ls b a.1)

  all_ordered : (ks : List (List ℕ)) → AllOf B ks → AllOf B (in_order by_bytes ks)
  all_ordered [] a = tt
  all_ordered (k ∷ ks) a = all_inserted k (in_order by_bytes ks) a.0 (all_ordered ks a.1)

abbrev own : List Held → List ℕ → List ℕ × List Json
own hs k = (k, under_key hs k)

abbrev owns : List Held → List (List ℕ) → Groups
owns hs ks = map (own hs) ks

own_is : (hs : List Held) (k : List ℕ) (metas : List Json) → under_key hs k ≡ metas → own hs k ≡ (k, metas)
own_is hs k metas e = ap (λ (ms : List Json). let g : List ℕ × List Json = (k, ms) in g) e

owns_other : (h : Held) (hs : List Held) (ks : List (List ℕ)) → Above h.0 ks → owns (h ∷ hs) ks ≡ owns hs ks
owns_other h hs [] a = refl
owns_other h hs (k ∷ ks) a = ap (λ g. g ∷ owns (h ∷ hs) ks)
    (own_is (h ∷ hs) k (under_key hs k) (under_other h hs k (apart h.0 k a.0)))
    ∙ ap (λ gs. own hs k ∷ gs) (owns_other h hs ks a.1)

not_in : (k : List ℕ) (ks : List (List ℕ)) → Above k ks → list_any (same k) ks ≡ false
not_in k [] a = refl
not_in k (l ∷ ls) a = rw (apart k l a.0) (not_in k ls a.1)

module _ (h : Held) (hs : List Held) where
  own_first : (ks : List (List ℕ)) → AllOf (λ (x : Held). IsIn ks x.0) hs → list_any (same h.0) ks ≡ false
      → own (h ∷ hs) h.0 ≡ (h.0, h.1 ∷ [])
  own_first ks all none = own_is (h ∷ hs) h.0 (h.1 ∷ []) (under_own h hs
      ∙ ap (λ ms. h.1 ∷ ms) (nothing_under hs h.0 hs ks all none))

  step_at : (l : List ℕ) (ls : List (List ℕ)) (r : Ordering) → by_bytes h.0 l ≡ r → NotBelow h.0 l → Rises (l ∷ ls)
      → AllOf (λ (x : Held). IsIn (l ∷ ls) x.0) hs
      → put_first h (owns hs (l ∷ ls)) ≡ owns (h ∷ hs) (inserted_by by_bytes r h.0 l ls (inserted by_bytes h.0 ls))
  step_at l ls Less e below rises all =
      let above : Above h.0 (l ∷ ls) = (e, above_less h.0 l ls e rises.0) in
      ap (λ b. cond b ((h.0, h.1 ∷ under_key hs l) ∷ owns hs ls) ((h.0, h.1 ∷ []) ∷ owns hs (l ∷ ls))) (apart h.0 l e)
      ∙ ap (λ gs. (h.0, h.1 ∷ []) ∷ gs) (sym (owns_other h hs (l ∷ ls) above))
      ∙ ap (λ g. g ∷ owns (h ∷ hs) (l ∷ ls)) (sym (own_first (l ∷ ls) all (not_in h.0 (l ∷ ls) above)))
  step_at l ls Equal e below rises all =
      let is : h.0 ≡ l = tied h.0 l e in
      let above : Above h.0 ls = all_weaker (λ (m : List ℕ). by_bytes l m ≡ Less) (λ (m : List ℕ). by_bytes h.0 m
      ≡ Less) ls (λ m f. ap (λ (x : List ℕ). by_bytes x m) is ∙ f) rises.0 in
      ap (λ b. cond b ((h.0, h.1 ∷ under_key hs l) ∷ owns hs ls) ((h.0, h.1 ∷ []) ∷ owns hs (l ∷ ls)))
      ((bytes_eq-Decides h.0 l).1 is)
      ∙ ap (λ gs. (h.0, h.1 ∷ under_key hs l) ∷ gs) (sym (owns_other h hs ls above))
      ∙ ap (λ (k : List ℕ). (h.0, h.1 ∷ under_key hs k) ∷ owns (h ∷ hs) ls) (sym is)
      ∙ ap (λ g. g ∷ owns (h ∷ hs) ls) (sym (own_is (h ∷ hs) h.0 (h.1 ∷ under_key hs h.0) (under_own h hs)))
      ∙ ap (λ (k : List ℕ). own (h ∷ hs) k ∷ owns (h ∷ hs) ls) is
  step_at l ls Greater e below rises all = absurd (below e)

  step : (ks : List (List ℕ)) → AllOf (NotBelow h.0) ks → Rises ks → AllOf (λ (x : Held). IsIn ks x.0) hs
      → put_first h (owns hs ks) ≡ owns (h ∷ hs) (inserted by_bytes h.0 ks)
  step [] below rises all = ap (λ g. g ∷ []) (sym (own_first [] all refl))
  step (l ∷ ls) below rises all = step_at l ls (by_bytes h.0 l) refl below.0 rises all

put_front : (hs : List Held) → KeysRise hs → from_front hs ≡ groups_of hs
put_front [] rise = refl
put_front (h ∷ hs) rise =
    let names = map (λ (x : Held). x.0) hs in
    ap (put_first h) (put_front hs rise.1)
    ∙ step h hs (keys hs) (all_ordered (NotBelow h.0) names
    (all_map_of (NotBelow h.0) (λ (x : Held). NotBelow h.0 x.0) (λ (x : Held). x.0) hs (λ x below. below) rise.0))
    (ordered_rises names) (all_unmap (IsIn (keys hs)) (λ (x : Held). x.0) hs (ordered_has names))

pub all_put_is : (hs : List Held) → KeysRise hs → all_put hs [] ≡ groups_of hs
all_put_is hs rise = put_all hs ∙ put_front hs rise
