-- Marks are taken out one after another.
use Rattle.std.proofs.Common.{◌≡◌, ℕ, ◌+◌, ◌<◌, Bool, true, false, ◌||◌, ◌&&◌, not, cond, List, [], ◌∷◌, ◌++◌, Option, None}
use Rattle.std.proofs.Common.{is_some, IsSome, refl, sym, ap, subst, ◌∙◌, inl, inr, length, take, drop, get_or, add-one, take-suc, take-append-drop}
use Rattle.std.specs.BTreeMap.{is_at}
use Rattle.std.proofs.lemmas.List.Folds.{list_any_more}
use Rattle.rt_value.proofs.Tests.{same_tests}
use Rattle.rt_json.specs.declared.tree.Json.{Json}
use Rattle.rt_ptree.specs.Entries.{Updates}
use Rattle.rt_value.proofs.Among.{Among, among_front}
use Rattle.rt_cluster.specs.declared.places.Place.{Place}
use Rattle.rt_cluster.specs.Index.{dot_cmp, tree_at, placed_at, IsIndexed}
use Rattle.rt_cluster.proofs.Indexed.{chosen, other, split}
use Rattle.rt_cluster.specs.declared.dots.Dot.{Dot}
use Rattle.rt_cluster.specs.Operations.{is_dot, is_among}
use Rattle.rt_cluster.proofs.DotLists.{same_dot, dot_itself}

pub dot_sym : (d e : Dot) → is_dot d e ≡ is_dot e d
dot_sym d e =
    same_tests (is_dot d e) (is_dot e d) (λ h. ap (is_dot e) (same_dot d e h) ∙ dot_itself e)
    (λ h. ap (is_dot d) (same_dot e d h) ∙ dot_itself d)

-- of what was taken before (a), the next (b) and what is told (t)
step : {A : Type 0} (a b t : Bool) (o : Option A) → (b ≡ true → t ≡ false)
    → cond b None (cond (a && not t) None o) ≡ cond ((a || b) && not t) None o
step true true t o f = ap (λ x. cond (not x) None o) (sym (f refl))
step false true t o f = ap (λ x. cond (not x) None o) (sym (f refl))
step true false t o f = refl
step false false t o f = refl

skip : (a b t : Bool) → (b ≡ true → t ≡ true) → (a && not t) ≡ ((a || b) && not t)
skip true b t f = refl
skip false true t f = ap not (sym (f refl))
skip false false t f = refl

module _ {A : Type 0} (told gone more : List Dot) (d e : Dot)
    (all : is_among more e ≡ (is_among gone e || is_dot e d)) where
  pub taken_one : is_among told d ≡ false → (before now after : Option A)
      → now ≡ cond (is_among gone e && not (is_among told e)) None before → after ≡ cond (is_dot d e) None now
      → after ≡ cond (is_among more e && not (is_among told e)) None before
  taken_one un before now after was is =
      is ∙ ap (λ b. cond b None now) (dot_sym d e) ∙ ap (λ o. cond (is_dot e d) None o) was
      ∙ step (is_among gone e) (is_dot e d) (is_among told e) before (λ h. ap (is_among told) (same_dot e d h) ∙ un)
      ∙ ap (λ b. cond (b && not (is_among told e)) None before) (sym all)

  pub passed_one : is_among told d ≡ true → (before now : Option A)
      → now ≡ cond (is_among gone e && not (is_among told e)) None before
      → now ≡ cond (is_among more e && not (is_among told e)) None before
  passed_one has before now was =
      was
      ∙ ap (λ b. cond b None before) (skip (is_among gone e) (is_dot e d) (is_among told e)
      (λ h. ap (is_among told) (same_dot e d h) ∙ has))
      ∙ ap (λ b. cond (b && not (is_among told e)) None before) (sym all)

-- what is left where the marks of the dots `done` but for those told were taken out
pub record HasTaken (before : List (Place × Json)) (found : List (Dot × Place)) (told done : List Dot)
    (marks : List (Place × Json)) (places : List (Dot × Place)) : Type 0 where
  pub taken : (p : Place) → tree_at marks p
      ≡ cond (is_among done p.dot && not (is_among told p.dot)) None (tree_at before p)
  pub fewer : (d : Dot) → IsSome (placed_at places d) → IsSome (placed_at found d)
  pub index : IsIndexed marks places

pub none_taken : (marks : List (Place × Json)) (places : List (Dot × Place)) (told : List Dot) → IsIndexed marks places
    → HasTaken marks places told [] marks places
none_taken marks places told index = record { taken = λ p. refl; fewer = λ d h. h; index = index }

module _ (before : List (Place × Json)) (found : List (Dot × Place)) (told done more : List Dot)
    (marks : List (Place × Json)) (places : List (Dot × Place)) (so_far : HasTaken before found told done marks places)
    (d : Dot) (all : (e : Dot) → is_among more e ≡ (is_among done e || is_dot e d)) where
  pub passed_next : is_among told d ≡ true → HasTaken before found told more marks places
  passed_next has = record {
    taken = λ p. passed_one told done more d p.dot (all p.dot) has (tree_at before p) (tree_at marks p)
        (so_far.taken p);
    fewer = so_far.fewer;
    index = so_far.index;
  }

  pub taken_next : is_among told d ≡ false → (after : List (Place × Json)) (left : List (Dot × Place))
      → ((p : Place) → tree_at after p ≡ cond (is_dot d p.dot) None (tree_at marks p))
      → Updates dot_cmp places left d None → IsIndexed after left → HasTaken before found told more after left
  taken_next un after left gone updates index = record {
    taken = λ p. taken_one told done more d p.dot (all p.dot) un (tree_at before p) (tree_at marks p) (tree_at after p)
        (so_far.taken p) (gone p);
    fewer = λ e some. elim (split (is_at (dot_cmp d) e)) [
      | inl h ↦ absurd (let bad : false ≡ true =
          ap is_some (sym (updates e ∙ chosen (is_at (dot_cmp d) e) None (placed_at places e) h)) ∙ some in cc)
      | inr h ↦ so_far.fewer e
          (ap is_some (sym (updates e ∙ other (is_at (dot_cmp d) e) None (placed_at places e) h)) ∙ some)
    ];
    index = index;
  }

-- the first elements of a list, and one more

pub take_next : {A : Type 0} (xs : List A) (i : ℕ) (x : A) → i < length xs
    → take (i + 1) xs ≡ take i xs ++ get_or xs i x ∷ []
take_next xs i x lt = ap (λ n. take n xs) (add-one i) ∙ take-suc xs i x lt

pub take_among : {A : Type 0} (xs : List A) (n : ℕ) (x : A) → Among (take n xs) x → Among xs x
take_among xs n x h = among_front (take n xs) (drop n xs) xs x (take-append-drop n xs) h

pub among_next : (xs : List Dot) (i : ℕ) (x : Dot) → i < length xs → (d : Dot)
    → is_among (take (i + 1) xs) d ≡ (is_among (take i xs) d || is_dot d (get_or xs i x))
among_next xs i x lt d = list_any_more (is_dot d) xs i x lt

-- at equal maps
pub taken_same : (before : List (Place × Json)) (found : List (Dot × Place)) (told done : List Dot)
    (marks other_marks : List (Place × Json)) (places other_places : List (Dot × Place)) → other_marks ≡ marks
    → other_places ≡ places → HasTaken before found told done marks places
    → HasTaken before found told done other_marks other_places
taken_same before found told done marks other_marks places other_places e f h =
    subst (λ (x : List (Place × Json)). HasTaken before found told done x other_places) (sym e)
    (subst (λ (x : List (Dot × Place)). HasTaken before found told done marks x) (sym f) h)
