-- A mark put in among marks that are found by their dots, and one taken out.
use Rattle.std.proofs.Common.{◌≡◌, ◌⊎◌, Bool, true, false, cond, List, Option, Some, None, is_some, IsSome, refl, sym, ap, ◌∙◌, inl, inr}
use Rattle.std.specs.declared.cmp.Ordering.TheVariants.{Equal}
use Rattle.std.specs.BTreeMap.{is_at}
use Rattle.std.specs.Cmp.{IsTotalOrder}
use Rattle.std.specs.Ordering.{is_eq}
use Rattle.std.proofs.lemmas.Cmp.{nat_cmp_total, nat_list_cmp_total, on_total, then_total, tied_itself}
use Rattle.std.proofs.lemmas.Map.Lookups.{exact_unsigned, exact_bytes}
use Rattle.rt_presence.proofs.Orders.{is_eq_true}
use Rattle.rt_value.proofs.Ties.{both_equal}
use Rattle.rt_value.proofs.Tests.{same_tests}
use Rattle.rt_json.specs.declared.tree.Json.{Json}
use Rattle.rt_ptree.specs.Entries.{Updates}
use Rattle.rt_cluster.specs.declared.dots.Dot.{Dot}
use Rattle.rt_cluster.specs.declared.dots.Mark.{Mark}
use Rattle.rt_cluster.specs.declared.places.Place.{Place}
use Rattle.rt_cluster.specs.Operations.{is_dot, dot_at}
use Rattle.rt_cluster.specs.Index.{dot_cmp, place_cmp, place_at, place_of, tree_at, placed_at, IsIndexed}
use Rattle.rt_cluster.proofs.DotLists.{same_dot, dot_itself}

pub dot_total : IsTotalOrder dot_cmp
dot_total = then_total (on_total (λ (d : Dot). d.node) nat_cmp_total) (on_total (λ (d : Dot). d.number) nat_cmp_total)

pub place_total : IsTotalOrder place_cmp
place_total =
    then_total (on_total (λ (p : Place). p.topic) nat_list_cmp_total)
    (then_total (on_total (λ (p : Place). p.key) nat_list_cmp_total) (on_total (λ (p : Place). p.dot) dot_total))

pub dot_exact : (d e : Dot) → dot_cmp d e ≡ Equal → d ≡ e
dot_exact d e h =
    let parts = both_equal _ _ h in
    ap (λ n. dot_at n d.number) (exact_unsigned d.node e.node parts.0)
    ∙ ap (dot_at e.node) (exact_unsigned d.number e.number parts.1)

pub place_exact : (p q : Place) → place_cmp p q ≡ Equal → p ≡ q
place_exact p q h =
    let one = both_equal _ _ h in
    let two = both_equal _ _ one.1 in
    ap (λ x. place_at x p.key p.dot) (exact_bytes p.topic q.topic one.0)
    ∙ ap (λ x. place_at q.topic x p.dot) (exact_bytes p.key q.key two.0)
    ∙ ap (place_at q.topic q.key) (dot_exact p.dot q.dot two.1)

pub at_dot : (d e : Dot) → is_at (dot_cmp d) e ≡ true → d ≡ e
at_dot d e h = dot_exact d e (is_eq_true _ h)

pub dot_at_itself : (d : Dot) → is_at (dot_cmp d) d ≡ true
dot_at_itself d = ap is_eq (tied_itself dot_total d)

pub at_place : (p q : Place) → is_at (place_cmp p) q ≡ true → p ≡ q
at_place p q h = place_exact p q (is_eq_true _ h)

pub place_at_itself : (p : Place) → is_at (place_cmp p) p ≡ true
place_at_itself p = ap is_eq (tied_itself place_total p)

pub at_is_dot : (d e : Dot) → is_at (dot_cmp d) e ≡ is_dot d e
at_is_dot d e =
    same_tests (is_at (dot_cmp d) e) (is_dot d e)
    (λ h. ap (is_dot d) (sym (at_dot d e h)) ∙ dot_itself d)
    (λ h. ap (is_at (dot_cmp d)) (sym (same_dot d e h)) ∙ dot_at_itself d)

-- a choice, where the test is known
pub chosen : {A : Type 0} (b : Bool) (x y : A) → b ≡ true → cond b x y ≡ x
chosen b x y e = ap (λ t. cond t x y) e

pub other : {A : Type 0} (b : Bool) (x y : A) → b ≡ false → cond b x y ≡ y
other b x y e = ap (λ t. cond t x y) e

pub some_one : {A : Type 0} (x y : A) → Some x ≡ Some y → x ≡ y
some_one x y h = cc

pub not_both : {A : Type 0} (o : Option A) (x : A) → o ≡ None → o ≡ Some x → ⊥
not_both o x e f = let z : None ≡ Some x = sym e ∙ f in cc

pub split : (b : Bool) → (b ≡ true) ⊎ (b ≡ false)
split true = inl refl
split false = inr refl

module _ (marks : List (Place × Json)) (places : List (Dot × Place)) (index : IsIndexed marks places) where
  module _ (m : Mark) (fresh : placed_at places m.dot ≡ None) (after : List (Place × Json)) (more : List (Dot × Place))
      (updates : Updates place_cmp marks after (place_of m) (Some m.tree))
      (moved : Updates dot_cmp places more m.dot (Some (place_of m))) where
    put_found : (p : Place) → IsSome (tree_at after p) → placed_at more p.dot ≡ Some p
    put_found p some =
        elim (split (is_at (place_cmp (place_of m)) p)) [
          | inl e ↦
              let same = at_place (place_of m) p e in
              moved p.dot
              ∙ chosen (is_at (dot_cmp m.dot) p.dot) (Some (place_of m)) (placed_at places p.dot)
              (ap (λ (q : Place). is_at (dot_cmp m.dot) q.dot) (sym same) ∙ dot_at_itself m.dot)
              ∙ ap (λ (q : Place). Some q) same
          | inr e ↦
              let stood : IsSome (tree_at marks p) =
              ap is_some (sym (updates p ∙ other (is_at (place_cmp (place_of m)) p) (Some m.tree)
              (tree_at marks p) e)) ∙ some in
              let there = index.found p stood in
              elim (split (is_at (dot_cmp m.dot) p.dot)) [
                | inl f ↦ absurd (not_both (placed_at places m.dot) p fresh
                    (ap (placed_at places) (at_dot m.dot p.dot f) ∙ there))
                | inr f ↦ moved p.dot
                    ∙ other (is_at (dot_cmp m.dot) p.dot) (Some (place_of m)) (placed_at places p.dot) f ∙ there
              ]
        ]

    put_own : (d : Dot) (p : Place) → placed_at more d ≡ Some p → p.dot ≡ d
    put_own d p at =
        elim (split (is_at (dot_cmp m.dot) d)) [
          | inl e ↦
              let same = some_one (place_of m) p
              (sym (moved d ∙ chosen (is_at (dot_cmp m.dot) d) (Some (place_of m)) (placed_at places d) e) ∙ at) in
              ap (λ (q : Place). q.dot) (sym same) ∙ at_dot m.dot d e
          | inr e ↦
              index.own d p
              (sym (moved d ∙ other (is_at (dot_cmp m.dot) d) (Some (place_of m)) (placed_at places d) e) ∙ at)
        ]

    still : (p : Place) → IsSome (tree_at marks p) → IsSome (tree_at after p)
    still p some =
        elim (split (is_at (place_cmp (place_of m)) p)) [
          | inl e ↦ ap is_some (updates p ∙ chosen (is_at (place_cmp (place_of m)) p) (Some m.tree) (tree_at marks p) e)
          | inr e ↦
              ap is_some (updates p ∙ other (is_at (place_cmp (place_of m)) p) (Some m.tree) (tree_at marks p) e) ∙ some
        ]

    put_there : (d : Dot) (p : Place) → placed_at more d ≡ Some p → IsSome (tree_at after p)
    put_there d p at =
        elim (split (is_at (dot_cmp m.dot) d)) [
          | inl e ↦
              let same = some_one (place_of m) p
              (sym (moved d ∙ chosen (is_at (dot_cmp m.dot) d) (Some (place_of m)) (placed_at places d) e) ∙ at) in
              ap is_some (updates p ∙ chosen (is_at (place_cmp (place_of m)) p) (Some m.tree) (tree_at marks p)
              (ap (is_at (place_cmp (place_of m))) (sym same) ∙ place_at_itself (place_of m)))
          | inr e ↦
              still p (index.there d p
              (sym (moved d ∙ other (is_at (dot_cmp m.dot) d) (Some (place_of m)) (placed_at places d) e) ∙ at))
        ]

    pub put_indexed : IsIndexed after more
    put_indexed = record { found = put_found; own = put_own; there = put_there }

  module _ (d : Dot) where
    -- where no mark has the dot, taking it out changes nothing
    gone_at : (p : Place) (o : Option Json) → tree_at marks p ≡ o → (IsSome o → ⊥) → o ≡ None
    gone_at p None e never = refl
    gone_at p (Some j) e never = absurd (never refl)

    pub none_gone : placed_at places d ≡ None → (p : Place)
        → tree_at marks p ≡ cond (is_dot d p.dot) None (tree_at marks p)
    none_gone none p =
        elim (split (is_dot d p.dot)) [
          | inl e ↦
              gone_at p (tree_at marks p) refl
              (λ some. not_both (placed_at places d) p none
              (ap (placed_at places) (same_dot d p.dot e) ∙ index.found p some))
              ∙ sym (chosen (is_dot d p.dot) None (tree_at marks p) e)
          | inr e ↦ sym (other (is_dot d p.dot) None (tree_at marks p) e)
        ]

    pub none_updates : placed_at places d ≡ None → Updates dot_cmp places places d None
    none_updates none e =
        elim (split (is_at (dot_cmp d) e)) [
          | inl h ↦ ap (placed_at places) (sym (at_dot d e h)) ∙ none
              ∙ sym (chosen (is_at (dot_cmp d) e) None (placed_at places e) h)
          | inr h ↦ sym (other (is_at (dot_cmp d) e) None (placed_at places e) h)
        ]

    pub one_gone : (q : Place) → placed_at places d ≡ Some q → (after : List (Place × Json))
        → Updates place_cmp marks after q None
        → (p : Place) → tree_at after p ≡ cond (is_dot d p.dot) None (tree_at marks p)
    one_gone q at after updates p =
        elim (split (is_at (place_cmp q) p)) [
          | inl e ↦
              let same = at_place q p e in
              updates p ∙ chosen (is_at (place_cmp q) p) None (tree_at marks p) e
              ∙ sym (chosen (is_dot d p.dot) None (tree_at marks p)
              (ap (is_dot d) (ap (λ (x : Place). x.dot) (sym same) ∙ index.own d q at) ∙ dot_itself d))
          | inr e ↦
              updates p ∙ other (is_at (place_cmp q) p) None (tree_at marks p) e
              ∙ elim (split (is_dot d p.dot)) [
                | inl f ↦
                    gone_at p (tree_at marks p) refl
                    (λ some.
                    let same = some_one q p (sym at ∙ ap (placed_at places) (same_dot d p.dot f)
                    ∙ index.found p some) in
                    let bad : true ≡ false = sym (ap (is_at (place_cmp q)) (sym same) ∙ place_at_itself q) ∙ e in cc)
                    ∙ sym (chosen (is_dot d p.dot) None (tree_at marks p) f)
                | inr f ↦ sym (other (is_dot d p.dot) None (tree_at marks p) f)
              ]
        ]

    module _ (after : List (Place × Json)) (fewer : List (Dot × Place))
        (gone : (p : Place) → tree_at after p ≡ cond (is_dot d p.dot) None (tree_at marks p))
        (updates : Updates dot_cmp places fewer d None) where
      taken_found : (p : Place) → IsSome (tree_at after p) → placed_at fewer p.dot ≡ Some p
      taken_found p some =
          elim (split (is_dot d p.dot)) [
            | inl e ↦
                absurd (let bad : false ≡ true =
                ap is_some (sym (gone p ∙ chosen (is_dot d p.dot) None (tree_at marks p) e)) ∙ some in cc)
            | inr e ↦
                updates p.dot ∙ other (is_at (dot_cmp d) p.dot) None (placed_at places p.dot) (at_is_dot d p.dot ∙ e)
                ∙ index.found p (ap is_some (sym (gone p ∙ other (is_dot d p.dot) None (tree_at marks p) e)) ∙ some)
          ]

      taken_own : (e : Dot) (p : Place) → placed_at fewer e ≡ Some p → p.dot ≡ e
      taken_own e p at =
          elim (split (is_at (dot_cmp d) e)) [
            | inl h ↦ absurd (not_both (placed_at fewer e) p
                (updates e ∙ chosen (is_at (dot_cmp d) e) None (placed_at places e) h) at)
            | inr h ↦ index.own e p (sym (updates e ∙ other (is_at (dot_cmp d) e) None (placed_at places e) h) ∙ at)
          ]

      apart : (e : Dot) (p : Place) → placed_at fewer e ≡ Some p → is_dot d p.dot ≡ false
      apart e p at =
          elim (split (is_at (dot_cmp d) e)) [
            | inl h ↦ absurd (not_both (placed_at fewer e) p
                (updates e ∙ chosen (is_at (dot_cmp d) e) None (placed_at places e) h) at)
            | inr h ↦ sym (at_is_dot d p.dot) ∙ ap (is_at (dot_cmp d)) (taken_own e p at) ∙ h
          ]

      taken_there : (e : Dot) (p : Place) → placed_at fewer e ≡ Some p → IsSome (tree_at after p)
      taken_there e p at =
          ap is_some (gone p ∙ other (is_dot d p.dot) None (tree_at marks p) (apart e p at))
          ∙ elim (split (is_at (dot_cmp d) e)) [
            | inl h ↦ absurd (not_both (placed_at fewer e) p
                (updates e ∙ chosen (is_at (dot_cmp d) e) None (placed_at places e) h) at)
            | inr h ↦ index.there e p (sym (updates e ∙ other (is_at (dot_cmp d) e) None (placed_at places e) h) ∙ at)
          ]

      pub taken_indexed : IsIndexed after fewer
      taken_indexed = record { found = taken_found; own = taken_own; there = taken_there }
