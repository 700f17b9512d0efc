-- Dots, and lists of them.
use Rattle.std.proofs.Common.{◌≡◌, ◌⊎◌, Bool, true, false, ◌||◌, ◌&&◌, not, List, [], ◌∷◌, ◌++◌, map, refl, sym, ap, ◌∙◌, inl, inr}
use Rattle.std.specs.Prelude.{◌==◌}
use Rattle.std.proofs.lemmas.Bool.{and_parts, eqb-true, eq-eqb, not-true}
use Rattle.std.proofs.lemmas.List.Concat.{flat_map-append}
use Rattle.rt_value.proofs.Among.{Among, among_filter, filter_among}
use Rattle.rt_value.proofs.Plain.{any_append, any_among}
use Rattle.rt_cluster.specs.declared.dots.Dot.{Dot}
use Rattle.rt_cluster.specs.declared.dots.Mark.{Mark}
use Rattle.rt_cluster.specs.Operations.{Operation, marks_by, gone_by, marks_of, gone_of, dots_of, view, is_dot, is_among, is_told, dot_at}

pub same_dot : (d e : Dot) → is_dot d e ≡ true → d ≡ e
same_dot d e h =
    let parts = and_parts _ _ h in
    ap (λ n. dot_at n d.number) (eqb-true d.node e.node parts.0)
    ∙ ap (dot_at e.node) (eqb-true d.number e.number parts.1)

pub dot_itself : (d : Dot) → is_dot d d ≡ true
dot_itself d = ap (λ b. b && (d.number == d.number)) (eq-eqb d.node d.node refl) ∙ eq-eqb d.number d.number refl

pub or_parts : (a b : Bool) → (a || b) ≡ false → (a ≡ false) × (b ≡ false)
or_parts true b h = absurd (cc)
or_parts false b h = (refl, h)

pub or_false : (a b : Bool) → a ≡ false → b ≡ false → (a || b) ≡ false
or_false a b e f = ap (λ x. x || b) e ∙ f

pub or_either : (a b : Bool) → (a || b) ≡ true → b ≡ false → a ≡ true
or_either true b h f = refl
or_either false b h f = absurd (let z : true ≡ false = sym h ∙ f in cc)

pub true_or_false : (b : Bool) → (b ≡ true) ⊎ (b ≡ false)
true_or_false true = inl refl
true_or_false false = inr refl

-- the marks' dots as a list
pub told_is : (ms : List Mark) (d : Dot) → is_among (map (λ (m : Mark). m.dot) ms) d ≡ is_told ms d
told_is [] d = refl
told_is (m ∷ ms) d = ap (λ b. is_dot d m.dot || b) (told_is ms d)

found_or : (d : Dot) (m : Mark) (ms : List Mark) (b : Bool) → is_dot d m.dot ≡ b
    → (is_told ms d ≡ true → (x : Mark) × Among ms x × (d ≡ x.dot))
    → (b || is_told ms d) ≡ true → (x : Mark) × Among (m ∷ ms) x × (d ≡ x.dot)
found_or d m ms true e f h = (m, inl refl, same_dot d m.dot e)
found_or d m ms false e f h = let r = f h in (r.0, inr r.1, r.2)

-- a dot of marks is that of one of them
pub marked : (d : Dot) (ms : List Mark) → is_told ms d ≡ true
    → (m : Mark) × Among ms m × (d ≡ m.dot)
marked d [] h = absurd (cc)
marked d (m ∷ ms) h = found_or d m ms (is_dot d m.dot) refl (marked d ms) h

pub marks_dot : (ms : List Mark) (m : Mark) → Among ms m → is_told ms m.dot ≡ true
marks_dot ms m h = any_among (λ (x : Mark). is_dot m.dot x.dot) ms m h (dot_itself m.dot)

-- of two lists of operations
module _ (some others : List Operation) where
  pub marks_both : marks_of (some ++ others) ≡ marks_of some ++ marks_of others
  marks_both = flat_map-append marks_by some others

  pub gone_both : (d : Dot) → is_among (gone_of (some ++ others)) d ≡ (is_among (gone_of some) d || is_among
      (gone_of others) d)
  gone_both d = ap (λ ds. is_among ds d) (flat_map-append gone_by some others)
      ∙ any_append (is_dot d) (gone_of some) (gone_of others)

-- the dots of operations
module _ (ops : List Operation) where
  pub dots_are : (d : Dot) → is_among (dots_of ops) d ≡ (is_told (marks_of ops) d || is_among (gone_of ops) d)
  dots_are d = any_append (is_dot d) (map (λ (m : Mark). m.dot) (marks_of ops)) (gone_of ops)
      ∙ ap (λ b. b || is_among (gone_of ops) d) (told_is (marks_of ops) d)

  pub unseen_not_gone : (d : Dot) → is_among (dots_of ops) d ≡ false → is_among (gone_of ops) d ≡ false
  unseen_not_gone d h = (or_parts _ _ (sym (dots_are d) ∙ h)).1

  -- a dot that operations have and that isn't gone is that of a track
  pub tracked_there : (d : Dot) → is_among (dots_of ops) d ≡ true → is_among (gone_of ops) d ≡ false
      → (m : Mark) × Among (marks_of ops) m × (d ≡ m.dot)
  tracked_there d h g = marked d (marks_of ops) (or_either _ _ (sym (dots_are d) ∙ h) g)

  pub in_view : (m : Mark) → Among (marks_of ops) m → is_among (gone_of ops) m.dot ≡ false → Among (view ops) m
  in_view m h g = filter_among (λ (x : Mark). not (is_among (gone_of ops) x.dot)) (marks_of ops) m h (ap not g)

  pub of_view : (m : Mark) → Among (view ops) m → Among (marks_of ops) m × (is_among (gone_of ops) m.dot ≡ false)
  of_view m h =
      let r = among_filter (λ (x : Mark). not (is_among (gone_of ops) x.dot)) (marks_of ops) m h in
      (r.0, not-true _ r.1)
