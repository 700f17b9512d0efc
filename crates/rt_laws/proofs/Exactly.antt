-- The push that put a cut there, and who tells changes.
use Rattle.std.proofs.Common.{◌≡◌, ℕ, List, [], ◌∷◌, ◌++◌, refl, sym, ap, subst, ◌∙◌, append_assoc}
use Rattle.std.proofs.Common.{append-nil, arith, inl, inr}
use Rattle.rt_value.proofs.Among.{Among, from_contains, among_either}
use Rattle.rt_catalog.specs.declared.catalog.Catalog.{Catalog}
use Rattle.rt_entry.specs.declared.input.Settings.{Settings}
use Rattle.rt_entry.specs.declared.input.Step.{Step}
use Rattle.rt_entry.specs.declared.input.Step.TheVariants.{Push}
use Rattle.rt_entry.specs.declared.answer.Answer.TheVariants as a
use Rattle.rt_entry.specs.Answers.{answers}
use Rattle.rt_entry.specs.Doings.{story}
use Rattle.rt_entry.specs.Headline.{IsOwnCut}
use Rattle.rt_entry.specs.Machine.{World, Cut, start, run, step_of}
use Rattle.rt_laws.specs.Exact.{OnlyPollsTellChanges, slot_after, IsPut, CutsArePut}
use Rattle.rt_laws.proofs.Allowed.{polled}
use Rattle.rt_entry.proofs.Journals.{shape_next, story_shaped}
use Rattle.rt_laws.proofs.Untouched.{cuts_are_own}
use Rattle.rt_laws.proofs.Within.{outboxes_within}

module _ (c : Catalog) (s : Settings) where
  pub only_polls : OnlyPollsTellChanges c s
  only_polls before i slot m other there e =
      let shape = shape_next c s (story c s before) i (story_shaped c s before) in
      let p = polled c s before i slot m (from_contains (answers c s before i) (slot, a.Says m) there) shape e in
      other p.0 p.1

  pub run_append : (xs ys : List Step) (w : World) → run c s (xs ++ ys) w ≡ run c s ys (run c s xs w)
  unfolding run
  run_append [] ys w = refl
  run_append (x ∷ xs) ys w = run_append xs ys (step_of c s w x).1

  run_one : (x : Step) (w : World) → run c s (x ∷ []) w ≡ (step_of c s w x).1
  unfolding run
  run_one x w = refl

  run_start : run c s [] start ≡ start
  unfolding run
  run_start = refl

  module _ (slot : ℕ) where
    abbrev AllPut : List Step → Type 0
    AllPut steps = (k : Cut) → Among (slot_after c s steps slot).cuts k → IsPut c s steps slot k

    one_more : (front : List Step) (x : Step)
        → slot_after c s (front ++ x ∷ []) slot ≡ (step_of c s (run c s front start) x).1.slots slot
    one_more front x = ap (λ (w : World). w.slots slot) (run_append front (x ∷ []) start
        ∙ run_one x (run c s front start))

    later : (front : List Step) (x : Step) (k : Cut) → IsPut c s front slot k → IsPut c s (front ++ x ∷ []) slot k
    later front x k p = record {
      before = p.before;
      later = p.later ++ x ∷ [];
      taken = ap (λ (xs : List Step). xs ++ x ∷ []) p.taken ∙ append_assoc p.before (Push slot ∷ p.later) (x ∷ []);
      held = p.held;
      put = p.put;
    }

    here : (front : List Step) (x : Step) (o : IsOwnCut c s (run c s front start) x slot)
        → IsPut c s (front ++ x ∷ []) slot o.cut
    here front x o =
        let least = o.held in
        let most = outboxes_within c s front slot in
        let P : Step → Type 0 = λ y. IsPut c s (front ++ y ∷ []) slot o.cut in
        let put : ((step_of c s (run c s front start) (Push slot)).1.slots slot).cuts
        ≡ ((run c s front start).slots slot).cuts ++ o.cut ∷ [] =
        ap (λ (y : Step). ((step_of c s (run c s front start) y).1.slots slot).cuts) (sym o.push) ∙ o.put in
        subst P (sym o.push) (record {
          before = front;
          later = [];
          taken = refl;
          held = omega arith;
          put = ap (λ x. x.cuts) (one_more front (Push slot)) ∙ put;
        })

    step_put : (front : List Step) (x : Step) → AllPut front → AllPut (front ++ x ∷ [])
    step_put front x f k there =
        let w = run c s front start in
        let old : List Cut = (w.slots slot).cuts in
        let now : Among ((step_of c s w x).1.slots slot).cuts k =
        subst (λ cuts. Among cuts k) (ap (λ x. x.cuts) (one_more front x)) there in
        elim (cuts_are_own c s w x slot) [
          | inl same ↦ later front x k (f k (subst (λ cuts. Among cuts k) same now))
          | inr o ↦ elim (among_either old (o.cut ∷ []) k (subst (λ cuts. Among cuts k) o.put now)) [
            | inl before ↦ later front x k (f k before)
            | inr (inl e) ↦ subst (IsPut c s (front ++ x ∷ []) slot) e (here front x o)
            | inr (inr none) ↦ absurd none
          ]
        ]

    put_from : (front rest : List Step) → AllPut front → AllPut (front ++ rest)
    put_from front [] f = subst AllPut (sym (append-nil front)) f
    put_from front (x ∷ rest) f =
        subst AllPut (append_assoc front (x ∷ []) rest) (put_from (front ++ x ∷ []) rest (step_put front x f))

    none_put : AllPut []
    none_put k there =
        absurd (subst (λ (w : World). Among (w.slots slot).cuts k) run_start there)

  pub cuts_put : CutsArePut c s
  cuts_put steps slot k there = put_from slot [] steps (none_put slot) k
      (from_contains (slot_after c s steps slot).cuts k there)
