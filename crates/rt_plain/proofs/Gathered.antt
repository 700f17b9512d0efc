-- Work on several lanes, one after another, is work on all of them at once.
use Rattle.std.proofs.Common.{◌≡◌, ◌⊎◌, inl, inr, ℕ, zero, suc, ◌+◌, ◌<◌, ◌≤◌, Bool, true, false, ◌∷◌, map}
use Rattle.std.proofs.Common.{refl, sym, ap, ap₂, ◌∙◌, subst, arith}
use Rattle.std.specs.Prelude.{◌==◌, nat_lt}
use Rattle.std.specs.List.{range_with_len}
use Rattle.std.proofs.lemmas.Bool.{eqb-true, lt-ltb, le-ltb, ltb-true, ltb-false}
use Rattle.std.proofs.lemmas.Bool.Decides.{eqb_tells}
use Rattle.rt_catalog.specs.declared.catalog.Catalog.{Catalog}
use Rattle.rt_entry.specs.declared.input.Settings.{Settings}
use Rattle.rt_entry.specs.declared.input.Step.TheVariants.{Work}
use Rattle.rt_entry.specs.Machine.{Lane, World, Outcome, done, empty, with_at, with_lane, work, step_of, run}
use Rattle.rt_script.specs.Running.{outcomes}
use Rattle.rt_laws.proofs.Untouched.{at_itself}
use Rattle.rt_plain.specs.AtOnce.{worked_lane, work_all, RoundsAreAtOnce}

-- a function with its own value put in is itself
same_at : {A : Type 0} (f : ℕ → A) (n m : ℕ) → f m ≡ with_at f n (f n) m
same_at f n m = by_case (m == n) refl
  where
    by_case : (is : Bool) → (m == n) ≡ is → f m ≡ elim is [ true ↦ f n | false ↦ f m ]
    by_case true e = ap f (eqb-true m n e)
    by_case false e = refl

abbrev work_by : World → ℕ → Lane → Bool → Outcome × World
work_by w l x none = elim none [ true ↦ (empty, w) | false ↦ (done, with_lane w l (record x { worked = x.worked + 1 })) ]

-- one lane's work changes that lane alone
works_lane : (w : World) (l : ℕ) → (work w l (w.lanes l)).1 ≡ with_lane w l (worked_lane (w.lanes l))
works_lane w l = by_case ((w.lanes l).worked == (w.lanes l).sent)
  where
    by_case : (none : Bool) → (work_by w l (w.lanes l) none).1
        ≡ with_lane w l (elim none [ true ↦ w.lanes l | false ↦ record (w.lanes l) { worked = (w.lanes l).worked + 1 } ])
    by_case true = λ i. record w { lanes = λ m. same_at w.lanes l m i }
    by_case false = refl

-- the lanes from one on, so many
abbrev from : ℕ → ℕ → ℕ → Bool
from a n l = elim (nat_lt l a) [ true ↦ false | false ↦ nat_lt l (a + n) ]

abbrev gathered_at : ℕ → ℕ → World → ℕ → Lane
gathered_at a n w l = elim (from a n l) [ true ↦ worked_lane (w.lanes l) | false ↦ w.lanes l ]

abbrev gathered : ℕ → ℕ → World → World
gathered a n w = record w { lanes = gathered_at a n w }

-- one lane, and those behind it
from_next : (a n l : ℕ) → (l == a) ≡ false → from (a + 1) n l ≡ from a (suc n) l
from_next a n l e = by_case (eqb_tells l a)
  where
    low : l < a → from (a + 1) n l ≡ from a (suc n) l
    low lt =
        let left : from (a + 1) n l ≡ false = ap (λ b. elim b [ true ↦ false | false ↦ nat_lt l (a + 1 + n) ])
        (lt-ltb l (a + 1) (omega (arith, lt))) in
        let right : from a (suc n) l ≡ false = ap (λ b. elim b [ true ↦ false | false ↦ nat_lt l (a + suc n) ])
        (lt-ltb l a lt) in
        left ∙ sym right

    high : a < l → from (a + 1) n l ≡ from a (suc n) l
    high lt =
        let left : from (a + 1) n l ≡ nat_lt l (a + 1 + n) =
        ap (λ b. elim b [ true ↦ false | false ↦ nat_lt l (a + 1 + n) ]) (le-ltb l (a + 1) (omega (arith, lt))) in
        let right : from a (suc n) l ≡ nat_lt l (a + suc n) =
        ap (λ b. elim b [ true ↦ false | false ↦ nat_lt l (a + suc n) ]) (le-ltb l a (omega (arith, lt))) in
        let sums : a + 1 + n ≡ a + suc n = omega arith in
        left ∙ ap (nat_lt l) sums ∙ sym right

    by_order : (less : Bool) → nat_lt l a ≡ less → (l ≡ a → ⊥) → from (a + 1) n l ≡ from a (suc n) l
    by_order true t ne = low (ltb-true l a t)
    by_order false t ne =
        let le = ltb-false l a t in
        by_other (nat_lt a l) refl ne le
      where
        by_other : (more : Bool) → nat_lt a l ≡ more → (l ≡ a → ⊥) → a ≤ l → from (a + 1) n l ≡ from a (suc n) l
        by_other true u ne le = high (ltb-true a l u)
        by_other false u ne le =
            let other = ltb-false a l u in
            let same : l ≡ a = omega (arith, le, other) in
            absurd (ne same)

    by_case : ((l == a) ≡ true) × (l ≡ a) ⊎ ((l == a) ≡ false) × (l ≡ a → ⊥) → from (a + 1) n l ≡ from a (suc n) l
    by_case (inl (t, same)) = let both : true ≡ false = sym t ∙ e in absurd cc
    by_case (inr (t, ne)) = by_order (nat_lt l a) refl ne

from_itself : (a n : ℕ) → from a (suc n) a ≡ true
from_itself a n =
    ap (λ b. elim b [ true ↦ false | false ↦ nat_lt a (a + suc n) ]) (le-ltb a a (omega arith))
    ∙ lt-ltb a (a + suc n) (omega arith)

from_none : (a l : ℕ) → from a 0 l ≡ false
from_none a l = by_case (nat_lt l a) refl
  where
    by_case : (less : Bool) → nat_lt l a ≡ less → elim less [ true ↦ false | false ↦ nat_lt l (a + 0) ] ≡ false
    by_case true e = refl
    by_case false e =
        let le = ltb-false l a e in
        le-ltb l (a + 0) (omega (arith, le))

from_behind : (a n : ℕ) → from (a + 1) n a ≡ false
from_behind a n =
    ap (λ b. elim b [ true ↦ false | false ↦ nat_lt a (a + 1 + n) ]) (lt-ltb a (a + 1) (omega arith))

abbrev chosen : Bool → Lane → Lane
chosen b x = elim b [ true ↦ worked_lane x | false ↦ x ]

abbrev first_worked : ℕ → World → World
first_worked a w = with_lane w a (worked_lane (w.lanes a))

elsewhere : (a l : ℕ) (w : World) → (l == a) ≡ false → (first_worked a w).lanes l ≡ w.lanes l
elsewhere a l w e = ap (λ b. elim b [ true ↦ worked_lane (w.lanes a) | false ↦ w.lanes l ]) e

-- work on the first lane and then on those behind it
step_gathered : (a n : ℕ) (w : World) (l : ℕ) → gathered_at (a + 1) n (first_worked a w) l ≡ gathered_at a (suc n) w l
step_gathered a n w l = by_case (l == a) refl
  where
    here : gathered_at (a + 1) n (first_worked a w) a ≡ gathered_at a (suc n) w a
    here =
        ap (λ b. chosen b ((first_worked a w).lanes a)) (from_behind a n)
        ∙ at_itself w.lanes a (worked_lane (w.lanes a)) ∙ sym (ap (λ b. chosen b (w.lanes a)) (from_itself a n))

    by_case : (is : Bool) → (l == a) ≡ is → gathered_at (a + 1) n (first_worked a w) l ≡ gathered_at a (suc n) w l
    by_case true e =
        subst (λ k. gathered_at (a + 1) n (first_worked a w) k ≡ gathered_at a (suc n) w k) (sym (eqb-true l a e)) here
    by_case false e = ap₂ chosen (from_next a n l e) (elsewhere a l w e)

abbrev answer_of : Lane → Outcome
answer_of x = elim (x.worked == x.sent) [ true ↦ empty | false ↦ done ]

answers : (w : World) (l : ℕ) (x : Lane) → (work w l x).0 ≡ answer_of x
answers w l x = by_case (x.worked == x.sent)
  where
    by_case : (none : Bool) → (work_by w l x none).0 ≡ elim none [ true ↦ empty | false ↦ done ]
    by_case true = refl
    by_case false = refl

module _ (c : Catalog) (s : Settings) where
  all_gathered : (n a : ℕ) (w : World) → run c s (map Work (range_with_len a n)) w ≡ gathered a n w
  unfolding run step_of
  all_gathered zero a w = λ i. record w { lanes = λ l. ap (λ b. chosen b (w.lanes l)) (sym (from_none a l)) i }
  all_gathered (suc n) a w =
      ap (run c s (map Work (range_with_len (a + 1) n))) (works_lane w a)
      ∙ all_gathered n (a + 1) (first_worked a w)
      ∙ (λ i. record w { lanes = λ l. step_gathered a n w l i })

  from_zero : (n l : ℕ) → from 0 n l ≡ nat_lt l n
  from_zero n l = ap (λ b. elim b [ true ↦ false | false ↦ nat_lt l (0 + n) ]) (le-ltb l 0 (omega arith))
      ∙ ap (nat_lt l) (let none : 0 + n ≡ n = omega arith in none)

  all_at_once : (n : ℕ) (w : World) → gathered 0 n w ≡ work_all n w
  all_at_once n w = λ i. record w { lanes = λ l. ap (λ b. chosen b (w.lanes l)) (from_zero n l) i }

  abbrev alone : World → ℕ → Outcome
  alone w l = (step_of c s w (Work l)).0

  alone_is : (w : World) (l : ℕ) → alone w l ≡ answer_of (w.lanes l)
  unfolding step_of
  alone_is w l = answers w l (w.lanes l)

  behind_alone : (n b a : ℕ) (w : World) → a < b
      → map (alone (first_worked a w)) (range_with_len b n) ≡ map (alone w) (range_with_len b n)
  behind_alone zero b a w lt = refl
  behind_alone (suc n) b a w lt =
      ap₂ (λ x xs. x ∷ xs)
      (alone_is (first_worked a w) b ∙ ap answer_of (elsewhere a b w (other b a lt)) ∙ sym (alone_is w b))
      (behind_alone n (b + 1) a w (omega (arith, lt)))
    where
      other : (l m : ℕ) → m < l → (l == m) ≡ false
      other l m lt = elim (eqb_tells l m) [
        | inl t ↦ let same = t.1 in absurd (omega (arith, same, lt))
        | inr t ↦ t.0
      ]

  outcomes_alone : (n a : ℕ) (w : World)
      → outcomes c s (map Work (range_with_len a n)) w ≡ map (alone w) (range_with_len a n)
  unfolding step_of
  outcomes_alone zero a w = refl
  outcomes_alone (suc n) a w =
      ap (λ xs. alone w a ∷ xs)
      (ap (outcomes c s (map Work (range_with_len (a + 1) n))) (works_lane w a)
      ∙ outcomes_alone n (a + 1) (first_worked a w) ∙ behind_alone n (a + 1) a w (omega arith))

pub rounds_at_once : RoundsAreAtOnce
rounds_at_once c s w =
    record {
      world = all_gathered c s s.workers 0 w ∙ all_at_once c s s.workers w;
      answers = outcomes_alone c s s.workers 0 w;
    }
