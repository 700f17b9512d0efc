-- Entries whose keys have one front are neighbours: a walk from the least of them ends at the first that is none.
use Rattle.std.proofs.Common.{◌≡◌, ◌⊎◌, Bool, true, false, cond, List, [], ◌∷◌, ◌++◌, map, refl, sym, ap, subst, ◌∙◌, inl, inr, append_assoc, append-nil}
use Rattle.std.specs.Prelude.{⊤}
use Rattle.std.specs.List.{AllByRecursion, filter}
use Rattle.std.specs.List.Sorted.{IsStrictlySortedBy}
use Rattle.std.specs.Map.{keys_of}
use Rattle.std.specs.Cmp.{IsTotalOrder}
use Rattle.std.specs.Ordering.{ordering_then, is_eq, is_le}
use Rattle.std.specs.declared.cmp.Ordering.{Ordering}
use Rattle.std.specs.declared.cmp.Ordering.TheVariants.{Less, Equal, Greater}
use Rattle.std.proofs.lemmas.Cmp.{alike_right}
use Rattle.rt_ptree.specs.Entries.{IsRising}
use Rattle.rt_ptree.specs.Walk.{entries_from}
use Rattle.rt_value.proofs.Plain.{AllOf, all_filter, all_weaker}

module _ {K : Type 0} (cmp : K → K → Ordering) (front rest : K → K → Ordering) (total : IsTotalOrder front)
    (is : (j k : K) → cmp j k ≡ ordering_then (front j k) (rest j k)) (least : K)
    (is_least : (k : K) → rest least k ≡ Greater → ⊥) where
  below_at : (o p : Ordering) → ordering_then o p ≡ Greater → (p ≡ Greater → ⊥) → is_eq o ≡ false
  below_at Less p h none = refl
  below_at Equal p h none = absurd (none h)
  below_at Greater p h none = refl

  -- what is below the least has another front
  pub below : (k : K) → cmp least k ≡ Greater → is_eq (front least k) ≡ false
  below k h = below_at (front least k) (rest least k) (sym (is least k) ∙ h) (is_least k)

  less_at : (o p : Ordering) → (ordering_then o p ≡ Greater → ⊥) → is_eq o ≡ false → o ≡ Less
  less_at Less p h e = refl
  less_at Equal p h e = absurd (cc)
  less_at Greater p h e = absurd (h refl)

  front_at : (o p : Ordering) → ordering_then o p ≡ Less → (o ≡ Less) ⊎ (o ≡ Equal)
  front_at Less p h = inl refl
  front_at Equal p h = inr refl
  front_at Greater p h = absurd (cc)

  -- and what is above one of another front
  pub over : (j k : K) → (cmp least j ≡ Greater → ⊥) → is_eq (front least j) ≡ false → cmp j k ≡ Less
      → is_eq (front least k) ≡ false
  over j k above e h =
      let first : front least j ≡ Less = less_at (front least j) (rest least j) (λ g. above (is least j ∙ g)) e in
      elim (front_at (front j k) (rest j k) (sym (is j k) ∙ h)) [
        | inl f ↦ ap is_eq (total.trans least j k first f)
        | inr f ↦ ap is_eq (sym (alike_right total j k least f) ∙ first)
      ]

not_greater : (o : Ordering) → is_le o ≡ true → o ≡ Greater → ⊥
not_greater Less h e = cc
not_greater Equal h e = cc
not_greater Greater h e = cc

is_greater : (o : Ordering) → is_le o ≡ false → o ≡ Greater
is_greater Less h = absurd (cc)
is_greater Equal h = absurd (cc)
is_greater Greater h = refl

module _ {K V : Type 0} (cmp : K → K → Ordering) (least : K) where
  abbrev Above : K → List (K × V) → Type 0
  Above k es = AllOf (λ (e : K × V). cmp k e.0 ≡ Less) es

  abbrev pub Goes : List (K × V) → Type 0
  Goes [] = ⊤
  Goes (e ∷ es) = Above e.0 es × Goes es

  -- the entries that are left of a walk rise, and none is below the least
  pub record Ahead (es : List (K × V)) : Type 0 where
    pub goes : Goes es
    pub from : AllOf (λ (e : K × V). cmp least e.0 ≡ Greater → ⊥) es

  above_keys : (k : K) (es : List (K × V)) → AllByRecursion (λ l. cmp k l ≡ Less) (keys_of es) → Above k es
  above_keys k [] a = tt
  above_keys k (e ∷ es) a = (a.0, above_keys k es a.1)

  goes_all : (es : List (K × V)) → IsRising cmp es → Goes es
  unfolding IsStrictlySortedBy
  goes_all [] r = tt
  goes_all (e ∷ es) r = (above_keys e.0 es r.0, goes_all es r.1)

  goes_or : (e : K × V) (es fs : List (K × V)) (b : Bool) → Above e.0 fs → Goes fs → Goes (cond b (e ∷ fs) fs)
  goes_or e es fs true a g = (a, g)
  goes_or e es fs false a g = g

  goes_from : (es : List (K × V)) → Goes es → Goes (entries_from cmp es least)
  goes_from [] g = tt
  goes_from (e ∷ es) g =
      goes_or e es (entries_from cmp es least) (is_le (cmp least e.0))
      (all_filter (λ (f : K × V). cmp e.0 f.0 ≡ Less) (λ f. is_le (cmp least f.0)) es g.0) (goes_from es g.1)

  from_or : (e : K × V) (fs : List (K × V)) (b : Bool) → is_le (cmp least e.0) ≡ b
      → AllOf (λ (f : K × V). cmp least f.0 ≡ Greater → ⊥) fs
      → AllOf (λ (f : K × V). cmp least f.0 ≡ Greater → ⊥) (cond b (e ∷ fs) fs)
  from_or e fs true h a = (not_greater (cmp least e.0) h, a)
  from_or e fs false h a = a

  from_all : (es : List (K × V)) → AllOf (λ (f : K × V). cmp least f.0 ≡ Greater → ⊥) (entries_from cmp es least)
  from_all [] = tt
  from_all (e ∷ es) = from_or e (entries_from cmp es least) (is_le (cmp least e.0)) refl (from_all es)

  pub ahead_from : (es : List (K × V)) → IsRising cmp es → Ahead (entries_from cmp es least)
  ahead_from es r = record { goes = goes_from es (goes_all es r); from = from_all es }

  pub ahead_rest : (e : K × V) (es : List (K × V)) → Ahead (e ∷ es) → Ahead es
  ahead_rest e es a = record { goes = a.goes.1; from = a.from.1 }

module _ {K V : Type 0} (cmp : K → K → Ordering) (least : K) (p : K → Bool)
    (below_least : (k : K) → cmp least k ≡ Greater → p k ≡ false)
    (over_one : (j k : K) → (cmp least j ≡ Greater → ⊥) → p j ≡ false → cmp j k ≡ Less → p k ≡ false) where
  abbrev pub in_block : K × V → Bool
  in_block e = p e.0

  block_or : (e : K × V) (es fs : List (K × V)) (b : Bool) → is_le (cmp least e.0) ≡ b
      → filter in_block fs ≡ filter in_block es → filter in_block (cond b (e ∷ fs) fs) ≡ filter in_block (e ∷ es)
  block_or e es fs true h same = ap (λ gs. cond (p e.0) (e ∷ gs) gs) same
  block_or e es fs false h same =
      same ∙ ap (λ b. cond b (e ∷ filter in_block es) (filter in_block es))
      (sym (below_least e.0 (is_greater (cmp least e.0) h)))

  -- the block is all from the least on
  pub block_from : (es : List (K × V)) → filter in_block (entries_from cmp es least) ≡ filter in_block es
  block_from [] = refl
  block_from (e ∷ es) = block_or e es (entries_from cmp es least) (is_le (cmp least e.0)) refl (block_from es)

  none_in : (es : List (K × V)) → AllOf (λ (f : K × V). p f.0 ≡ false) es → filter in_block es ≡ []
  none_in [] a = refl
  none_in (e ∷ es) a = ap (λ b. cond b (e ∷ filter in_block es) (filter in_block es)) a.0 ∙ none_in es a.1

  -- behind the first that is not in it none is
  pub block_ends : (e : K × V) (es : List (K × V)) → Ahead cmp least (e ∷ es) → p e.0 ≡ false
      → filter in_block (e ∷ es) ≡ []
  block_ends e es a h =
      none_in (e ∷ es) (
        h,
        all_weaker (λ (f : K × V). cmp e.0 f.0 ≡ Less) (λ f. p f.0 ≡ false) es
            (λ f less. over_one e.0 f.0 a.from.0 h less) a.goes.0,
      )

  pub block_goes : (e : K × V) (es : List (K × V)) → p e.0 ≡ true → filter in_block (e ∷ es) ≡ e ∷ filter in_block es
  block_goes e es h = ap (λ b. cond b (e ∷ filter in_block es) (filter in_block es)) h

  -- a walk over the block, which puts something of each entry behind what it has
  module _ {B : Type 0} (f : K × V → B) where
    pub walk_starts : (out : List B) → out ≡ [] → (es left : List (K × V)) → left ≡ entries_from cmp es least
        → out ++ map f (filter in_block left) ≡ map f (filter in_block es)
    walk_starts out none es left is =
        ap (λ ys. ys ++ map f (filter in_block left)) none
        ∙ ap (λ ys. map f (filter in_block ys)) is
        ∙ ap (map f) (block_from es)

    pub walk_goes : (out more : List B) (e : K × V) (behind left : List (K × V)) (all : List B) → left ≡ e ∷ behind
        → p e.0 ≡ true → more ≡ out ++ f e ∷ [] → out ++ map f (filter in_block left) ≡ all
        → more ++ map f (filter in_block behind) ≡ all
    walk_goes out more e behind left all is inside put so_far =
        ap (λ ys. ys ++ map f (filter in_block behind)) put
        ∙ append_assoc out (f e ∷ []) (map f (filter in_block behind))
        ∙ ap (λ ys. out ++ map f ys) (sym (ap (filter in_block) is ∙ block_goes e behind inside))
        ∙ so_far

    pub walk_done : (out : List B) (left : List (K × V)) (all : List B) → filter in_block left ≡ []
        → out ++ map f (filter in_block left) ≡ all → out ≡ all
    walk_done out left all none so_far = sym (append-nil out) ∙ ap (λ ys. out ++ map f ys) (sym none) ∙ so_far

  pub walk_breaks : (e : K × V) (behind left : List (K × V)) → left ≡ e ∷ behind → Ahead cmp least left → p e.0 ≡ false
      → filter in_block left ≡ []
  walk_breaks e behind left is ahead out =
      ap (filter in_block) is
      ∙ block_ends e behind (subst (λ (es : List (K × V)). Ahead cmp least es) is ahead) out
