-- Texts read one after another.
use Rattle.std.proofs.Common.{◌≡◌, ℕ, ◌+◌, ◌<◌, ◌≤◌, suc, List, [], ◌∷◌, ◌++◌, length, get_or, drop, Option, Some, None, option_map, refl, sym, ap, ◌∙◌, arith, append_assoc, drop-cons}
use Rattle.std.proofs.Math.ListN.{drop_of_length-le}
use Rattle.std.proofs.lemmas.List.{append-nil}
use Rattle.rt_value.specs.declared.value.Value.{Value}
use Rattle.rt_value.specs.declared.value.Kind.{Kind}
use Rattle.rt_value.specs.Choice.{◌>>=◌}
use Rattle.rt_value.specs.Reading.{value_in_text}
use Rattle.rt_filter.specs.Tests.{all_read}

-- with values read so far, the texts from i on are left
pub record IsReadUpTo (k : Kind) (texts : List (List ℕ)) (values : List Value) (i : ℕ) : Type 0 where
  pub is : all_read k texts ≡ option_map (λ vs. values ++ vs) (all_read k (drop i texts))

onto_nothing : (o : Option (List Value)) → o ≡ option_map (λ vs. [] ++ vs) o
onto_nothing None = refl
onto_nothing (Some vs) = refl

pub read_none : (k : Kind) (texts : List (List ℕ)) → IsReadUpTo k texts [] 0
read_none k texts = record { is = onto_nothing (all_read k texts) }

at_place : (texts : List (List ℕ)) (i : ℕ) (t : List ℕ) → i < length texts → t ≡ get_or texts i t → drop i texts ≡ t ∷ drop (i + 1) texts
at_place texts i t h e =
    let one : suc i ≡ i + 1 = omega arith in
    drop-cons texts i t h ∙ ap (λ (x : List ℕ). x ∷ drop (suc i) texts) (sym e) ∙ ap (λ (n : ℕ). t ∷ drop n texts) one

onto_more : (values : List Value) (v : Value) (o : Option (List Value))
    → option_map (λ vs. values ++ vs) (option_map (λ vs. v ∷ vs) o) ≡ option_map (λ vs. (values ++ v ∷ []) ++ vs) o
onto_more values v None = refl
onto_more values v (Some vs) = ap Some (sym (append_assoc values (v ∷ []) vs))

pub read_more : (k : Kind) (texts : List (List ℕ)) (values : List Value) (i : ℕ) (t : List ℕ) (v : Value) → IsReadUpTo k texts values i
    → i < length texts → t ≡ get_or texts i t → value_in_text k t ≡ Some v → IsReadUpTo k texts (values ++ v ∷ []) (i + 1)
read_more k texts values i t v w h e r = record {
  is = w.is ∙ ap (λ (l : List (List ℕ)). option_map (λ vs. values ++ vs) (all_read k l)) (at_place texts i t h e)
      ∙ ap (λ (o : Option Value). option_map (λ vs. values ++ vs) (o >>= λ x. option_map (λ vs. x ∷ vs) (all_read k (drop (i + 1) texts)))) r
      ∙ onto_more values v (all_read k (drop (i + 1) texts));
}

pub read_bad : (k : Kind) (texts : List (List ℕ)) (values : List Value) (i : ℕ) (t : List ℕ) → IsReadUpTo k texts values i
    → i < length texts → t ≡ get_or texts i t → value_in_text k t ≡ None → all_read k texts ≡ None
read_bad k texts values i t w h e r =
    w.is ∙ ap (λ (l : List (List ℕ)). option_map (λ vs. values ++ vs) (all_read k l)) (at_place texts i t h e)
    ∙ ap (λ (o : Option Value). option_map (λ vs. values ++ vs) (o >>= λ x. option_map (λ vs. x ∷ vs) (all_read k (drop (i + 1) texts)))) r

pub read_all : (k : Kind) (texts : List (List ℕ)) (values : List Value) (i : ℕ) → IsReadUpTo k texts values i → length texts ≤ i → all_read k texts ≡ Some values
read_all k texts values i w h =
    w.is ∙ ap (λ (l : List (List ℕ)). option_map (λ vs. values ++ vs) (all_read k l)) (drop_of_length-le texts h) ∙ ap Some (append-nil values)
