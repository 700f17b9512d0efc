-- Values that cells give to a key, one more at a time.
use Rattle.std.proofs.Common.{◌≡◌, ℕ, ◌+◌, ◌<◌, ◌≤◌, List, [], ◌∷◌, ◌++◌, length, get_or, drop, map, Option, Some, None}
use Rattle.std.proofs.Common.{option_map, refl, sym, ap, ◌∙◌, append_assoc}
use Rattle.std.proofs.lemmas.List.{append-nil}
use Rattle.rt_value.specs.declared.value.Value.{Value}
use Rattle.rt_value.specs.Choice.{◌>>=◌}
use Rattle.rt_change.specs.Binding.{given, cell_at, all_given}
use Rattle.rt_bind.proofs.Places.{at_place, past}

-- the values that cells give to a key
abbrev pub key_values : List (Option Value) → List ℕ → Option (List Value)
key_values cells key = all_given (map (cell_at cells) key)

-- values in front of others, where there are others
abbrev pub onto : List Value → Option (List Value) → Option (List Value)
onto values o = option_map (λ vs. values ++ vs) o

-- with values found so far, the key's columns from i on are left
pub record IsGivenUpTo (cells : List (Option Value)) (key : List ℕ) (values : List Value) (i : ℕ) : Type 0 where
  pub is : key_values cells key ≡ onto values (key_values cells (drop i key))

onto_nothing : (o : Option (List Value)) → o ≡ onto [] o
onto_nothing None = refl
onto_nothing (Some vs) = refl

onto_more : (values : List Value) (v : Value) (o : Option (List Value))
    → onto values (option_map (λ vs. v ∷ vs) o) ≡ onto (values ++ v ∷ []) o
onto_more values v None = refl
onto_more values v (Some vs) = ap Some (sym (append_assoc values (v ∷ []) vs))

pub given_none : (cells : List (Option Value)) (key : List ℕ) → IsGivenUpTo cells key [] 0
given_none cells key = record { is = onto_nothing (key_values cells key) }

module _ (cells : List (Option Value)) (key : List ℕ) (values : List Value) (i : ℕ) (n : ℕ) where
  abbrev rest : Option (List Value)
  rest = key_values cells (drop (i + 1) key)

  -- with the value of the column at i
  abbrev with_next : Option Value → Option (List Value)
  with_next o = onto values (o >>= λ x. option_map (λ vs. x ∷ vs) rest)

  next : IsGivenUpTo cells key values i → i < length key → n ≡ get_or key i 0
      → key_values cells key ≡ with_next (given (cell_at cells n))
  next w h e = w.is ∙ ap (λ (l : List ℕ). onto values (key_values cells l)) (at_place key i n 0 h e)

  pub given_more : (v : Value) → IsGivenUpTo cells key values i → i < length key → n ≡ get_or key i 0
      → Some v ≡ given (cell_at cells n) → IsGivenUpTo cells key (values ++ v ∷ []) (i + 1)
  given_more v w h e r = record {
    is = next w h e ∙ ap with_next (sym r) ∙ onto_more values v rest;
  }

  pub given_bad : IsGivenUpTo cells key values i → i < length key → n ≡ get_or key i 0 → None ≡ given (cell_at cells n)
      → all_given (map (cell_at cells) key) ≡ None
  given_bad w h e r = next w h e ∙ ap with_next (sym r)

pub given_all : (cells : List (Option Value)) (key : List ℕ) (values : List Value) (i : ℕ)
    → IsGivenUpTo cells key values i → length key ≤ i → all_given (map (cell_at cells) key) ≡ Some values
given_all cells key values i w h =
    w.is ∙ ap (λ (l : List ℕ). onto values (key_values cells l)) (past key i h) ∙ ap Some (append-nil values)

pub ruleset given_steps = (given_none, given_more, given_bad, given_all)
