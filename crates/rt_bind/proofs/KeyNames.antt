-- The names of a key's columns, one more at a time.
use Rattle.std.proofs.Common.{◌≡◌, ℕ, ◌+◌, ◌<◌, ◌≤◌, Bool, true, false, ◌&&◌, ◌||◌, List, [], length, get_or, drop}
use Rattle.std.proofs.Common.{Option, Some, None, refl, ap, ◌∙◌}
use Rattle.std.specs.Option.{option_map_or}
use Rattle.std.specs.List.{list_any, list_all, filter_map, cons_option}
use Rattle.rt_value.specs.Choice.{is_at}
use Rattle.rt_bind.proofs.Places.{at_place, past}

any_cons : {A : Type 0} (test : A → Bool) (o : Option A) (xs : List A)
    → list_any test (cons_option o xs) ≡ (is_at test o || list_any test xs)
any_cons test None xs = refl
any_cons test (Some x) xs = refl

all_cons : {A : Type 0} (test : A → Bool) (o : Option A) (xs : List A)
    → list_all test (cons_option o xs) ≡ (option_map_or test o true && list_all test xs)
all_cons test None xs = refl
all_cons test (Some x) xs = refl

module _ {A : Type 0} (test : A → Bool) (name : ℕ → Option A) (key : List ℕ) (i : ℕ) (n : ℕ) (h : i < length key)
    (e : n ≡ get_or key i 0) where
  -- some name from a place on passes, and each does
  abbrev any_from : ℕ → Bool
  any_from j = list_any test (filter_map name (drop j key))

  abbrev all_from : ℕ → Bool
  all_from j = list_all test (filter_map name (drop j key))

  any_next : any_from i ≡ (is_at test (name n) || any_from (i + 1))
  any_next =
      ap (λ (l : List ℕ). list_any test (filter_map name l)) (at_place key i n 0 h e)
      ∙ any_cons test (name n) (filter_map name (drop (i + 1) key))

  pub any_here : is_at test (name n) ≡ true → list_any test (filter_map name (drop i key)) ≡ true
  any_here t = any_next ∙ ap (λ b. b || any_from (i + 1)) t

  pub any_more : is_at test (name n) ≡ false
      → list_any test (filter_map name (drop i key)) ≡ list_any test (filter_map name (drop (i + 1) key))
  any_more t = any_next ∙ ap (λ b. b || any_from (i + 1)) t

  all_next : all_from i ≡ (option_map_or test (name n) true && all_from (i + 1))
  all_next =
      ap (λ (l : List ℕ). list_all test (filter_map name l)) (at_place key i n 0 h e)
      ∙ all_cons test (name n) (filter_map name (drop (i + 1) key))

  pub all_lacks : option_map_or test (name n) true ≡ false → list_all test (filter_map name (drop i key)) ≡ false
  all_lacks t = all_next ∙ ap (λ b. b && all_from (i + 1)) t

  pub all_more : option_map_or test (name n) true ≡ true
      → list_all test (filter_map name (drop i key)) ≡ list_all test (filter_map name (drop (i + 1) key))
  all_more t = all_next ∙ ap (λ b. b && all_from (i + 1)) t

pub none_behind : {A : Type 0} (name : ℕ → Option A) (key : List ℕ) (i : ℕ) → length key ≤ i
    → filter_map name (drop i key) ≡ []
none_behind {A} name key i h = ap (λ (l : List ℕ). filter_map name l) (past key i h)

pub ruleset any_steps = (any_more, any_here, none_behind)

pub ruleset all_steps = (all_more, all_lacks, none_behind)
