-- A text is one tree, or has one fault at one place.
use Rattle.std.proofs.Common.{◌≡◌, ℕ, ◌+◌, ◌-◌, ◌<◌, ◌≤◌, ◌⊎◌, inl, inr, List, [], ◌++◌, subst, sym, length, take, drop, arith, append_assoc}
use Rattle.std.proofs.lemmas.List.{take-append-drop, take-take, append-nil}
use Rattle.rt_value.specs.Places.{Begins}
use Rattle.rt_json.specs.Grammar.{IsWithin, IsJson, BeginsValue, IsBadAt, IsTooDeepAt, max_levels}
use Rattle.rt_json.specs.Machine.{Outcome, is_tree, bad, too_deep, outcome, start}
use Rattle.rt_json.specs.Answers.{HasAnswer}
use Rattle.rt_json.specs.declared.tree.Json.{Json}
use Rattle.rt_json.proofs.Meaning.{Means, outcome_means}
use Rattle.rt_json.proofs.ByteTests.{order}

-- a front of what begins a value begins it
front_begins : (levels : ℕ) (xs ys : List ℕ) → Begins (IsWithin levels) (xs ++ ys) → Begins (IsWithin levels) xs
front_begins levels xs ys b = record { more = ys ++ b.more; tree = b.tree; written = subst (IsWithin levels b.tree) (append_assoc xs ys b.more) b.written }

less_begins : (levels : ℕ) (bytes : List ℕ) (m n : ℕ) → m ≤ n → Begins (IsWithin levels) (take n bytes) → Begins (IsWithin levels) (take m bytes)
less_begins levels bytes m n le b =
    let whole : take m (take n bytes) ++ drop m (take n bytes) ≡ take n bytes = take-append-drop m (take n bytes) in
    let front : take m (take n bytes) ≡ take m bytes = take-take m n bytes le in
    subst (Begins (IsWithin levels)) front (front_begins levels (take m (take n bytes)) (drop m (take n bytes)) (subst (Begins (IsWithin levels)) (sym whole) b))

tree_begins : (bytes : List ℕ) (tree : Json) (n : ℕ) → IsJson bytes tree → Begins (IsWithin max_levels) (take n bytes)
tree_begins bytes tree n w =
    let b : Begins (IsWithin max_levels) bytes = record { more = []; tree = tree; written = subst (IsWithin max_levels tree) (sym (append-nil bytes)) w } in
    front_begins max_levels (take n bytes) (drop n bytes) (subst (Begins (IsWithin max_levels)) (sym (take-append-drop n bytes)) b)

no_less : (bytes : List ℕ) (a n : ℕ) → IsBadAt bytes a → Begins (IsWithin max_levels) (take n bytes) → a < n → a < length bytes → ⊥
no_less bytes a n x b lt within = x.stuck within (max_levels, less_begins max_levels bytes (a + 1) n (omega arith) b)

pub bad_once : (bytes : List ℕ) (a b : ℕ) → IsBadAt bytes a → IsBadAt bytes b → a ≡ b
bad_once bytes a b x y = by (order a b) (order b a)
  where
    by : (a < b) ⊎ (b ≤ a) → (b < a) ⊎ (a ≤ b) → a ≡ b
    by (inl lt) _ = let w = y.within in absurd (no_less bytes a b x y.before lt (omega (arith, w)))
    by (inr _) (inl lt) = let w = x.within in absurd (no_less bytes b a y x.before lt (omega (arith, w)))
    by (inr le) (inr ge) = omega arith

deep_less : (bytes : List ℕ) (a n : ℕ) → IsTooDeepAt bytes a → Begins (IsWithin max_levels) (take n bytes) → a < n → ⊥
deep_less bytes a n x b lt = x.deeper (less_begins max_levels bytes (a + 1) n (omega arith) b)

pub deep_once : (bytes : List ℕ) (a b : ℕ) → IsTooDeepAt bytes a → IsTooDeepAt bytes b → a ≡ b
deep_once bytes a b x y = by (order a b) (order b a)
  where
    by : (a < b) ⊎ (b ≤ a) → (b < a) ⊎ (a ≤ b) → a ≡ b
    by (inl lt) _ = absurd (deep_less bytes a b x y.before lt)
    by (inr _) (inl lt) = absurd (deep_less bytes b a y x.before lt)
    by (inr le) (inr ge) = omega arith

pub not_both : (bytes : List ℕ) (a b : ℕ) → IsBadAt bytes a → IsTooDeepAt bytes b → ⊥
not_both bytes a b x y = by (order b a) (order a b)
  where
    by : (b < a) ⊎ (a ≤ b) → (a < b) ⊎ (b ≤ a) → ⊥
    by (inl lt) _ = deep_less bytes b a y x.before lt
    by (inr _) (inl lt) = let w = y.within in no_less bytes a b x y.before lt (omega (arith, w))
    by (inr le) (inr ge) = let is : b ≡ a = omega arith in let w = y.within in x.stuck (omega (arith, w)) (subst (λ (n : ℕ). BeginsValue (take (n + 1) bytes)) is y.begins)

pub bad_tree : (bytes : List ℕ) (a : ℕ) (tree : Json) → IsBadAt bytes a → IsJson bytes tree → ⊥
bad_tree bytes a tree x w = by (order a (length bytes))
  where
    by : (a < length bytes) ⊎ (length bytes ≤ a) → ⊥
    by (inl lt) = x.stuck lt (max_levels, tree_begins bytes tree (a + 1) w)
    by (inr ge) = let in_it = x.within in x.unfinished (omega (arith, in_it)) max_levels tree w

pub deep_tree : (bytes : List ℕ) (a : ℕ) (tree : Json) → IsTooDeepAt bytes a → IsJson bytes tree → ⊥
deep_tree bytes a tree x w = x.deeper (tree_begins bytes tree (a + 1) w)

pub has_answer : (bytes : List ℕ) → HasAnswer bytes
has_answer bytes = by (outcome start bytes) (outcome_means bytes)
  where
    by : (o : Outcome) → Means bytes o → HasAnswer bytes
    by (is_tree t) h = inl (t, h)
    by (bad left) h = inr (inl (length bytes - left, h.1))
    by (too_deep left) h = inr (inr (length bytes - left, h.1))
