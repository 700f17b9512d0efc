-- The first place at which a list can't go on to a phrase, and how a reader step by step goes on.
-- `Written tree xs` says that xs are a phrase, all of them, and that it is read as the tree.
use Rattle.std.specs.Prelude.{ℕ, ◌+◌, ◌<◌, ◌≤◌, List, [], ◌∷◌, ◌++◌, length, take, Option, Some, None}

-- some phrase begins with these elements
pub record Begins {T X : Type 0} (Written : T → List X → Type 0) (xs : List X) : Type 0 where
  pub more : List X
  pub tree : T
  pub written : Written tree (xs ++ more)

-- the element of this number, or the end, is the first that can't go on
pub record IsStuckAt {T X : Type 0} (Written : T → List X → Type 0) (xs : List X) (n : ℕ) : Type 0 where
  pub within : n ≤ length xs
  pub before : Begins Written (take n xs)
  pub stuck : n < length xs → Begins Written (take (n + 1) xs) → ⊥

-- a phrase ends before the element of this number, which can't go on
pub record Ends {T X : Type 0} (Written : T → List X → Type 0) (xs : List X) (n : ℕ) (tree : T) : Type 0 where
  pub stuck : IsStuckAt Written xs n
  pub written : Written tree (take n xs)

-- the element of this number can't go on, and no phrase ends before it
pub record Breaks {T X : Type 0} (Written : T → List X → Type 0) (xs : List X) (n : ℕ) : Type 0 where
  pub stuck : IsStuckAt Written xs n
  pub unfinished : (tree : T) → Written tree (take n xs) → ⊥

-- what a reader answers to an element, or to the end, which is None
pub data Answer (S T : Type 0) : Type 0 where
  next : S → Answer S T
  -- the phrase ends before this element
  ends : T → Answer S T
  stuck : Answer S T

abbrev pub run_on : {S T : Type 0} → (S → Option S) → Answer S T → Option S
run_on more (next s) = more s
run_on more (ends tree) = None
run_on more stuck = None

-- the state behind the elements
abbrev pub run : {X S T : Type 0} → (S → Option X → Answer S T) → List X → S → Option S
run step [] s = Some s
run step (x ∷ xs) s = run_on (run step xs) (step s (Some x))

-- the tree, if the phrase ends here
abbrev pub ended : {S T : Type 0} → Answer S T → Option T
ended (next s) = None
ended (ends tree) = Some tree
ended stuck = None

abbrev pub reads_on : {S T : Type 0} → (S → Option T) → Answer S T → Option T
reads_on more (next s) = more s
reads_on more (ends tree) = None
reads_on more stuck = None

-- the tree of the elements, read from a state on
abbrev pub reads : {X S T : Type 0} → (S → Option X → Answer S T) → List X → S → Option T
reads step [] s = ended (step s None)
reads step (x ∷ xs) s = reads_on (reads step xs) (step s (Some x))
