-- Laws of paths: they can be closed in place, and without a ring each step leads to a number of lesser rank.
use Rattle.std.specs.Prelude.{◌≡◌, ℕ, suc, ◌<◌, Bool, true, count_by}
use Rattle.std.specs.List.{range_with_len}
use Rattle.rt_catalog.specs.Rings.{Path, through}

-- what leads to the middle, and where it leads, is the same before and after the middle is taken
pub record MiddlesStay : Type 0 where
  pub to : (steps : ℕ → ℕ → Bool) (middle from : ℕ) → through steps (suc middle) from middle ≡ through steps middle from middle
  pub from : (steps : ℕ → ℕ → Bool) (middle to : ℕ) → through steps (suc middle) middle to ≡ through steps middle middle to

-- each step is from a number below n to another
abbrev pub AreBelow : ℕ → (ℕ → ℕ → Bool) → Type 0
AreBelow n steps = (t u : ℕ) → steps t u ≡ true → (t < n) × (u < n)

-- how many numbers below n it leads to
abbrev pub rank : (ℕ → ℕ → Bool) → ℕ → ℕ → ℕ
rank steps n t = count_by (through steps n t) (range_with_len 0 n)

-- a path to a number that leads not to itself goes down
abbrev pub RanksFall : Type 0
RanksFall =
    (steps : ℕ → ℕ → Bool) (n : ℕ) → AreBelow n steps → (t u : ℕ) → Path steps t u → (Path steps u u → ⊥)
    → rank steps n u < rank steps n t
