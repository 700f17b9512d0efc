-- Paths over steps, and which tables lead to each other by subqueries of policies.
use Rattle.std.specs.Prelude.{◌≡◌, ◌↔◌, ℕ, zero, suc, ◌==◌, ◌<◌, Bool, true, ◌||◌, ◌&&◌, List}
use Rattle.std.specs.List.{list_any}
use Rattle.rt_catalog.specs.Lists.{TablePolicy}

-- over one step or more
pub data Path (steps : ℕ → ℕ → Bool) : ℕ → ℕ → Type 0 where
  straight : {t u : ℕ} → steps t u ≡ true → Path steps t u
  over : {t u v : ℕ} → steps t u ≡ true → Path steps u v → Path steps t v

-- as a function: by numbers below n alone
abbrev pub through : (ℕ → ℕ → Bool) → ℕ → ℕ → ℕ → Bool
through steps zero t u = steps t u
through steps (suc n) t u = through steps n t u || (through steps n t n && through steps n n u)

-- where every step is from a number below n, the two agree
abbrev pub PathsAreComputed : Type 0
PathsAreComputed =
    (steps : ℕ → ℕ → Bool) (n : ℕ) → ((t u : ℕ) → steps t u ≡ true → t < n) → (t u : ℕ) →
    (through steps n t u ≡ true) ↔ Path steps t u

-- a table leads to another where a policy for ALL or SELECT on it has an EXISTS on the other
abbrev pub leads : List TablePolicy → ℕ → ℕ → Bool
leads policies t u =
    list_any (λ p. (p.table == t) && p.policy.selects && list_any (λ r. r.table == u) p.readings) policies

-- the table of a policy for ALL or SELECT leads to itself
pub record IsInRing (policies : List TablePolicy) (p : TablePolicy) : Type 0 where
  pub selects : p.policy.selects ≡ true
  pub path : Path (leads policies) p.table p.table
