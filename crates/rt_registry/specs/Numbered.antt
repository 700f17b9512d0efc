-- Values that each have a number, as an ordered map: its entries, each a number and the value with this number.
use Rattle.std.specs.Prelude.{◌≡◌, ℕ, ◌==◌, nat_lt, not, List, ◌∷◌, ◌++◌}
use Rattle.std.specs.List.{AllByRecursion, filter}
use Rattle.std.specs.Ordering.{nat_cmp}
use Rattle.rt_ptree.specs.Entries.{IsRising}

module _ {V : Type 0} (number : V → ℕ) where
  -- each value stands at its number, and the numbers rise strictly
  pub record IsNumbered (es : List (ℕ × V)) : Type 0 where
    pub keyed : AllByRecursion (λ e. e.0 ≡ number e.1) es
    pub rising : IsRising nat_cmp es

  -- the values of lower numbers, the value, those of higher numbers: it takes the place of one with its number
  abbrev pub put_at : V → List V → List V
  put_at v vs = filter (λ w. nat_lt (number w) (number v)) vs ++ v ∷ filter (λ w. nat_lt (number v) (number w)) vs

  -- all but the one with the number
  abbrev pub without : ℕ → List V → List V
  without n vs = filter (λ w. not (number w == n)) vs
