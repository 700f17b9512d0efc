use Rattle.std.proofs.Common.{◌≡◌, ◌&&◌, ℕ, List, drop}
use Rattle.std.specs.Str.{bytes_eq}
use Rattle.std.specs.List.{position_from}
use Rattle.rt_names.specs.Numbers.{number_in}
use Rattle.rt_names.proofs.numbers.Numbers.new.Given as goal

abbrev pub invariant-loop-number : goal.invariant-loop-number
invariant-loop-number l =
    (s q : List ℕ) → number_in l.numbers s q
    ≡ position_from (λ p. bytes_eq p.0.now s && bytes_eq p.1.now q) l.number (drop l.number l.names)
