use Rattle.std.proofs.Common.{◌≡◌, ℕ, List, drop}
use Rattle.std.specs.Str.{bytes_eq}
use Rattle.std.specs.HashMap.{get_by}
use Rattle.std.specs.List.{position_from}
use Rattle.rt_names.proofs.names.Names.new.Given as goal

abbrev pub invariant-loop-place : goal.invariant-loop-place
invariant-loop-place l =
    (q : List ℕ) → get_by (λ k. bytes_eq q k.now) l.places
    ≡ position_from (λ k. bytes_eq q k.now) l.place (drop l.place l.names)
