use Rattle.std.proofs.Common.{◌≡◌, map}
use Rattle.rt_filter.specs.Written.{trimmed}
use Rattle.rt_filter.proofs.reading.listed.Given as goal

abbrev pub invariant-loop-text : goal.invariant-loop-text
invariant-loop-text l = l.values.items ≡ map trimmed (map (λ x. x.now) l.yielded)
