-- The type of a tree as the clauses on what threads share name it.
use denote.RattleType.{RattleType}
use Rattle.std.specs.Prelude.{Bool}
use Rattle.std.specs.declared.cmp.Ordering.{Ordering}
use Rattle.std.specs.declared.option.Option.{Option}
use Rattle.rt_ptree.specs.contracts.tree.Tree.{the_row}

-- what a clause has as `K.Ord`
abbrev pub OrdMembers : Type 0 → Type 0
OrdMembers K = record { partial_cmp : K → K → Option Ordering; eq : K → K → Bool; cmp : K → K → Ordering }

-- the type of a tree with these keys, in this order, and these values
abbrev pub tree_row : (K V : RattleType) → OrdMembers K.Denot → RattleType
tree_row K V g = the_row K V (record { cmp = g.cmp }) (record { eq = g.eq }) (record { partial_cmp = g.partial_cmp })
