-- A walk over the entries of a map.
use Rattle.std.specs.Prelude.{◌++◌, List, flat_map, filter, All}
use Rattle.std.specs.declared.alloc.Global.{Global}
use Rattle.std.specs.declared.cmp.Ordering.{Ordering}
use Rattle.std.specs.declared.sync.Arc.{Arc}
use Rattle.std.specs.Ordering.{is_le}
use denote.Ref.{Bor}
use Rattle.rt_ptree.specs.declared.entry.Entry.{Entry}
use Rattle.rt_ptree.specs.declared.node.Node.{Node}
use Rattle.rt_ptree.specs.Parts.{Leaf, Branch, Limb, entry_list, leaf_list, limb_list, node_list, IsFitLeaf, IsFitBranch, IsFitLimb}

-- the entries whose keys are not below k
abbrev pub entries_from : {K V : Type 0} → (K → K → Ordering) → List (K × V) → K → List (K × V)
entries_from cmp es k = filter (λ e. is_le (cmp k e.0)) es

-- an entry that is lent as a pair of references
abbrev pub entry_seen : {K V : Type 0} → Bor K × Bor V → K × V
entry_seen e = (e.0.now, e.1.now)

-- the entries of a list of parts, and of the nodes behind them
abbrev pub level_list : {K C E : Type 0} → (C → List E) → List C → List (Arc (Node K C) Global) → List E
level_list entries parts nodes = flat_map entries parts ++ flat_map (node_list entries) nodes

-- the entries of the leaves that are left of a branch, of the branches behind it in its limb, and of the limbs behind that
abbrev pub behind_list : {K V : Type 0} → List (Leaf K V) → List (Branch K V) → List (Limb K V) → List (K × V)
behind_list leaves branches limbs = level_list leaf_list leaves branches ++ flat_map limb_list limbs

-- the entries that are left: of a leaf, and of what stands behind it
abbrev pub left_list : {K V : Type 0} → List (Entry K V) → List (Leaf K V) → List (Branch K V) → List (Limb K V) → List (K × V)
left_list entries leaves branches limbs = flat_map entry_list entries ++ behind_list leaves branches limbs

-- no list that is still to come is empty
pub record IsFitWalk {K V : Type 0} (leaves : List (Leaf K V)) (branches : List (Branch K V)) (limbs : List (Limb K V)) : Type 0 where
  pub leaf_fits : All IsFitLeaf leaves
  pub branch_fits : All IsFitBranch branches
  pub limb_fits : All IsFitLimb limbs
