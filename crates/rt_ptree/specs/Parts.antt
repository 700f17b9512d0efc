-- The entries of the parts of a tree, and the bounds of its lists.
use Rattle.std.specs.Prelude.{◌≡◌, ℕ, ◌<◌, ◌≤◌, List, [], ◌∷◌, length, flat_map, All, Option, Some, None, Vec}
use Rattle.std.specs.Arc.{arc_value}
use Rattle.std.specs.declared.alloc.Global.{Global}
use Rattle.std.specs.declared.cmp.Ordering.{Ordering}
use Rattle.std.specs.declared.sync.Arc.{Arc}
use Rattle.rt_ptree.specs.declared.entry.Entry.{Entry}
use Rattle.rt_ptree.specs.declared.node.Node.{Node}
use Rattle.rt_ptree.specs.Entries.{IsRising, least_key}

-- the list of one entry
abbrev pub entry_list : {K V : Type 0} → Entry K V → List (K × V)
entry_list e = (arc_value e.key, arc_value e.value) ∷ []

-- the parts of a shared node
abbrev pub node_parts : {K C : Type 0} → Arc (Node K C) Global → List C
node_parts a = (arc_value a).parts.items

-- the entries of a shared node
abbrev pub node_list : {K C E : Type 0} → (C → List E) → Arc (Node K C) Global → List E
node_list entries a = flat_map entries (node_parts a)

-- a node has at least one part and at most so many, each of them is fit, and the key that stands beside them is the
-- least
pub record IsFitNode {K V C : Type 0} (most : ℕ) (entries : C → List (K × V)) (fit : C → Type 0) (a : Arc (Node K C) Global) : Type 0 where
  pub some : 0 < length (node_parts a)
  pub within : length (node_parts a) ≤ most
  pub fits : All fit (node_parts a)
  pub least : least_key (node_list entries a) ≡ Some (arc_value (arc_value a).least)

-- a leaf: a node of entries
abbrev pub Leaf : Type 0 → Type 0 → Type 0
Leaf K V = Arc (Node K (Entry K V)) Global

abbrev pub leaf_list : {K V : Type 0} → Leaf K V → List (K × V)
leaf_list l = node_list entry_list l

-- a leaf has at most 12 entries
abbrev pub IsFitLeaf : {K V : Type 0} → Leaf K V → Type 0
IsFitLeaf l = IsFitNode 12 entry_list (λ _. Unit {0}) l

-- a branch: a node of leaves
abbrev pub Branch : Type 0 → Type 0 → Type 0
Branch K V = Arc (Node K (Leaf K V)) Global

abbrev pub branch_list : {K V : Type 0} → Branch K V → List (K × V)
branch_list b = node_list leaf_list b

-- a branch has at most 12 leaves
abbrev pub IsFitBranch : {K V : Type 0} → Branch K V → Type 0
IsFitBranch b = IsFitNode 12 leaf_list IsFitLeaf b

-- a limb: a node of branches
abbrev pub Limb : Type 0 → Type 0 → Type 0
Limb K V = Arc (Node K (Branch K V)) Global

abbrev pub limb_list : {K V : Type 0} → Limb K V → List (K × V)
limb_list l = node_list branch_list l

-- a limb has at most 12 branches
abbrev pub IsFitLimb : {K V : Type 0} → Limb K V → Type 0
IsFitLimb l = IsFitNode 12 branch_list IsFitBranch l

-- a list of limbs, or none where a tree is empty
abbrev pub Limbs : Type 0 → Type 0 → Type 0
Limbs K V = Option (Arc (Vec (Limb K V) Global) Global)

-- the entries of a tree
abbrev pub tree_list : {K V : Type 0} → Limbs K V → List (K × V)
tree_list None = []
tree_list (Some a) = flat_map limb_list (arc_value a).items

-- no list of a tree is empty, a limb has at most 12 branches, a branch at most 12 leaves, and a leaf at most 12 entries
abbrev pub IsFitTree : {K V : Type 0} → Limbs K V → Type 0
IsFitTree None = Unit {0}
IsFitTree (Some a) = (0 < length (arc_value a).items) × All IsFitLimb (arc_value a).items

-- what each tree keeps
pub record IsWellFormed {K V : Type 0} (cmp : K → K → Ordering) (limbs : Limbs K V) (len : ℕ) : Type 0 where
  pub bounds : IsFitTree limbs
  pub rising : IsRising cmp (tree_list limbs)
  pub counted : len ≡ length (tree_list limbs)
