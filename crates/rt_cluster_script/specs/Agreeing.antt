-- Nodes that are what a script's lines made them.
use Rattle.std.specs.Prelude.{◌≡◌, ℕ, suc, ◌≤◌, Bool, true, false, List, [], ◌∷◌, Contains, Option, Some, None, ⊤}
use Rattle.rt_cluster.specs.declared.dots.Mark.{Mark}
use Rattle.rt_cluster.specs.declared.dots.Delta.{Delta}
use Rattle.rt_cluster.specs.Operations.{Operation, marks_of, last_number, HasOneTrackADot}
use Rattle.rt_cluster.specs.Standing.{Known, Stands, StandsFor}
use Rattle.rt_cluster_script.specs.declared.nodes.Nodes.{Nodes}
use Rattle.rt_cluster_script.specs.Script.{State, Reads}

-- a replica is the node's that knows these operations: all are among those that were made, and of the node's own tracks
-- it knows the last
pub record Fits (told : List Operation) (node : ℕ) (r : Known) (known : List Operation) : Type 0 where
  pub stands : Stands r known
  pub is_node : r.node ≡ node
  pub kept : (o : Operation) → Contains known o → Contains told o
  pub own : (m : Mark) → Contains (marks_of told) m → m.dot.node ≡ node → m.dot.number ≤ last_number node known

abbrev pub AllFit : List Operation → ℕ → List Known → List (List Operation) → Type 0
AllFit told node [] [] = ⊤
AllFit told node (r ∷ rs) (known ∷ more) = Fits told node r known × AllFit told (suc node) rs more
AllFit told node [] (known ∷ more) = ⊥
AllFit told node (r ∷ rs) [] = ⊥

-- each delta stands for its operation
abbrev pub AllStand : List Delta → List Operation → Type 0
AllStand [] [] = ⊤
AllStand (d ∷ ds) (o ∷ os) = StandsFor d (o ∷ []) × AllStand ds os
AllStand [] (o ∷ os) = ⊥
AllStand (d ∷ ds) [] = ⊥

pub record Agrees (nodes : Nodes) (st : State) : Type 0 where
  pub fit : AllFit st.told 0 nodes.replicas.items st.nodes
  pub stand : AllStand nodes.told.items st.told
  pub one : HasOneTrackADot st.told
  pub shown : nodes.shown.items ≡ st.shown

-- what was taken is there
abbrev pub Led : Nodes → Option State → Bool → Type 0
Led nodes (Some next) true = Agrees nodes next
Led nodes None false = ⊤
Led nodes _ _ = ⊥

abbrev pub Leads : Nodes → Nodes → (State → Option State) → Bool → Type 0
Leads old new after took = (st : State) → Agrees old st → Led new (after st) took

abbrev pub LeadsOn : Nodes → Nodes → List ℕ → Bool → Type 0
LeadsOn old new line took =
    (st : State) → Agrees old st → (next : Option State) × Reads st line next × Led new next took
