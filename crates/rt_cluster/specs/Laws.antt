-- The laws of the definitions.
use Rattle.std.specs.Prelude.{◌≡◌, ◌↔◌, ◌||◌, ℕ, List, ◌++◌, Contains}
use Rattle.rt_cluster.specs.declared.dots.Dot.{Dot}
use Rattle.rt_cluster.specs.declared.dots.Mark.{Mark}
use Rattle.rt_cluster.specs.declared.dots.Delta.{Delta}
use Rattle.rt_cluster.specs.Operations.{Operation, SameOperations, HasOneTrackADot, is_among}
use Rattle.rt_cluster.specs.Shown.{state_tree, presence}
use Rattle.rt_cluster.specs.Standing.{StandsFor, Known, Stands, IsMerged}

abbrev pub Converges : Type 0
Converges = (some others : List Operation) → SameOperations some others → HasOneTrackADot some
    → (topic : List ℕ) → presence some topic ≡ presence others topic

abbrev pub ReplicasShow : Type 0
ReplicasShow = (replica : Known) (operations : List Operation) → Stands replica operations → HasOneTrackADot operations
    → (topic : List ℕ) → state_tree replica.live topic ≡ presence operations topic

abbrev pub ReplicasAgree : Type 0
ReplicasAgree = (one other : Known) (some others : List Operation) → Stands one some → Stands other others
    → SameOperations some others → HasOneTrackADot some
    → (topic : List ℕ) → state_tree one.live topic ≡ state_tree other.live topic

-- the marks and dots of two deltas, merged, stand for the operations of both
abbrev pub MergeStands : Type 0
MergeStands = (here told merged : Delta) (known said : List Operation) → StandsFor here known → StandsFor told said
    → HasOneTrackADot (said ++ known)
    → ((m : Mark) → Contains merged.live m ↔ IsMerged (Contains here.live) (is_among here.seen) told.live told.seen m)
    → ((d : Dot) → is_among merged.seen d ≡ (is_among here.seen d || is_among told.seen d))
    → StandsFor merged (said ++ known)
