-- Moments and JSON columns as they are shown, computed.
use Rattle.std.proofs.Common.{refl}
use Rattle.uuid.specs.Text.{by_index}
use Rattle.rt_change.specs.Binding.{change_of}
use Rattle.rt_examples.specs.Computes.{computes, moment_computes}
use Rattle.rt_examples.specs.Faces.{MomentIsShown, LobbyIsBound, TreesAreShown}

pub moment_is_shown_holds : MomentIsShown
unfolding moment_computes
moment_is_shown_holds = refl

pub lobby_is_bound_holds : LobbyIsBound
unfolding computes moment_computes by_index change_of
lobby_is_bound_holds = refl

pub trees_are_shown_holds : TreesAreShown
unfolding computes
trees_are_shown_holds = refl
