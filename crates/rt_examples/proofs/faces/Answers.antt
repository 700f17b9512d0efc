use Rattle.rt_examples.proofs.FacesComputed.{moment_is_shown_holds, lobby_is_bound_holds, trees_are_shown_holds}
use Rattle.rt_examples.proofs.faces.Goals as goal

pub returns : goal.returns
returns c = record { moment = moment_is_shown_holds; bound = lobby_is_bound_holds; shown = trees_are_shown_holds }
