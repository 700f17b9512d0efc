use Rattle.rt_examples.proofs.RoomsComputed.{members_see_rooms_holds, room_is_shown_holds}
use Rattle.rt_examples.proofs.rooms.Goals as goal

pub returns : goal.returns
returns c = record { seen = members_see_rooms_holds; shown = room_is_shown_holds }
