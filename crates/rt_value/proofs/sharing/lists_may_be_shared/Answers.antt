use denote.Param.Send.{sendable}
use Rattle.rt_value.proofs.Crossing.{List-send, List-sync, Shared-send, Shared-sync}
use Rattle.rt_value.proofs.sharing.lists_may_be_shared.Goals as goal

pub returns : goal.returns
returns g c =
    record {
      list = (search (sendable, List-send), search (sendable, List-sync));
      shared = (search (sendable, Shared-send), search (sendable, Shared-sync));
    }
