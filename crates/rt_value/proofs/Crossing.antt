-- A list and a value behind `Shared` may be given to a thread, and shared by threads, where their elements may.
use denote.RattleType.{RattleType}
use denote.Param.Send.{IsSend, IsSync, sendable}
use Rattle.std.proofs.Crossing.{crosses}
use Rattle.rt_value.specs.contracts.list.List as List
use Rattle.rt_value.specs.contracts.shared.Shared as Shared

pub List-send : (T : RattleType) → IsSend T → IsSend (List.the_row T)
List-send T s = search (sendable, crosses) depth 20

pub List-sync : (T : RattleType) → IsSync T → IsSync (List.the_row T)
List-sync T s = search (sendable, crosses) depth 20

pub Shared-send : (T : RattleType) → IsSend T → IsSync T → IsSend (Shared.the_row T)
Shared-send T s y = search (sendable, crosses) depth 20

pub Shared-sync : (T : RattleType) → IsSend T → IsSync T → IsSync (Shared.the_row T)
Shared-sync T s y = search (sendable, crosses) depth 20
