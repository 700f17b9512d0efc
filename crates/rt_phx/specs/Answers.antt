-- What decoding answers.
use Rattle.std.specs.Prelude.{◌≡◌, List, ℕ, Option, Some, None, Result, Ok, Err}
use Rattle.rt_json.specs.declared.fault.JsonFault.{JsonFault}
use Rattle.rt_json.specs.declared.fault.JsonFault.TheVariants as json
use Rattle.rt_phx.specs.declared.fault.PhxFault.{PhxFault}
use Rattle.rt_phx.specs.declared.fault.PhxFault.TheVariants.{NoMemory, BadFrame}
use Rattle.rt_phx.specs.declared.message.Version.{Version}
use Rattle.rt_phx.specs.declared.message.Message.{Message}
use Rattle.rt_phx.specs.Frame.{IsMessage}

-- a frame that is no JSON is a bad one
abbrev pub fault_of : JsonFault → PhxFault
fault_of (json.Bad at) = BadFrame
fault_of (json.TooDeep at) = BadFrame
fault_of json.NoMemory = NoMemory

-- a bad frame has no message
abbrev pub IsFaultOf : Version → List ℕ → PhxFault → Type 0
IsFaultOf version bytes BadFrame = (message : Message) → IsMessage version bytes message → ⊥
IsFaultOf version bytes NoMemory = Unit {0}

-- it is this message, or a bad frame, unless memory ran out
abbrev pub IsAnswer : Result Message PhxFault → Message → Type 0
IsAnswer (Ok found) message = found ≡ message
IsAnswer (Err NoMemory) message = Unit {0}
IsAnswer (Err BadFrame) message = ⊥

-- it is a bad frame, unless memory ran out
abbrev pub IsBadFrame : Result Message PhxFault → Type 0
IsBadFrame (Ok found) = ⊥
IsBadFrame (Err BadFrame) = Unit {0}
IsBadFrame (Err NoMemory) = Unit {0}

-- it is the message that is computed, and there is none of a bad frame
abbrev pub IsComputed : Option Message → Result Message PhxFault → Type 0
IsComputed computed (Ok message) = computed ≡ Some message
IsComputed computed (Err NoMemory) = Unit {0}
IsComputed computed (Err BadFrame) = computed ≡ None
