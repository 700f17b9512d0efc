-- The messages whose spelling is a frame.
use Rattle.std.specs.Prelude.{◌≤◌, length, IsUtf8}
use Rattle.rt_json.specs.declared.tree.Json.{Json, Null, Num, Text}
use Rattle.rt_json.specs.Fits.{FitsWithin}
use Rattle.rt_json.specs.Text.{IsNumber}
use Rattle.rt_phx.specs.declared.message.Version.{Version}
use Rattle.rt_phx.specs.declared.message.Message.{Message}
use Rattle.rt_phx.specs.declared.message.Posting.{Posting}
use Rattle.rt_phx.specs.Frame.{frame_limit, spelled}

-- null, a text or a number
abbrev pub IsRef : Json → Type 0
IsRef Null = Unit {0}
IsRef (Text t) = IsUtf8 t
IsRef (Num digits) = IsNumber digits
IsRef _ = ⊥

-- A message of a body of JSON: the body nests in 64 levels, so the message's payload in 61.
pub record IsPosted (p : Posting) : Type 0 where
  pub topic : IsUtf8 p.topic
  pub event : IsUtf8 p.event
  pub payload : FitsWithin 61 p.payload

-- The frame is itself one of the 64 levels that lists and objects nest in.
pub record FitsFrame (version : Version) (message : Message) : Type 0 where
  pub short : length (spelled version message) ≤ frame_limit
  pub join_ref : IsRef message.join_ref
  pub reference : IsRef message.reference
  pub topic : IsUtf8 message.topic
  pub event : IsUtf8 message.event
  pub payload : FitsWithin 63 message.payload
