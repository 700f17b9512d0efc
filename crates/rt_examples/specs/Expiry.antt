-- Claims that run out at a tick, and a slot that is idle at the next.
use Rattle.std.specs.Prelude.{◌≡◌, ℕ, List, [], ◌∷◌, codes, Some}
use Rattle.rt_value.specs.declared.claims.Claims.{Claims}
use Rattle.rt_phx.specs.declared.message.Version.TheVariants.{V1}
use Rattle.rt_phx.specs.declared.end.EndName.TheVariants.{Idle}
use Rattle.rt_entry.specs.declared.input.Input.{Input}
use Rattle.rt_entry.specs.declared.input.Input.TheVariants.{Opened, Frame, Tick}
use Rattle.rt_entry.specs.declared.answer.Item.TheVariants.{Message, End}
use Rattle.rt_entry.specs.Answers.{due}
use Rattle.rt_examples.specs.Notes.{notes, settings, authenticated}
use Rattle.rt_examples.specs.Texts.{said, join_for, joined_with, accepted}

abbrev pub for_100_seconds : Claims
for_100_seconds = record authenticated { exp = Some 100 }

abbrev pub join : List ℕ
join = join_for (codes "realtime:t") []

abbrev pub heartbeat : List ℕ
heartbeat = codes "{\"topic\":\"phoenix\",\"event\":\"heartbeat\",\"ref\":\"2\"}"

-- the newest first
abbrev pub journal : List Input
journal = Tick 110000 ∷ Tick 100000 ∷ Frame 0 heartbeat ∷ Tick 50000 ∷ Frame 0 join ∷ Opened 0 V1 for_100_seconds ∷ []

abbrev pub ChannelExpires : Type 0
ChannelExpires =
    due notes settings journal 0 ≡
    joined_with (codes "realtime:t") []
    ∷ accepted (codes "phoenix") (codes "{}") (codes "\"2\"")
    ∷ Message (said (codes "realtime:t") (codes "system")
    (codes "{\"message\":\"token expired\",\"status\":\"error\",\"extension\":\"system\",\"channel\":\"t\"}")
    (codes "null"))
    ∷ Message (said (codes "realtime:t") (codes "phx_close") (codes "{}") (codes "\"1\""))
    ∷ End Idle
    ∷ []
