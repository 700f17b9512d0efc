-- What a socket holds once it took a frame or a tick, and once a join or a renewal that it asked for is answered.
use Rattle.std.specs.Prelude.{ℕ, Bool, true, false, not, if◌then◌else◌, List, [], ◌∷◌, ◌++◌, map, codes, find, Option}
use Rattle.std.specs.Prelude.{Some, None}
use Rattle.std.specs.List.{filter, list_any}
use Rattle.rt_value.specs.declared.claims.Claims.{Claims}
use Rattle.rt_phx.specs.declared.message.Message.{Message}
use Rattle.rt_phx.specs.Frame.{message, no_members}
use Rattle.rt_phx.specs.Joins.{join_ref_of}
use Rattle.rt_channel.specs.declared.answer.Answer.{Answer}
use Rattle.rt_channel.specs.declared.answer.Answer.TheVariants.{Accepted, Renewed, Refused}
use Rattle.rt_channel.specs.declared.effect.Effect.{Effect}
use Rattle.rt_channel.specs.declared.effect.Effect.TheVariants.{Join, Renew, Leave, Close, End}
use Rattle.rt_channel.specs.declared.effect.Wish.{Wish}
use Rattle.rt_channel.specs.declared.held.Held.{Held}
use Rattle.rt_channel.specs.declared.held.Joined.{Joined}
use Rattle.rt_channel.specs.Effects.{is_joined_on, effects_of, tick_effects}

-- without the channel of a topic
abbrev pub without_topic : List ℕ → List Joined → List Joined
without_topic topic js = filter (λ j. not (is_joined_on topic j)) js

-- the channels behind an effect: who leaves or closes is gone
abbrev pub channels_behind : Effect → List Joined → List Joined
channels_behind (Leave topic) js = without_topic topic js
channels_behind (Close topic) js = without_topic topic js
channels_behind _ js = js

-- and behind effects, one after another
abbrev pub channels_after : List Effect → List Joined → List Joined
channels_after [] js = js
channels_after (e ∷ es) js = channels_after es (channels_behind e js)

abbrev pub with_channels : List Joined → Held → Held
with_channels js held = record held { channels = js }

-- it shuts the socket
abbrev pub is_end : Effect → Bool
is_end (End name) = true
is_end _ = false

-- A socket behind its effects, none where one of them shuts it. What it joins or renews isn't answered yet.
abbrev pub held_after : List Effect → Held → Option Held
held_after es held =
    elim (list_any is_end es) [ true ↦ None | false ↦ Some (with_channels (channels_after es held.channels) held) ]

-- behind a tick of this moment
unfoldable pub ticked : ℕ → Held → Option Held
ticked moment held = held_after (tick_effects moment held) held

-- Behind a frame, by the secret, the number of the input in the journal and the moment before it, at which it is heard.
unfoldable pub taken : List ℕ → (number moment : ℕ) → List ℕ → Held → Option Held
taken secret number moment bytes held =
    held_after (effects_of secret number moment held bytes) (record held { heard = moment })

-- it waits for an answer
abbrev pub is_asked : Effect → Bool
is_asked (Join w) = true
is_asked (Renew topic claims) = true
is_asked _ = false

-- the join or the renewal that is to be answered
abbrev pub unanswered : List Effect → Option Effect
unanswered es = find is_asked es

-- a wish as the join that it is of
abbrev pub join_of : Wish → Message
join_of w = message w.join_ref w.reference w.topic (codes "phx_join") no_members

-- the channel that a wish makes
abbrev pub joined_for : Wish → Bool → Option (List ℕ) → Option (List ℕ) → Joined
joined_for w presence send track =
    record {
      topic = w.topic;
      join_ref = join_ref_of (join_of w);
      claims = w.claims;
      ack = w.ack;
      presence = presence;
      send = send;
      track = track;
    }

-- a channel of the topic has other claims
abbrev pub renewed_for : List ℕ → Claims → Option (List ℕ) → Option (List ℕ) → Joined → Joined
renewed_for topic claims send track j =
    if is_joined_on topic j then record j { claims = claims; send = send; track = track } else j

-- what an answer makes of the channels: an accepted join comes behind them, a renewal has its claims, or else the
-- channel is gone
abbrev pub answered_channels : Effect → Answer → List Joined → List Joined
answered_channels (Join w) (Accepted presence send track) js = js ++ joined_for w presence send track ∷ []
answered_channels (Renew topic claims) (Renewed send track) js = map (renewed_for topic claims send track) js
answered_channels (Renew topic claims) Refused js = without_topic topic js
answered_channels _ _ js = js

-- a socket behind an answer to what it asked for
unfoldable pub answered : Effect → Answer → Held → Held
answered e a held = with_channels (answered_channels e a held.channels) held
