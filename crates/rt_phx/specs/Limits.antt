-- The limits of a socket, and the texts of the reasons that are the channel protocol's own (this project's).
use Rattle.std.specs.Prelude.{ℕ, ◌+◌, nat_le, Bool, List, codes}

-- the most channels of a slot
abbrev pub channel_limit : ℕ
channel_limit = 100

-- how long a socket may say nothing, in milliseconds
abbrev pub idle_limit : ℕ
idle_limit = 60000

-- at a moment, where it was last heard at the other
abbrev pub is_idle_since : ℕ → ℕ → Bool
is_idle_since heard moment = nat_le (heard + idle_limit) moment

-- a join's payload isn't as it has to be
abbrev pub bad_config : List ℕ
bad_config = codes "bad config"

-- a private channel is asked for where none can be, or an open one where all are private
abbrev pub private_channel : List ℕ
private_channel = codes "private channel"

abbrev pub too_many_channels : List ℕ
too_many_channels = codes "too many channels"

-- the topic is none of a channel, or none that is joined
abbrev pub unmatched_topic : List ℕ
unmatched_topic = codes "unmatched topic"

-- the claims of a channel have run out
abbrev pub token_expired : List ℕ
token_expired = codes "token expired"

-- a channel without presence is asked about it
abbrev pub presence_disabled : List ℕ
presence_disabled = codes "presence disabled"

abbrev pub unknown_presence_event : List ℕ
unknown_presence_event = codes "unknown presence event"
