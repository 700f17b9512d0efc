-- What a frame and a tick ask for: effects that are done at once, and behind them an end, a wish, or nothing.
use Rattle.std.proofs.Common.{◌≡◌, ℕ, Bool, true, false, List, [], ◌∷◌, ◌++◌, map, Option, Some, None, refl, sym, ap}
use Rattle.std.proofs.Common.{◌∙◌, append_assoc}
use Rattle.std.specs.Prelude.{⊤, if◌then◌else◌, option_to_list, Ok, Err}
use Rattle.std.specs.List.{filter, flat_map}
use Rattle.rt_value.specs.declared.claims.Claims.{Claims}
use Rattle.rt_value.proofs.Plain.{AllOf, all_append, all_flat, all_map}
use Rattle.rt_json.specs.declared.tree.Json.{Json}
use Rattle.rt_phx.specs.declared.message.Message.{Message}
use Rattle.rt_phx.specs.declared.end.EndName.{EndName}
use Rattle.rt_phx.specs.declared.end.EndName.TheVariants as end_name
use Rattle.rt_phx.specs.Checked.{Checked}
use Rattle.rt_phx.specs.Limits.{is_idle_since, token_expired, unmatched_topic, presence_disabled}
use Rattle.rt_phx.specs.Frame.{message_of, no_members}
use Rattle.rt_phx.specs.Says.{reply_ok, reply_error}
use Rattle.rt_phx.specs.Asks.{Ask, leave, renew, track, untrack, unknown_presence, nothing, ask_of, is_heartbeat}
use Rattle.rt_phx.specs.Asks.{is_join, is_channel_topic}
use Rattle.rt_phx.specs.Asks as ask
use Rattle.rt_channel.specs.declared.effect.Effect.{Effect}
use Rattle.rt_channel.specs.declared.effect.Effect.TheVariants.{Say, Join, Renew, Leave, Close, Broadcast, Track}
use Rattle.rt_channel.specs.declared.effect.Effect.TheVariants.{Untrack, End}
use Rattle.rt_channel.specs.declared.effect.Wish.{Wish}
use Rattle.rt_channel.specs.declared.held.Held.{Held}
use Rattle.rt_channel.specs.declared.held.Joined.{Joined}
use Rattle.rt_channel.specs.Effects.{say, say_if, leave_of, close_of, fail, end_effects, tick_effects, has_run_out}
use Rattle.rt_channel.specs.Effects.{effects_of, join_effects, join_result_effects, wished, claims_for, joined_on}
use Rattle.rt_channel.specs.Effects.{renewal_effects, renew_effects, ask_effects, judged_effects, channel_effects}
use Rattle.rt_channel.specs.Effects.{message_effects, is_shut, denied_ask}

-- neither an end, nor a join or a renewal that waits for an answer
abbrev pub AtOnce : Effect → Type 0
AtOnce (Say m) = ⊤
AtOnce (Join w) = ⊥
AtOnce (Renew topic claims) = ⊥
AtOnce (Leave topic) = ⊤
AtOnce (Close topic) = ⊤
AtOnce (Broadcast topic payload) = ⊤
AtOnce (Track topic tree) = ⊤
AtOnce (Untrack topic) = ⊤
AtOnce (End name) = ⊥

abbrev pub IsWish : Effect → Type 0
IsWish (Say m) = ⊥
IsWish (Join w) = ⊤
IsWish (Renew topic claims) = ⊤
IsWish (Leave topic) = ⊥
IsWish (Close topic) = ⊥
IsWish (Broadcast topic payload) = ⊥
IsWish (Track topic tree) = ⊥
IsWish (Untrack topic) = ⊥
IsWish (End name) = ⊥

-- effects of which the last may be such a wish
pub data Form (may : Bool) (es : List Effect) : Type 0 where
  shuts : (front : List Effect) (name : EndName) → AllOf AtOnce front → es ≡ front ++ End name ∷ [] → Form may es
  done : AllOf AtOnce es → Form may es
  waits : (front : List Effect) (w : Effect) → may ≡ true → AllOf AtOnce front → IsWish w → es ≡ front ++ w ∷ []
      → Form may es

by_case : {may : Bool} (b : Bool) (x y : List Effect) → Form may x → Form may y
    → Form may (elim b [ true ↦ x | false ↦ y ])
by_case true x y f g = f
by_case false x y f g = g

by_test : {may : Bool} (b : Bool) (x y : List Effect) → Form may x → Form may y → Form may (if b then x else y)
by_test true x y f g = f
by_test false x y f g = g

longer : (front more es : List Effect) (e : Effect) → es ≡ more ++ e ∷ [] → front ++ es ≡ (front ++ more) ++ e ∷ []
longer front more es e h = ap (λ (xs : List Effect). front ++ xs) h ∙ sym (append_assoc front more (e ∷ []))

behind : {may : Bool} (front es : List Effect) → AllOf AtOnce front → Form may es → Form may (front ++ es)
behind front es a (shuts more name b h) =
    shuts (front ++ more) name (all_append AtOnce front more a b) (longer front more es (End name) h)
behind front es a (done b) = done (all_append AtOnce front es a b)
behind front es a (waits more w may_wait b k h) =
    waits (front ++ more) w may_wait (all_append AtOnce front more a b) k (longer front more es w h)

pub form_end : {may : Bool} (name : EndName) (held : Held) → Form may (end_effects name held)
unfolding end_effects
form_end name held = shuts (map leave_of held.channels) name (all_map AtOnce leave_of held.channels (λ j. tt)) refl

failed : (reason : List ℕ) (j : Joined) → AllOf AtOnce (fail reason j)
failed reason j = (tt, (tt, tt))

pub form_tick : (moment : ℕ) (held : Held) → Form false (tick_effects moment held)
unfolding tick_effects
form_tick moment held =
    let ending = filter (has_run_out moment) held.channels in
    by_case (is_idle_since held.heard moment) (end_effects end_name.Idle held) (flat_map (fail token_expired) ending)
    (form_end end_name.Idle held) (done (all_flat AtOnce (fail token_expired) ending (failed token_expired)))

said_if : (b : Bool) (m : Message) → AllOf AtOnce (say_if b m)
said_if true m = (tt, tt)
said_if false m = tt

form_joined : (m : Message) (r : Checked Wish) → Form true (join_result_effects m r)
form_joined m (Ok w) = waits [] (Join w) refl tt tt refl
form_joined m (Err why) = done (tt, tt)

form_renewal : (j : Joined) (r : Checked Claims) → Form true (renewal_effects j r)
form_renewal j (Ok claims) = waits [] (Renew j.topic claims) refl tt tt refl
form_renewal j (Err why) = done (failed why j)

module _ (secret : List ℕ) (number moment : ℕ) (held : Held) where
  form_join : (m : Message) → Form true (join_effects secret number moment held m)
  form_join m =
      let former = map close_of (option_to_list (joined_on held m.topic)) in
      let result = join_result_effects m (wished secret number moment held m) in
      by_case (is_channel_topic m.topic) (former ++ result) (say (reply_error m.join_ref m unmatched_topic))
      (behind former result (all_map AtOnce close_of (option_to_list (joined_on held m.topic)) (λ j. tt))
      (form_joined m (wished secret number moment held m))) (done (tt, tt))

  form_renew : (j : Joined) (token : Option Json) → Form true (renew_effects secret number moment held j token)
  form_renew j None = done tt
  form_renew j (Some token) = form_renewal j (claims_for secret number moment held (Some token))

  form_ask : (j : Joined) (m : Message) (a : Ask) → Form true (ask_effects secret number moment held j m a)
  form_ask j m leave = done (tt, (tt, tt))
  form_ask j m (renew token) = form_renew j token
  form_ask j m ask.broadcast =
      done (all_append AtOnce (say_if j.ack (reply_ok j.join_ref m no_members)) (Broadcast j.topic m.payload ∷ [])
      (said_if j.ack (reply_ok j.join_ref m no_members)) (tt, tt))
  form_ask j m (track tree) = done (tt, (tt, tt))
  form_ask j m untrack = done (tt, (tt, tt))
  form_ask j m unknown_presence = done (tt, tt)
  form_ask j m nothing = done tt

  form_judged : (j : Joined) (m : Message) (why : Option (List ℕ))
      → Form true (judged_effects secret number moment held j m why)
  form_judged j m None =
      by_case (is_shut j m) (say (reply_error j.join_ref m presence_disabled))
      (ask_effects secret number moment held j m (ask_of m)) (done (tt, tt)) (form_ask j m (ask_of m))
  form_judged j m (Some why) = done (tt, tt)

  form_channel : (m : Message) (r : Option Joined) → Form true (channel_effects secret number moment held m r)
  form_channel m None = done (tt, tt)
  form_channel m (Some j) = form_judged j m (denied_ask j (ask_of m))

  form_message : (m : Option Message) → Form true (message_effects secret number moment held m)
  form_message None = form_end end_name.BadFrame held
  form_message (Some m) =
      let joins = join_effects secret number moment held m in
      let other = channel_effects secret number moment held m (joined_on held m.topic) in
      by_test (is_heartbeat m) (say (reply_ok m.join_ref m no_members)) (if is_join m then joins else other)
      (done (tt, tt)) (by_test (is_join m) joins other (form_join m) (form_channel m (joined_on held m.topic)))

  pub form_frame : (bytes : List ℕ) → Form true (effects_of secret number moment held bytes)
  unfolding effects_of
  form_frame bytes = form_message (message_of held.version bytes)
