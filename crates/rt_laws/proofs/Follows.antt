-- What clients hold after an input that is no frame and no stop.
use Rattle.std.proofs.Common.{◌≡◌, ℕ, ◌<◌, Bool, true, false, ◌&&◌, not, List, [], ◌∷◌, ◌++◌, map, Option, Some, None}
use Rattle.std.proofs.Common.{refl, sym, ap, subst, ◌∙◌, append-nil}
use Rattle.std.specs.Prelude.{⊤, ◌^◌, codes, if◌then◌else◌}
use Rattle.std.specs.List.{filter, flat_map, enumerate_from}
use Rattle.std.specs.Str.{bytes_eq}
use Rattle.rt_value.specs.declared.row.Row.{Row}
use Rattle.rt_value.proofs.Among.{Among}
use Rattle.rt_value.proofs.Plain.{AllOf, all_flat, all_every, filter_all, all_map}
use Rattle.rt_value.proofs.Moves.{Moves}
use Rattle.rt_value.specs.declared.claims.Claims.{Claims}
use Rattle.rt_token.specs.Claims.{is_expired}
use Rattle.rt_token.specs.Asked.{seconds_of}
use Rattle.rt_phx.specs.declared.end.EndName.{EndName}
use Rattle.rt_phx.specs.declared.end.EndName.TheVariants as end_name
use Rattle.rt_phx.specs.declared.message.Posting.{Posting}
use Rattle.rt_phx.specs.Posts.{channel_topic, posted_payload}
use Rattle.rt_filter.specs.declared.subscription.Subscription.{Subscription}
use Rattle.rt_presence.specs.Trees.{Held}
use Rattle.rt_catalog.specs.declared.catalog.Catalog.{Catalog}
use Rattle.rt_change.specs.declared.change.Change.{Change}
use Rattle.rt_change.specs.Verdicts.{is_truncate}
use Rattle.rt_entry.specs.declared.input.Input.{Input}
use Rattle.rt_entry.specs.declared.input.Input.TheVariants.{Opened, Frame, Gone, Poll, Tick, Stop, Post}
use Rattle.rt_entry.specs.declared.input.Settings.{Settings}
use Rattle.rt_entry.specs.declared.story.Opening.{Opening}
use Rattle.rt_entry.specs.declared.story.Member.{Member}
use Rattle.rt_entry.specs.declared.story.Track.{Track}
use Rattle.rt_entry.specs.declared.story.Part.{Part}
use Rattle.rt_entry.specs.declared.story.Part.TheVariants.{Opens, Ends}
use Rattle.rt_entry.specs.declared.entry.ChannelView.{ChannelView}
use Rattle.rt_entry.specs.Story.{Now, has, departed_in, is_last, standing_tracks}
use Rattle.rt_entry.specs.Doings.{in_turn, channels_of, opening_in, end_of, end_if_open, fail, open_parts, is_idle}
use Rattle.rt_entry.specs.Doings.{has_run_out, tick_parts, subscriptions, view_of, opening_of, gets, change_parts}
use Rattle.rt_entry.specs.Doings.{change_parts_to, change_parts_to_all, poll_parts, doings, posting_parts, post_parts}
use Rattle.rt_entry.specs.Doings.{may_post, is_on, broadcast_part}
use Rattle.rt_entry.specs.Messages.{shown_meta}
use Rattle.rt_entry.specs.Presence.{client_view}
use Rattle.rt_entry.specs.After.{tracks_after}
use Rattle.rt_laws.specs.Follows.{IsOutside}
use Rattle.rt_entry.proofs.Shapes.{AreApart}
use Rattle.rt_entry.proofs.Unique.{RisingMembers}
use Rattle.rt_entry.proofs.Tracked.{Apart}
use Rattle.rt_laws.proofs.Hears.{hears}
use Rattle.rt_laws.proofs.Turns.{IsMute, Turns, turns_then, turns_mute, turns_each, turns_fail, turns_end, shown_still}

module _ (now : Now) (h : Member) (in_members : Among now.members h) (rises : RisingMembers now.members)
    (apart : AreApart now.members)
    (enabled : h.channel.presence ≡ true)
    (chans : Apart (λ (t : Track). t.channel) now.tracks) (refs : Apart (λ (t : Track). t.reference) now.tracks)
    (small : AllOf (λ (t : Track). t.reference < 2 ^ 64) now.tracks) where
  abbrev pub Turn : List Part → List ℕ → Type 0
  Turn ps gone = Turns now h in_members rises apart enabled chans refs small ps gone

  pub then_turn : (ps qs : List Part) (gone : List ℕ) → Turn ps gone → Turn qs (departed_in ps ++ gone)
      → Turn (ps ++ qs) gone
  then_turn ps qs gone a b = turns_then now h in_members rises apart enabled chans refs small ps qs gone a b

  pub mute_turn : (ps : List Part) (gone : List ℕ) → AllOf IsMute ps → Turn ps gone
  mute_turn ps gone a = turns_mute now h in_members rises apart enabled chans refs small ps gone a

  pub end_turn : (gone : List ℕ) (slot : ℕ) (name : EndName) → Turn (end_of now gone slot name) gone
  end_turn gone slot name = turns_end now h in_members rises apart enabled chans refs small gone slot name

  pub end_if_turn : (slot : ℕ) (name : EndName) (o : Option Opening) → Turn (end_if_open now slot name o) []
  end_if_turn slot name None = mute_turn [] [] tt
  end_if_turn slot name (Some o) = end_turn [] slot name

  open_turn : (slot : ℕ) (o : Opening) → Turn (open_parts now slot o) []
  open_turn slot o =
      let ended = end_if_open now slot end_name.Replaced (opening_in now slot) in
      let rest = Opens slot o ∷ (if now.stopped then Ends slot end_name.Stopped ∷ [] else []) in
      then_turn ended rest [] (end_if_turn slot end_name.Replaced (opening_in now slot))
      (mute_turn rest (departed_in ended ++ []) (
        tt,
        elim now.stopped as
            (λ t. AllOf IsMute (if t then Ends slot end_name.Stopped ∷ [] else [])) [ true ↦ (tt, tt) | false ↦ tt ],
      ))

  tick_turn : (moment : ℕ) (gone : List ℕ) (x : ℕ × Option Opening) → Turn (tick_parts now moment gone x) gone
  tick_turn moment gone (slot, None) = mute_turn [] gone tt
  tick_turn moment gone (slot, Some o) =
      let ended = filter (has_run_out moment) (channels_of now slot) in
      let reason = codes "token expired" in
      elim (is_idle moment o) as (λ t. Turn (elim t [
        | true ↦ end_of now gone slot end_name.Idle
        | false ↦ in_turn
            (fail now reason) gone ended
      ]) gone) [
        | true ↦ end_turn gone slot end_name.Idle
        | false ↦ turns_each now h in_members rises apart enabled chans refs small (fail now reason) (λ g. ⊤)
            (λ x g t. turns_fail now h in_members rises apart enabled chans refs small reason x g) gone ended
            (all_every (λ g. ⊤) ended (λ g. tt))
      ]

  module _ (c : Catalog) (s : Settings) where
    mute_change : (to : ChannelView) (ch : Change) (subs : List Subscription)
        → AllOf IsMute (change_parts c s to ch subs)
    mute_change to ch [] = tt
    mute_change to ch (sub ∷ more) = ((refl, refl), tt)

    mute_changes : (subs : List Subscription) (tables : List (List Row)) (views : List ChannelView) (ch : Change)
        → AllOf IsMute (change_parts_to_all c s subs tables views ch)
    mute_changes subs tables views ch =
        elim (is_truncate ch.verb) as (λ t.
        AllOf IsMute (elim t [ true ↦ [] | false ↦ flat_map (change_parts_to c s subs tables ch) views ])) [
          | true ↦ tt
          | false ↦ all_flat IsMute (change_parts_to c s subs tables ch) views
              (λ to. mute_change to ch (filter (gets c s tables ch to.channel) subs))
        ]

    mute_post : (tables : List (List Row)) (claims : Claims) (ps : List Posting)
        → AllOf IsMute (post_parts c s now tables claims ps)
    mute_post tables claims ps =
        let may = filter (may_post c s now tables claims) ps in
        elim (is_expired (seconds_of now.moment) claims.exp) as
        (λ t. AllOf IsMute (elim t [ true ↦ [] | false ↦ flat_map (posting_parts now) may ])) [
          | true ↦ tt
          | false ↦ all_flat IsMute (posting_parts now) may (λ p. all_map IsMute (broadcast_part (posted_payload p))
              (filter (λ (g : Member). is_on (channel_topic p) g.channel) now.members) (λ g. (refl, refl)))
        ]

    pub outside_turn : (tables : List (List Row)) (i : Input) → IsOutside i → Turn (doings c s now tables i) []
    unfolding doings poll_parts
    outside_turn tables (Opened slot version claims) k = open_turn slot (opening_of now version claims)
    outside_turn tables (Gone slot) k = end_if_turn slot end_name.Gone (opening_in now slot)
    outside_turn tables (Post slot claims ps) k =
        mute_turn (post_parts c s now tables claims ps) [] (mute_post tables claims ps)
    outside_turn tables (Poll changes) k =
        let subs = subscriptions now.members in
        let views = map view_of now.members in
        mute_turn (flat_map (change_parts_to_all c s subs tables views) changes) []
        (all_flat IsMute (change_parts_to_all c s subs tables views) changes (mute_changes subs tables views))
    outside_turn tables (Tick m) k =
        turns_each now h in_members rises apart enabled chans refs small (tick_parts now m) (λ x. ⊤)
        (λ g x t. tick_turn m g x) []
        (enumerate_from 0 now.opens) (all_every (λ x. ⊤) (enumerate_from 0 now.opens) (λ x. tt))
    outside_turn tables (Frame slot bytes) k = absurd k
    outside_turn tables Stop k = absurd k

  abbrev on : Track → Bool
  on t = bytes_eq t.topic h.channel.topic

  -- the tracks behind parts that track nothing
  abbrev pub after_with : List ℕ → List (ℕ × Option Track) → List Track
  after_with ds xs = filter (λ (t : Track). is_last t.channel xs && not (has t.channel ds)) now.tracks
      ++ standing_tracks xs

  pub turn_holds : (ps : List Part) (held : List Held) → Turn ps [] → has h.channel.number (departed_in ps) ≡ false
      → Moves held (map shown_meta (filter on now.tracks))
      → Moves (client_view held (hears h.channel ps)) (map shown_meta (filter on (tracks_after now.tracks ps)))
  turn_holds ps held t stays m =
      let n = h.channel.number in
      let ds = departed_in ps in
      let P : List Held → Type 0 = Moves held in
      let Q : List Held → Type 0 = Moves (client_view held (hears h.channel ps)) in
      let none_gone : filter (λ (u : Track). not (has u.channel [])) now.tracks ≡ now.tracks =
      filter_all (λ (u : Track). not (has u.channel [])) now.tracks
      (all_every (λ (u : Track). not (has u.channel []) ≡ true) now.tracks (λ u. refl)) in
      let first : shown_still now h in_members rises apart enabled chans refs small []
      ≡ map shown_meta (filter on now.tracks) =
      ap (λ (ts : List Track). map shown_meta (filter on ts)) none_gone in
      let last : map shown_meta (filter on (filter (λ (u : Track). not (has u.channel (ds ++ []))) now.tracks))
      ≡ map shown_meta
      (filter on (tracks_after now.tracks ps)) =
      ap (λ (ts : List Track). map shown_meta (filter on ts))
      (ap (λ (xs : List ℕ). filter (λ (u : Track). not (has u.channel xs)) now.tracks) (append-nil ds)
      ∙ sym (append-nil (filter (λ (u : Track). not (has u.channel ds)) now.tracks))
      ∙ ap (after_with ds) (sym t.tracks)) in
      subst Q last (t.holds held (ap (has n) (append-nil ds) ∙ stays) (subst P (sym first) m))
