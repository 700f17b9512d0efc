-- The presence that stands for what is present shows what the journal says.
use Rattle.std.proofs.Common.{◌≡◌, ℕ, suc, ◌<◌, Bool, true, false, ◌&&◌, not, cond, List, [], ◌∷◌}
use Rattle.std.proofs.Common.{map, Option, Some, None, refl, sym, ap, subst, ◌∙◌, arith, inl, inr}
use Rattle.std.specs.Prelude.{⊤, ◌==◌, codes, find, option_map, option_to_list}
use Rattle.std.specs.List.{filter}
use Rattle.std.specs.Str.{bytes_eq}
use Rattle.std.proofs.lemmas.Bool.{and_parts, and_from, eqb-true}
use Rattle.std.proofs.lemmas.Slice.Eq.{bytes_eq-Decides}
use Rattle.rt_value.proofs.Among.{Among, to_contains, from_contains, among_filter, filter_among}
use Rattle.rt_value.proofs.Plain.{AllOf, all_every, all_filter, all_themselves, all_weaker, and_swap}
use Rattle.rt_value.proofs.Plain.{filter_alike, filter_and, filter_map_swap, filter_same, map_map, map_same, Maybe}
use Rattle.rt_value.proofs.Moves.{Moves, then_to, moves_same, moves_back, moves_map}
use Rattle.rt_value.proofs.Tests.{same_tests}
use Rattle.rt_json.specs.declared.tree.Json.{Json}
use Rattle.rt_json.specs.declared.tree.Json.TheVariants as j
use Rattle.rt_presence.specs.Tracks.{Tracked, is_of, without_channel, joining}
use Rattle.rt_presence.specs.Trees.{Held, held_of, joins_and_leaves, metas_member, metas_of, metas_tree}
use Rattle.rt_presence.specs.Trees.{under_key}
use Rattle.rt_presence.proofs.Agree.{or_none}
use Rattle.rt_presence.proofs.Places.{all_kept}
use Rattle.rt_presence.proofs.Stands.{number_flip}
use Rattle.rt_entry.specs.declared.story.Channel.{Channel}
use Rattle.rt_entry.specs.declared.story.Member.{Member}
use Rattle.rt_entry.specs.declared.story.Track.{Track}
use Rattle.rt_entry.specs.Story.{Now, has}
use Rattle.rt_entry.specs.Messages.{channel_message, meta_tree, presence_state, presence_diff, shown_meta}
use Rattle.rt_entry.specs.Doings.{track_of, track_by, present_on}
use Rattle.rt_entry.specs.Departing.{is_left, is_left_track, left_by}
use Rattle.rt_entry.specs.Ids.{RiseWithin}
use Rattle.rt_entry.proofs.Ordered.{rise_kept}
use Rattle.rt_hub.specs.Present.{tracked_of, all_put, presence_of, HasOwnTracks, state_message}
use Rattle.rt_hub.specs.Present.{difference_message, tracked_by, PresenceShows, OwnTracksStay}
use Rattle.rt_hub.proofs.Put.{filter_all_put, all_put_moves, IsUnder, Rise, in_line_alone}
use Rattle.rt_hub.proofs.Rising.{one_order}

-- the first of a list, and the first that passes
abbrev pub first : {A : Type 0} → List A → Option A
first [] = None
first (x ∷ xs) = Some x

first_at : {A : Type 0} (p : A → Bool) (x : A) (xs : List A) (b : Bool) → find p xs ≡ first (filter p xs)
    → cond b (Some x) (find p xs) ≡ first (cond b (x ∷ filter p xs) (filter p xs))
first_at p x xs true e = refl
first_at p x xs false e = e

pub find_first : {A : Type 0} (p : A → Bool) (xs : List A) → find p xs ≡ first (filter p xs)
find_first p [] = refl
find_first p (x ∷ xs) = first_at p x xs (p x) (find_first p xs)

first_of : {A : Type 0} (B : A → Type 0) (xs : List A) → AllOf B xs → Maybe B (first xs)
first_of B [] a = tt
first_of B (x ∷ xs) a = a.0

-- what is found is of the list, and passes
pub find_kept : {A : Type 0} (p : A → Bool) (B D : A → Type 0) (xs : List A) → ((x : A) → p x ≡ true → B x → D x)
    → AllOf B xs → Maybe D (find p xs)
find_kept {A} p B D xs f a =
    let P : Option A → Type 0 = λ o. Maybe D o in
    subst P (sym (find_first p xs)) (first_of D (filter p xs) (all_kept p B D xs f a))

rise_filter : (p : Track → Bool) (ts : List Track) → Rise ts → Rise (filter p ts)
rise_filter p [] r = tt
rise_filter p (t ∷ ts) r =
    elim (p t) as (λ b. Rise (cond b (t ∷ filter p ts) (filter p ts))) [
      | true ↦ (all_filter (λ (u : Track). t.reference < u.reference) p ts r.0, rise_filter p ts r.1)
      | false ↦ rise_filter p ts r.1
    ]

above_from : (low n high : ℕ) (ts : List Track) → n < low → RiseWithin low (map (λ (t : Track). t.reference) ts) high
    → AllOf (λ (u : Track). n < u.reference) ts
above_from low n high [] lt r = tt
above_from low n high (t ∷ ts) lt r =
    let le = r.0 in (omega arith, above_from (suc t.reference) n high ts (omega arith) r.1)

rise_of : (low high : ℕ) (ts : List Track) → RiseWithin low (map (λ (t : Track). t.reference) ts) high → Rise ts
rise_of low high [] r = tt
rise_of low high (t ∷ ts) r =
    (above_from (suc t.reference) t.reference high ts (omega arith) r.1, rise_of (suc t.reference) high ts r.1)

-- metas in the order of a presence, and in that of their tracks
abbrev key_in : Held → List ℕ
key_in h = h.0

abbrev meta_in : Held → Json
meta_in h = h.1

module _ (topic : List ℕ) (ts : List Track) (on : AllOf (λ (t : Track). t.topic ≡ topic) ts) (rise : Rise ts) where
  abbrev shown : List Held
  shown = map shown_meta ts

  abbrev held : List Held
  held = map held_of (presence_of ts)

  under_one : (key : List ℕ) → under_key held key ≡ under_key shown key
  under_one key =
      let test : Held → Bool = λ h. bytes_eq h.0 key in
      let here : List Track = filter (λ t. bytes_eq t.key key) ts in
      let own : AllOf (IsUnder topic key) here =
      all_kept (λ (t : Track). bytes_eq t.key key) (λ (t : Track). t.topic ≡ topic) (IsUnder topic key) ts
      (λ t e h. (h, (bytes_eq-Decides t.key key).0 e)) on in
      ap (map meta_in) (filter_map_swap test held_of (presence_of ts))
      ∙ ap (λ (us : List Tracked). map meta_in (map held_of us))
      (filter_all_put (λ (u : Tracked). bytes_eq u.0.key key) ts [] tt
      ∙ in_line_alone topic key here own (rise_filter (λ t. bytes_eq t.key key) ts rise))
      ∙ ap (map meta_in) (map_map held_of tracked_of here)
      ∙ ap (map meta_in) (sym (filter_map_swap test shown_meta ts))

  keys_moved : Moves (map key_in held) (map key_in shown)
  keys_moved =
      let made : List Held = map held_of (map tracked_of ts) in
      then_to (map key_in held) (map key_in made) (map key_in shown)
      (moves_back (map key_in made) (map key_in held) (moves_map key_in made held
      (moves_map held_of (map tracked_of ts) (presence_of ts) (all_put_moves ts []))))
      (moves_same (map key_in made) (map key_in shown) (ap (map key_in) (map_map held_of tracked_of ts)))

  metas_one : metas_tree held ≡ metas_tree shown
  metas_one =
      ap (λ (ks : List (List ℕ)). j.Object (map (metas_of held) ks))
      (one_order (map key_in held) (map key_in shown) keys_moved)
      ∙ ap j.Object (map_same (metas_of held) (metas_of shown)
      (λ key. ap (metas_member key) (under_one key)) _)

-- one at most, as a presence has it
lone : (g : List Track) → Rise g → ((t u : Track) → Among g t → Among g u → t ≡ u)
    → first (all_put g []) ≡ option_map tracked_of (first g)
lone [] r same = refl
lone (t ∷ []) r same = refl
lone (t ∷ u ∷ more) r same =
    let lt = r.0.0 in
    let e : t.reference ≡ u.reference = ap (λ (x : Track). x.reference) (same t u (inl refl) (inr (inl refl))) in
    absurd (omega arith)

module _ (now : Now) (fine : HasOwnTracks now) where
  abbrev ts : List Track
  ts = now.tracks

  pub all_rise : Rise ts
  all_rise = rise_of 0 now.number ts fine.rising

  states_one : (gone : List ℕ) (to : Channel)
      → presence_state to (present_on now gone to.topic)
      ≡ state_message to (presence_of (left_by now gone).tracks)
  states_one gone to =
      let on : Track → Bool = λ t. bytes_eq t.topic to.topic in
      let stays : Track → Bool = is_left_track gone in
      let left = filter stays ts in
      let here = filter on left in
      let same : present_on now gone to.topic ≡ here =
      filter_same (λ t. on t && stays t) (λ t. stays t && on t) (λ t. and_swap (on t) (stays t)) ts
      ∙ filter_and on stays ts in
      let topics : AllOf (λ (t : Track). t.topic ≡ to.topic) here =
      all_kept on (λ (t : Track). ⊤) (λ (t : Track). t.topic ≡ to.topic) left
      (λ t e h. (bytes_eq-Decides t.topic to.topic).0 e) (all_every (λ (t : Track). ⊤) left (λ t. tt)) in
      ap (λ (tree : Json). channel_message to (codes "presence_state") tree)
      (ap (λ (us : List Track). metas_tree (map shown_meta us)) same
      ∙ sym (metas_one to.topic here topics (rise_filter on left (rise_filter stays ts all_rise)))
      ∙ ap (λ (us : List Tracked). metas_tree (map held_of us))
      (sym (filter_all_put (λ (u : Tracked). bytes_eq u.0.topic to.topic) left [] tt)))

  -- a member's track is told from the others by its channel alone
  pub alike : (h : Member) → Among now.members h
      → AllOf (λ (t : Track). is_of h.channel.topic h.channel.number (tracked_of t)
      ≡ (t.channel == h.channel.number)) ts
  alike h at =
      let n = h.channel.number in
      let topic = h.channel.topic in
      all_weaker (Among ts) (λ (t : Track). is_of topic n (tracked_of t) ≡ (t.channel == n)) ts
      (λ t a. same_tests (is_of topic n (tracked_of t)) (t.channel == n)
      (λ e. (and_parts (bytes_eq t.topic topic) (t.channel == n) e).1)
      (λ e. and_from (bytes_eq t.topic topic) (t.channel == n)
      ((bytes_eq-Decides t.topic topic).1 (sym (fine.own t h (to_contains ts t a) (to_contains now.members h at)
      (sym (eqb-true t.channel n e))).topic)) e)) (all_themselves ts)

  finds_one : (h : Member) → Among now.members h
      → tracked_by now h.channel ≡ option_map tracked_of (track_of now h.channel.number)
  finds_one h at =
      let n = h.channel.number in
      let own : Tracked → Bool = is_of h.channel.topic n in
      let by : Track → Bool = λ t. t.channel == n in
      let here = filter by ts in
      let same : (t u : Track) → Among here t → Among here u → t ≡ u = λ t u a b.
      let f = among_filter by ts t a in
      let g = among_filter by ts u b in
      fine.once t u (to_contains ts t f.0) (to_contains ts u g.0)
      (eqb-true t.channel n f.1 ∙ sym (eqb-true u.channel n g.1)) in
      find_first own (presence_of ts)
      ∙ ap first (filter_all_put own ts [] tt
      ∙ ap (λ (us : List Track). all_put us []) (filter_alike (λ t. own (tracked_of t)) by ts (alike h at)))
      ∙ lone here (rise_filter by ts all_rise) same ∙ ap (option_map tracked_of) (sym (find_first by ts))

  joined_one : (to : Channel) (t : Track) (former : Option Track) → Maybe (λ (u : Track). t.key ≡ u.key) former
      → presence_diff to (t ∷ []) (option_to_list former)
      ≡ difference_message to (joining (tracked_of t) (option_map tracked_of former))
  joined_one to t None e = refl
  joined_one to t (Some u) e =
      let under : List ℕ → Held = λ key. (key, meta_tree u) in
      ap (λ (key : List ℕ). channel_message to (codes "presence_diff")
      (joins_and_leaves (shown_meta t ∷ []) (under key ∷ []))) (sym e)

  joins_one : (to : Channel) (h : Member) (tree : Json) → Among now.members h
      → presence_diff to (track_by now h.channel tree ∷ []) (option_to_list (track_of now h.channel.number))
      ≡ difference_message to (joining (tracked_of (track_by now h.channel tree)) (tracked_by now h.channel))
  joins_one to h tree at =
      let n = h.channel.number in
      let t = track_by now h.channel tree in
      let keys : Maybe (λ (u : Track). t.key ≡ u.key) (track_of now n) =
      find_kept (λ (u : Track). u.channel == n) (Among ts) (λ (u : Track). t.key ≡ u.key) ts
      (λ u e a. (fine.own u h (to_contains ts u a) (to_contains now.members h at)
      (sym (eqb-true u.channel n e))).key) (all_themselves ts) in
      joined_one to t (track_of now n) keys
      ∙ ap (λ (o : Option Tracked). difference_message to (joining (tracked_of t) o)) (sym (finds_one h at))

  left_test : (n : ℕ) (t : Track) → is_left_track (n ∷ []) t ≡ not (t.channel == n)
  left_test n t = ap not (or_none (n == t.channel) ∙ number_flip n t.channel)

  departs_one : (h : Member) → Among now.members h
      → presence_of (left_by now (h.channel.number ∷ [])).tracks
      ≡ without_channel (presence_of ts) h.channel.topic h.channel.number
  departs_one h at =
      let n = h.channel.number in
      let own : Tracked → Bool = is_of h.channel.topic n in
      ap (λ (us : List Track). all_put us []) (filter_alike (is_left_track (n ∷ [])) (λ t. not (own (tracked_of t))) ts
      (all_weaker (λ (t : Track). own (tracked_of t) ≡ (t.channel == n))
      (λ (t : Track). is_left_track (n ∷ []) t ≡ not (own (tracked_of t))) ts
      (λ t e. left_test n t ∙ ap not (sym e)) (alike h at)))
      ∙ sym (filter_all_put (λ u. not (own u)) ts [] tt)

pub presence_shows : PresenceShows
presence_shows now fine = record {
  states = states_one now fine;
  joins = λ to h tree a. joins_one now fine to h tree (from_contains now.members h a);
  leaves = λ to t. refl;
  finds = λ h a. finds_one now fine h (from_contains now.members h a);
  departs = λ h a. departs_one now fine h (from_contains now.members h a);
}

pub own_tracks_stay : OwnTracksStay
own_tracks_stay now gone fine =
    let ts = now.tracks in
    let hs = now.members in
    let stays : Track → Bool = is_left_track gone in
    let still : Member → Bool = is_left gone in
    let left = filter stays ts in
    let here = filter still hs in
    let old : (t : Track) → Among left t → Among ts t = λ t a. (among_filter stays ts t a).0 in
    record {
      rising = rise_kept stays 0 now.number ts fine.rising;
      once = λ t u a b. fine.once t u (to_contains ts t (old t (from_contains left t a)))
          (to_contains ts u (old u (from_contains left u b)));
      known = λ t a.
          let f = among_filter stays ts t (from_contains left t a) in
          let r = fine.known t (to_contains ts t f.0) in (
            r.0,
            to_contains here r.0 (filter_among still hs r.0 (from_contains hs r.0 r.1)
                (ap (λ (n : ℕ). not (has n gone)) r.2 ∙ f.1)),
            r.2,
          );
      own = λ t h a b. fine.own t h (to_contains ts t (old t (from_contains left t a)))
          (to_contains hs h (among_filter still hs h (from_contains here h b)).0);
    }
