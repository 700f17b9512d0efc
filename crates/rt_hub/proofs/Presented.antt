-- A presence that is changed by each part of an input in turn stands for what is present behind it.
use Rattle.std.proofs.Common.{◌≡◌, ℕ, Bool, true, false, ◌||◌, ◌&&◌, not, List, [], ◌∷◌, ◌++◌, map}
use Rattle.std.proofs.Common.{Option, Some, None, refl, sym, ap, subst, ◌∙◌, append-nil}
use Rattle.std.specs.Prelude.{⊤, ◌==◌}
use Rattle.std.specs.List.{filter, list_any}
use Rattle.std.specs.Str.{bytes_eq}
use Rattle.std.proofs.lemmas.Bool.{and_parts, and_from, eqb-true, eq-eqb}
use Rattle.std.proofs.lemmas.List.Concat.{flat_map-append}
use Rattle.std.proofs.lemmas.List.Elements.{filter_map-append}
use Rattle.std.proofs.lemmas.Slice.Eq.{bytes_eq-Decides}
use Rattle.rt_value.proofs.Among.{Among, to_contains, from_contains}
use Rattle.rt_value.proofs.Plain.{AllOf, all_append, all_every, all_filter, all_themselves, all_weaker}
use Rattle.rt_value.proofs.Plain.{filter_alike, filter_all, filter_and, filter_same, Maybe}
use Rattle.rt_value.proofs.Tests.{same_tests}
use Rattle.rt_presence.specs.Tracks.{Tracked, is_of, put, with_track}
use Rattle.rt_presence.specs.Index.{place_of}
use Rattle.rt_presence.proofs.Agree.{or_none}
use Rattle.rt_presence.proofs.Places as places
use Rattle.rt_presence.proofs.Stands.{number_flip}
use Rattle.rt_catalog.specs.declared.catalog.Catalog.{Catalog}
use Rattle.rt_entry.specs.declared.input.Input.{Input}
use Rattle.rt_entry.specs.declared.input.Settings.{Settings}
use Rattle.rt_entry.specs.declared.story.Member.{Member}
use Rattle.rt_entry.specs.declared.story.Track.{Track}
use Rattle.rt_entry.specs.declared.story.Part.{Part}
use Rattle.rt_entry.specs.declared.story.Part.TheVariants.{Opens, Ends, Tells, Joins, Renews, Tracks, Untracks, Departs}
use Rattle.rt_entry.specs.Story.{Story, Now, now_of, has, departed_by, departed_in, tracked_by, is_last}
use Rattle.rt_entry.specs.Story.{standing_tracks, tables_left}
use Rattle.rt_entry.specs.Doings.{doings, story}
use Rattle.rt_entry.specs.Ids.{RiseWithin}
use Rattle.rt_entry.specs.After.{after, found_by, tracks_in, outlasts, tracks_after}
use Rattle.rt_entry.proofs.Shapes.{Plain, Quiet, Shape, IsOfMember, fine_for, plain, joining, tracking, find_some}
use Rattle.rt_entry.proofs.PlainParts.{quiet_tracks, quiet_departs}
use Rattle.rt_entry.proofs.Journals.{shape_next, story_shaped, story_grows, story_length}
use Rattle.rt_entry.proofs.Once.{numbers_apart}
use Rattle.rt_entry.proofs.Ordered.{references_rise, keys_channels}
use Rattle.rt_entry.proofs.Present.{track_once, tracks_members}
use Rattle.rt_entry.proofs.Sound.{Shaped}
use Rattle.rt_hub.specs.Present.{tracked_of, all_put, presence_of, HasOwnTracks, member_numbered}
use Rattle.rt_hub.specs.Present.{without_member, presented_by, presented_after, JournalsHaveOwnTracks, PresenceFollows}
use Rattle.rt_hub.proofs.Put.{filter_all_put, all_put_append}
use Rattle.rt_hub.proofs.Present.{find_kept}

-- behind every journal

module _ (c : Catalog) (s : Settings) where
  pub journals_own_tracks : JournalsHaveOwnTracks c s
  unfolding now_of
  journals_own_tracks journal =
      let now = found_by c s journal in
      let P : ℕ → Type 0 = λ n. RiseWithin 0 (map (λ (t : Track). t.reference) now.tracks) n in
      record {
        rising = subst P (sym (story_length c s journal)) (references_rise c s journal);
        once = track_once c s journal;
        known = λ t a. let m = tracks_members c s journal t a in (m.member, m.known, m.number);
        own = λ t h a b e.
            let m = tracks_members c s journal t a in
            let same : m.member ≡ h = numbers_apart c s journal m.member h m.known b (m.number ∙ sym e) in
            record {
              topic = ap (λ (g : Member). g.channel.topic) (sym same) ∙ m.topic;
              key = keys_channels c s journal t h a b e;
            };
      }

-- it isn't a track
abbrev Trackless : Part → Type 0
Trackless (Opens s o) = ⊤
Trackless (Ends s name) = ⊤
Trackless (Tells s m) = ⊤
Trackless (Joins ch) = ⊤
Trackless (Renews n x) = ⊤
Trackless (Tracks t) = ⊥
Trackless (Untracks n) = ⊤
Trackless (Departs n) = ⊤

trackless_one : (b : Bool) (n : ℕ) (p : Part) → Plain b n p → Trackless p
trackless_one b n (Opens s o) h = tt
trackless_one b n (Ends s name) h = tt
trackless_one b n (Tells s m) h = tt
trackless_one b n (Joins ch) h = tt
trackless_one b n (Renews k x) h = tt
trackless_one b n (Tracks t) h = absurd h
trackless_one b n (Untracks k) h = tt
trackless_one b n (Departs k) h = tt

trackless : (b : Bool) (n : ℕ) (ps : List Part) → AllOf (Plain b n) ps → AllOf Trackless ps
trackless b n ps h = all_weaker (Plain b n) Trackless ps (trackless_one b n) h

none_new : (ps : List Part) → AllOf Trackless ps → standing_tracks (tracks_in ps) ≡ []
none_new [] h = refl
none_new (Opens s o ∷ ps) h = none_new ps h.1
none_new (Ends s name ∷ ps) h = none_new ps h.1
none_new (Tells s m ∷ ps) h = none_new ps h.1
none_new (Joins ch ∷ ps) h = none_new ps h.1
none_new (Renews n x ∷ ps) h = none_new ps h.1
none_new (Tracks t ∷ ps) h = absurd h.0
none_new (Untracks n ∷ ps) h = none_new ps h.1
none_new (Departs n ∷ ps) h = none_new ps h.1

-- what neither untracks nor departs, as a presence has it
abbrev lasting : List Part → Tracked → Bool
lasting ps u = is_last u.0.channel (tracks_in ps) && not (has u.0.channel (departed_in ps))

abbrev away : ℕ → Tracked → Bool
away n u = not (u.0.channel == n)

untracked_first : (a b d : Bool) → (not a && (not b && not d)) ≡ (not (a || b) && not d)
untracked_first true b d = refl
untracked_first false b d = refl

departed_first : (a b d : Bool) → (not a && (not b && not d)) ≡ (not b && not (a || d))
departed_first true true d = refl
departed_first true false d = refl
departed_first false b d = refl

module _ (hs : List Member) where
  -- the member that tracks, as it is found by its number
  pub record IsFound (u : Tracked) : Type 0 where
    member : Member
    found : member_numbered hs u.0.channel ≡ Some member
    topic : member.channel.topic ≡ u.0.topic

  is_numbered : (n : ℕ) → Maybe (λ (h : Member). h.channel.number ≡ n) (member_numbered hs n)
  is_numbered n =
      find_kept (λ (h : Member). h.channel.number == n) (λ (h : Member). ⊤) (λ (h : Member). h.channel.number ≡ n) hs
      (λ h e a. eqb-true h.channel.number n e) (all_every (λ (h : Member). ⊤) hs (λ h. tt))

  -- that channel's track goes, whatever its topic
  away_all : (n : ℕ) (us : List Tracked) → AllOf IsFound us → (o : Option Member) → member_numbered hs n ≡ o
      → Maybe (λ (h : Member). h.channel.number ≡ n) o
      → without_member o us ≡ filter (away n) us
  away_all n us a None e m =
      sym (filter_all (away n) us (all_weaker IsFound (λ (u : Tracked). away n u ≡ true) us (λ u f.
      other u f (u.0.channel == n) refl) a))
    where
      other : (u : Tracked) → IsFound u → (b : Bool) → (u.0.channel == n) ≡ b → not b ≡ true
      other u f true k =
          let bad : None ≡ Some f.member =
          sym e ∙ ap (member_numbered hs) (sym (eqb-true u.0.channel n k)) ∙ f.found in
          absurd (cc)
      other u f false k = refl
  away_all n us a (Some h) e m =
      filter_alike (λ u. not (is_of h.channel.topic h.channel.number u)) (away n) us
      (all_weaker IsFound (λ (u : Tracked). not (is_of h.channel.topic h.channel.number u) ≡ away n u) us (λ u f.
      ap not (same_tests (is_of h.channel.topic h.channel.number u) (u.0.channel == n)
      (λ k.
      let own = (and_parts (bytes_eq u.0.topic h.channel.topic) (u.0.channel == h.channel.number) k).1 in
      eq-eqb u.0.channel n (eqb-true u.0.channel h.channel.number own ∙ m))
      (λ k.
      let is : u.0.channel ≡ n = eqb-true u.0.channel n k in
      let both : Some h ≡ Some f.member = sym e ∙ ap (member_numbered hs) (sym is) ∙ f.found in
      let same : h ≡ f.member = cc in
      let topic : u.0.topic ≡ h.channel.topic = sym f.topic ∙ ap (λ (g : Member). g.channel.topic) (sym same) in
      and_from (bytes_eq u.0.topic h.channel.topic) (u.0.channel == h.channel.number)
      ((bytes_eq-Decides u.0.topic h.channel.topic).1 topic)
      (eq-eqb u.0.channel h.channel.number (is ∙ sym m))))) a)

  goes : (n : ℕ) (us : List Tracked) → AllOf IsFound us → without_member (member_numbered hs n) us ≡ filter (away n) us
  goes n us a = away_all n us a (member_numbered hs n) refl (is_numbered n)

  untracks_then : (n : ℕ) (ps : List Part) (us : List Tracked)
      → filter (lasting ps) (filter (away n) us) ≡ filter (lasting (Untracks n ∷ ps)) us
  untracks_then n ps us =
      sym (filter_and (lasting ps) (away n) us)
      ∙ filter_same (λ u. away n u && lasting ps u) (lasting (Untracks n ∷ ps)) (λ u.
      ap (λ (b : Bool). not b && lasting ps u) (number_flip u.0.channel n)
      ∙ untracked_first (n == u.0.channel) (list_any (λ t. t.0 == u.0.channel) (tracks_in ps))
      (has u.0.channel (departed_in ps))) us

  departs_then : (n : ℕ) (ps : List Part) (us : List Tracked)
      → filter (lasting ps) (filter (away n) us) ≡ filter (lasting (Departs n ∷ ps)) us
  departs_then n ps us =
      sym (filter_and (lasting ps) (away n) us)
      ∙ filter_same (λ u. away n u && lasting ps u) (lasting (Departs n ∷ ps)) (λ u.
      ap (λ (b : Bool). not b && lasting ps u) (number_flip u.0.channel n)
      ∙ departed_first (n == u.0.channel) (list_any (λ t. t.0 == u.0.channel) (tracks_in ps))
      (has u.0.channel (departed_in ps))) us

  -- parts that don't track take away whom they let go
  let_go : (ps : List Part) (us : List Tracked) → AllOf Trackless ps → AllOf IsFound us
      → presented_after hs ps us ≡ filter (lasting ps) us
  let_go [] us h a = sym (filter_all (lasting []) us (all_every (λ (u : Tracked). lasting [] u ≡ true) us (λ u. refl)))
  let_go (Opens s o ∷ ps) us h a = let_go ps us h.1 a
  let_go (Ends s name ∷ ps) us h a = let_go ps us h.1 a
  let_go (Tells s m ∷ ps) us h a = let_go ps us h.1 a
  let_go (Joins ch ∷ ps) us h a = let_go ps us h.1 a
  let_go (Renews n x ∷ ps) us h a = let_go ps us h.1 a
  let_go (Tracks t ∷ ps) us h a = absurd h.0
  let_go (Untracks n ∷ ps) us h a =
      ap (presented_after hs ps) (goes n us a)
      ∙ let_go ps (filter (away n) us) h.1 (all_filter IsFound (away n) us a) ∙ untracks_then n ps us
  let_go (Departs n ∷ ps) us h a =
      ap (presented_after hs ps) (goes n us a)
      ∙ let_go ps (filter (away n) us) h.1 (all_filter IsFound (away n) us a) ∙ departs_then n ps us

  presented_append : (ps qs : List Part) (us : List Tracked)
      → presented_after hs (ps ++ qs) us ≡ presented_after hs qs (presented_after hs ps us)
  presented_append [] qs us = refl
  presented_append (p ∷ ps) qs us = presented_append ps qs (presented_by hs p us)

  quiet_same : (b : Bool) (ps : List Part) (us : List Tracked) → AllOf (Quiet b) ps → presented_after hs ps us ≡ us
  quiet_same b [] us h = refl
  quiet_same b (Opens s o ∷ ps) us h = absurd h.0
  quiet_same b (Ends s name ∷ ps) us h = absurd h.0
  quiet_same b (Tells s m ∷ ps) us h = quiet_same b ps us h.1
  quiet_same b (Joins ch ∷ ps) us h = absurd h.0
  quiet_same b (Renews n x ∷ ps) us h = absurd h.0
  quiet_same b (Tracks t ∷ ps) us h = absurd h.0
  quiet_same b (Untracks n ∷ ps) us h = absurd h.0
  quiet_same b (Departs n ∷ ps) us h = absurd h.0

all_put_of : (D : Tracked → Type 0) (ts : List Track) (us : List Tracked) → AllOf (λ (t : Track). D (tracked_of t)) ts
    → AllOf D us → AllOf D (all_put ts us)
all_put_of D [] us a b = b
all_put_of D (t ∷ ts) us a b =
    let new = tracked_of t in
    all_put_of D ts (put new us) a.1 (places.all_put [] (place_of new.0) D new us a.0 b)

module _ (now : Now) (fine : HasOwnTracks now) where
  abbrev ts : List Track
  ts = now.tracks

  abbrev hs : List Member
  hs = now.members

  found_one : (t : Track) → Among ts t → IsFound hs (tracked_of t)
  found_one t a =
      let known = fine.known t (to_contains ts t a) in
      let by : Member → Bool = λ h. h.channel.number == t.channel in
      let f = find_some by hs known.0 (from_contains hs known.0 known.1)
      (eq-eqb known.0.channel.number t.channel known.2) in
      record {
        member = f.0;
        found = f.1;
        topic = (fine.own t f.0 (to_contains ts t a) (to_contains hs f.0 f.2)
            (eqb-true f.0.channel.number t.channel f.3)).topic;
      }

  all_found : AllOf (IsFound hs) (presence_of ts)
  all_found =
      all_put_of (IsFound hs) ts [] (all_weaker (Among ts) (λ (t : Track). IsFound hs (tracked_of t)) ts found_one
      (all_themselves ts)) tt

  without_tracks : (ps : List Part) → AllOf Trackless ps
      → presence_of (tracks_after ts ps) ≡ presented_after hs ps (presence_of ts)
  without_tracks ps h =
      ap (λ (new : List Track). presence_of (filter (outlasts ps) ts ++ new)) (none_new ps h)
      ∙ ap presence_of (append-nil (filter (outlasts ps) ts))
      ∙ sym (filter_all_put (lasting ps) ts [] tt) ∙ sym (let_go hs ps (presence_of ts) h all_found)

  -- a track in the place of its channel's
  abbrev instead : Track → Track → Bool
  instead t x = not (is_of t.topic t.channel (tracked_of x))

  outlasts_one : (ps : List Part) (t : Track) → tracks_in ps ≡ (t.channel, Some t) ∷ [] → departed_in ps ≡ []
      → IsOfMember now.number hs t
      → AllOf (λ (x : Track). outlasts ps x ≡ instead t x) ts
  outlasts_one ps t e d own =
      all_weaker (Among ts) (λ (x : Track). outlasts ps x ≡ instead t x) ts (λ x a.
      ap (λ (ns : List ℕ). is_last x.channel (tracks_in ps) && not (has x.channel ns)) d
      ∙ ap (λ (later : List (ℕ × Option Track)). is_last x.channel later && true) e
      ∙ and_true (not ((t.channel == x.channel) || false))
      ∙ ap not (or_none (t.channel == x.channel) ∙ number_flip t.channel x.channel
      ∙ same_tests (x.channel == t.channel) (is_of t.topic t.channel (tracked_of x))
      (λ k.
      let is : x.channel ≡ t.channel = eqb-true x.channel t.channel k in
      let topic : own.member.channel.topic ≡ x.topic =
      (fine.own x own.member (to_contains ts x a) (to_contains hs own.member own.here) (own.number ∙ sym is)).topic in
      and_from (bytes_eq x.topic t.topic) (x.channel == t.channel)
      ((bytes_eq-Decides x.topic t.topic).1 (sym topic ∙ own.topic)) k)
      (λ k. (and_parts (bytes_eq x.topic t.topic) (x.channel == t.channel) k).1))) (all_themselves ts)
    where
      and_true : (b : Bool) → (b && true) ≡ b
      and_true true = refl
      and_true false = refl

  with_one : (b : Bool) (front back : List Part) (t : Track) → AllOf (Quiet b) front → AllOf (Quiet b) back
      → IsOfMember now.number hs t
      → presence_of (tracks_after ts (front ++ Tracks t ∷ back))
      ≡ presented_after hs (front ++ Tracks t ∷ back) (presence_of ts)
  with_one b front back t f g own =
      let ps = front ++ Tracks t ∷ back in
      let made : tracks_in ps ≡ (t.channel, Some t) ∷ [] =
      flat_map-append tracked_by front (Tracks t ∷ back)
      ∙ ap (λ (xs : List (ℕ × Option Track)). xs ++ (t.channel, Some t) ∷ tracks_in back) (quiet_tracks b front f)
      ∙ ap (λ (xs : List (ℕ × Option Track)). (t.channel, Some t) ∷ xs) (quiet_tracks b back g) in
      let gone : departed_in ps ≡ [] =
      filter_map-append departed_by front (Tracks t ∷ back)
      ∙ ap (λ (xs : List ℕ). xs ++ departed_in back) (quiet_departs b front f) ∙ quiet_departs b back g in
      let kept = filter (outlasts ps) ts in
      ap (λ (xs : List (ℕ × Option Track)). presence_of (kept ++ standing_tracks xs)) made
      ∙ all_put_append kept (t ∷ []) []
      ∙ ap (λ (us : List Tracked). put (tracked_of t) us)
      (ap presence_of (filter_alike (outlasts ps) (instead t) ts (outlasts_one ps t made gone own))
      ∙ sym (filter_all_put (λ u. not (is_of t.topic t.channel u)) ts [] tt))
      ∙ sym (quiet_same hs b back (with_track (presence_of ts) (tracked_of t)) g)
      ∙ ap (λ (us : List Tracked). presented_after hs (Tracks t ∷ back) us)
      (sym (quiet_same hs b front (presence_of ts) f))
      ∙ sym (presented_append hs front (Tracks t ∷ back) (presence_of ts))

  shape_presents : {ids : ℕ} (b : Bool) (ps : List Part) → Shape b now.number ids hs ps
      → presence_of (tracks_after ts ps) ≡ presented_after hs ps (presence_of ts)
  shape_presents b ps (plain h) = without_tracks ps (trackless b now.number ps h)
  shape_presents b ps (joining front ch back f g k room e) =
      let P : List Part → Type 0 = λ qs. AllOf Trackless qs in
      without_tracks ps (subst P (sym e) (all_append Trackless front (Joins ch ∷ back)
      (trackless b now.number front f) (tt, trackless b now.number back g)))
  shape_presents b ps (tracking front t back f g k lt own e) =
      ap (λ (qs : List Part). presence_of (tracks_after ts qs)) e ∙ with_one b front back t f g own
      ∙ ap (λ (qs : List Part). presented_after hs qs (presence_of ts)) (sym e)

module _ (c : Catalog) (s : Settings) where
  presents_shaped : (st : Story) (i : Input) → Shaped st → HasOwnTracks (now_of st)
      → presence_of (after (now_of st) i (doings c s (now_of st) (tables_left c st i) i)).tracks
      ≡ presented_after (now_of st).members (doings c s (now_of st) (tables_left c st i) i)
      (presence_of (now_of st).tracks)
  unfolding after now_of
  presents_shaped st i h fine =
      shape_presents (now_of st) fine (fine_for i) (doings c s (now_of st) (tables_left c st i) i)
      (shape_next c s st i h)

  pub presence_follows : PresenceFollows c s
  presence_follows journal i =
      ap (λ (now : Now). presence_of now.tracks) (story_grows c s journal i)
      ∙ presents_shaped (story c s journal) i (story_shaped c s journal) (journals_own_tracks c s journal)
