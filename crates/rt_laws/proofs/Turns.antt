-- What a member's client holds after parts that let channels depart.
use Rattle.std.proofs.Common.{◌≡◌, ℕ, ◌<◌, Bool, true, false, ◌||◌, ◌&&◌, not, cond, List, [], ◌∷◌, ◌++◌, map, Option}
use Rattle.std.proofs.Common.{Some, None, refl, sym, ap, subst, ◌∙◌, append-nil, inl, inr}
use Rattle.std.specs.Prelude.{⊤, ◌==◌, ◌^◌, codes, find}
use Rattle.std.specs.List.{filter, cons_option}
use Rattle.std.specs.Str.{bytes_eq}
use Rattle.std.proofs.lemmas.Bool.Decides.{eqb_tells}
use Rattle.std.proofs.lemmas.List.Concat.{flat_map-append}
use Rattle.std.proofs.lemmas.List.Elements.{filter_map-append}
use Rattle.std.proofs.lemmas.Slice.Eq.{bytes_eq-Decides}
use Rattle.std.proofs.lemmas.Bool.{eqb-true, or_parts, eq-eqb, ne_eqb}
use Rattle.rt_value.proofs.Among.{Among}
use Rattle.rt_value.proofs.Plain.{AllOf, all_append, all_filter, all_weaker, all_themselves, all_every, all_among}
use Rattle.rt_value.proofs.Plain.{any_append, filter_and, filter_same, filter_alike}
use Rattle.rt_value.proofs.Moves.{Moves, then_to, moves_same}
use Rattle.rt_phx.specs.declared.message.Message.{Message}
use Rattle.rt_phx.specs.declared.end.EndName.{EndName}
use Rattle.rt_presence.specs.Trees.{Held}
use Rattle.rt_presence.specs.Reading.{metas_in, after_difference}
use Rattle.rt_entry.specs.declared.story.Channel.{Channel}
use Rattle.rt_entry.specs.declared.story.Member.{Member}
use Rattle.rt_entry.specs.declared.story.Track.{Track}
use Rattle.rt_entry.specs.declared.story.Part.{Part}
use Rattle.rt_entry.specs.declared.story.Part.TheVariants.{Opens, Ends, Tells, Joins, Renews, Tracks, Untracks, Departs}
use Rattle.rt_entry.specs.Story.{Now, has, departed_by, departed_in, tracked_by}
use Rattle.rt_entry.specs.Messages.{presence_diff, close_message, failed_message, shown_meta}
use Rattle.rt_entry.specs.Doings.{in_turn, channels_of, track_of, watches, diff_to, leave_diffs, depart, end_of, close}
use Rattle.rt_entry.specs.Doings.{fail}
use Rattle.rt_entry.specs.Presence.{client_view, after_message}
use Rattle.rt_entry.specs.After.{tracks_in}
use Rattle.rt_entry.proofs.PlainParts.{none_leave}
use Rattle.rt_laws.specs.Departures.{leave_for}
use Rattle.rt_laws.specs.Views.{leaves_in}
use Rattle.rt_laws.proofs.Metas.{reads_difference}
use Rattle.rt_entry.proofs.Shapes.{AreApart}
use Rattle.rt_entry.proofs.Unique.{RisingMembers}
use Rattle.rt_entry.proofs.Tracked.{Apart}
use Rattle.rt_laws.proofs.Hears.{hears, hears_append, hears_leave}
use Rattle.rt_presence.proofs.Stands.{number_flip}
use Rattle.rt_entry.proofs.Opens.{has_turn}

pub view_append : (held : List Held) (xs ys : List Message)
    → client_view held (xs ++ ys) ≡ client_view (client_view held xs) ys
view_append held [] ys = refl
view_append held (m ∷ xs) ys = view_append (after_message held m) xs ys

-- neither a state nor a difference
abbrev pub Mute : Message → Type 0
Mute m = (bytes_eq m.event (codes "presence_state") ≡ false) × (bytes_eq m.event (codes "presence_diff") ≡ false)

-- it lets nobody depart, tracks nothing, and says nothing of presence
abbrev pub IsMute : Part → Type 0
IsMute (Opens s o) = ⊤
IsMute (Ends s name) = ⊤
IsMute (Tells s m) = Mute m
IsMute (Joins ch) = ⊤
IsMute (Renews m x) = ⊤
IsMute (Tracks t) = ⊥
IsMute (Untracks m) = ⊥
IsMute (Departs m) = ⊥

pub mute_departs : (ps : List Part) → AllOf IsMute ps → departed_in ps ≡ []
mute_departs [] a = refl
mute_departs (Opens s o ∷ ps) a = mute_departs ps a.1
mute_departs (Ends s e ∷ ps) a = mute_departs ps a.1
mute_departs (Tells s m ∷ ps) a = mute_departs ps a.1
mute_departs (Joins c ∷ ps) a = mute_departs ps a.1
mute_departs (Renews k x ∷ ps) a = mute_departs ps a.1
mute_departs (Tracks t ∷ ps) a = absurd a.0
mute_departs (Untracks k ∷ ps) a = absurd a.0
mute_departs (Departs k ∷ ps) a = absurd a.0

pub mute_tracks : (ps : List Part) → AllOf IsMute ps → tracks_in ps ≡ []
mute_tracks [] a = refl
mute_tracks (Opens s o ∷ ps) a = mute_tracks ps a.1
mute_tracks (Ends s e ∷ ps) a = mute_tracks ps a.1
mute_tracks (Tells s m ∷ ps) a = mute_tracks ps a.1
mute_tracks (Joins c ∷ ps) a = mute_tracks ps a.1
mute_tracks (Renews k x ∷ ps) a = mute_tracks ps a.1
mute_tracks (Tracks t ∷ ps) a = absurd a.0
mute_tracks (Untracks k ∷ ps) a = absurd a.0
mute_tracks (Departs k ∷ ps) a = absurd a.0

mute_message : (held : List Held) (m : Message) → Mute m → after_message held m ≡ held
mute_message held m q =
    let rest : List Held = cond (bytes_eq m.event (codes "presence_diff")) (after_difference held m.payload) held in
    ap (λ (b : Bool). cond b (metas_in m.payload) rest) q.0
    ∙ ap (λ (b : Bool). cond b (after_difference held m.payload) held) q.1

mute_or : (held : List Held) (m : Message) (ms : List Message) (b : Bool) → Mute m → client_view held ms ≡ held
    → client_view held (cons_option (elim b as (λ t. Option Message) [ true ↦ Some m | false ↦ None ]) ms) ≡ held
mute_or held m ms true q e = ap (λ (x : List Held). client_view x ms) (mute_message held m q) ∙ e
mute_or held m ms false q e = e

pub mute_view : (ch : Channel) (held : List Held) (ps : List Part) → AllOf IsMute ps
    → client_view held (hears ch ps) ≡ held
mute_view ch held [] a = refl
mute_view ch held (Opens s o ∷ ps) a = mute_view ch held ps a.1
mute_view ch held (Ends s e ∷ ps) a = mute_view ch held ps a.1
mute_view ch held (Tells s m ∷ ps) a =
    mute_or held m (hears ch ps) ((s == ch.slot) && bytes_eq m.topic ch.topic) a.0 (mute_view ch held ps a.1)
mute_view ch held (Joins c ∷ ps) a = mute_view ch held ps a.1
mute_view ch held (Renews k x ∷ ps) a = mute_view ch held ps a.1
mute_view ch held (Tracks t ∷ ps) a = absurd a.0
mute_view ch held (Untracks k ∷ ps) a = absurd a.0
mute_view ch held (Departs k ∷ ps) a = absurd a.0

-- the tracks that a find passes over, or the one that it finds
none_case : (n : ℕ) (t : Track) (ts : List Track) (b : Bool) → (t.channel == n) ≡ b
    → (find (λ (u : Track). u.channel == n) ts ≡ None → AllOf (λ (u : Track). (u.channel == n) ≡ false) ts)
    → cond b (Some t) (find (λ (u : Track). u.channel == n) ts) ≡ None
    → AllOf (λ (u : Track). (u.channel == n) ≡ false) (t ∷ ts)
none_case n t ts true e f g = absurd (cc)
none_case n t ts false e f g = (e, f g)

pub none_found : (n : ℕ) (ts : List Track) → find (λ (t : Track). t.channel == n) ts ≡ None
    → AllOf (λ (t : Track). (t.channel == n) ≡ false) ts
none_found n [] e = tt
none_found n (t ∷ ts) e = none_case n t ts (t.channel == n) refl (none_found n ts) e

one_case : (n : ℕ) (t u : Track) (ts : List Track) (b : Bool) → (t.channel == n) ≡ b
    → (find (λ (x : Track). x.channel == n) ts ≡ Some u → Among ts u × ((u.channel == n) ≡ true))
    → cond b (Some t) (find (λ (x : Track). x.channel == n) ts) ≡ Some u → Among (t ∷ ts) u × ((u.channel == n) ≡ true)
one_case n t u ts true e f g = let same : t ≡ u = cc in (inl same, ap (λ (x : Track). x.channel == n) (sym same) ∙ e)
one_case n t u ts false e f g = let r = f g in (inr r.0, r.1)

pub one_found : (n : ℕ) (ts : List Track) (u : Track) → find (λ (t : Track). t.channel == n) ts ≡ Some u
    → Among ts u × ((u.channel == n) ≡ true)
one_found n [] u e = absurd (cc)
one_found n (t ∷ ts) u e = one_case n t u ts (t.channel == n) refl (one_found n ts u) e

pub no_track_parts : (joins leaves : List Track) (ms : List Member) → tracks_in (map (diff_to joins leaves) ms) ≡ []
no_track_parts joins leaves [] = refl
no_track_parts joins leaves (m ∷ ms) = no_track_parts joins leaves ms

pub none_track : (now : Now) (gone : List ℕ) (o : Option Track) → tracks_in (leave_diffs now gone o) ≡ []
none_track now gone None = refl
none_track now gone (Some t) = no_track_parts [] (t ∷ []) (filter (watches gone t.topic) now.members)

-- the tests of a departure: o whether it is on the topic, b whether its channel has gone, k whether it is of the one
-- that goes
tests_on : (k b o : Bool) → ((not b && o) && not (k || false)) ≡ (not (k || b) && o)
tests_on true true true = refl
tests_on true true false = refl
tests_on true false true = refl
tests_on true false false = refl
tests_on false true true = refl
tests_on false true false = refl
tests_on false false true = refl
tests_on false false false = refl

tests_off : (k b o : Bool) → (k ≡ true → o ≡ false) → (not b && o) ≡ (not (k || b) && o)
tests_off true true o f = refl
tests_off true false true f = f refl
tests_off true false false f = refl
tests_off false b o f = refl

module _ (now : Now) (h : Member) (in_members : Among now.members h) (rises : RisingMembers now.members)
    (apart : AreApart now.members)
    (enabled : h.channel.presence ≡ true)
    (chans : Apart (λ (t : Track). t.channel) now.tracks) (refs : Apart (λ (t : Track). t.reference) now.tracks)
    (small : AllOf (λ (t : Track). t.reference < 2 ^ 64) now.tracks) where
  abbrev on : Track → Bool
  on t = bytes_eq t.topic h.channel.topic

  abbrev left : List ℕ → Track → Bool
  left gone t = not (has t.channel gone)

  -- the tracks on the topic of those who haven't departed
  abbrev still : List ℕ → List Track
  still gone = filter on (filter (left gone) now.tracks)

  abbrev pub shown_still : List ℕ → List Held
  shown_still gone = map shown_meta (still gone)

  still_is : (gone : List ℕ) → still gone ≡ filter (λ t. left gone t && on t) now.tracks
  still_is gone = sym (filter_and on (left gone) now.tracks)

  still_same : (xs ys : List ℕ) → ((n : ℕ) → has n xs ≡ has n ys) → still xs ≡ still ys
  still_same xs ys e = ap (filter on) (filter_same (left xs) (left ys) (λ t. ap not (e t.channel)) now.tracks)

  -- what parts make of what the client holds
  pub record Turns (ps : List Part) (gone : List ℕ) : Type 0 where
    pub tracks : tracks_in ps ≡ []
    pub holds : (held : List Held) → has h.channel.number (departed_in ps ++ gone) ≡ false
        → Moves held (shown_still gone)
        → Moves (client_view held (hears h.channel ps)) (shown_still (departed_in ps ++ gone))

  pub turns_then : (ps qs : List Part) (gone : List ℕ) → Turns ps gone → Turns qs (departed_in ps ++ gone)
      → Turns (ps ++ qs) gone
  turns_then ps qs gone a b =
      let dp = departed_in ps in
      let dq = departed_in qs in
      let ds : departed_in (ps ++ qs) ≡ dp ++ dq = filter_map-append departed_by ps qs in
      record {
        tracks = flat_map-append tracked_by ps qs ∙ ap (λ xs. xs ++ tracks_in qs) a.tracks ∙ b.tracks;
        holds = λ held stays m.
            let n = h.channel.number in
            let stays_on : has n (dq ++ (dp ++ gone)) ≡ false =
            sym (ap (λ (xs : List ℕ). has n (xs ++ gone)) ds ∙ has_turn n dp dq gone) ∙ stays in
            let before : has n (dp ++ gone) ≡ false =
            (or_parts (has n dq) (has n (dp ++ gone)) (sym (any_append (λ j. j == n) dq (dp ++ gone)) ∙ stays_on)).1 in
            let mid = client_view held (hears h.channel ps) in
            let all = client_view held (hears h.channel (ps ++ qs)) in
            let is : all ≡ client_view mid (hears h.channel qs) =
            ap (client_view held) (hears_append h.channel ps qs)
            ∙ view_append held (hears h.channel ps) (hears h.channel qs) in
            let last : shown_still (dq ++ (dp ++ gone)) ≡ shown_still (departed_in (ps ++ qs) ++ gone) =
            ap (map shown_meta) (still_same (dq ++ (dp ++ gone)) (departed_in (ps ++ qs) ++ gone)
            (λ j. sym (ap (λ (xs : List ℕ). has j (xs ++ gone)) ds ∙ has_turn j dp dq gone))) in
            then_to all (client_view mid (hears h.channel qs)) (shown_still (departed_in (ps ++ qs) ++ gone))
            (moves_same all (client_view mid (hears h.channel qs)) is)
            (then_to (client_view mid (hears h.channel qs)) (shown_still (dq ++ (dp ++ gone)))
            (shown_still (departed_in (ps ++ qs) ++ gone))
            (b.holds mid stays_on (a.holds held before m)) (moves_same (shown_still (dq ++ (dp ++ gone)))
            (shown_still (departed_in (ps ++ qs) ++ gone)) last));
      }

  pub turns_mute : (ps : List Part) (gone : List ℕ) → AllOf IsMute ps → Turns ps gone
  turns_mute ps gone a = record {
    tracks = mute_tracks ps a;
    holds = λ held stays m.
        let P : List Held → Type 0 = λ x. Moves x (shown_still gone) in
        let Q : List ℕ → Type 0 = λ ds. Moves (client_view held (hears h.channel ps)) (shown_still (ds ++ gone)) in
        subst Q (sym (mute_departs ps a)) (subst P (sym (mute_view h.channel held ps a)) m);
  }

  pub turns_each : {A : Type 0} (act : List ℕ → A → List Part) (B : A → Type 0)
      → ((gone : List ℕ) (x : A) → B x → Turns (act gone x) gone)
      → (gone : List ℕ) (xs : List A) → AllOf B xs → Turns (in_turn act gone xs) gone
  turns_each act B f gone [] a = record { tracks = refl; holds = λ held stays m. m }
  turns_each act B f gone (x ∷ xs) a =
      let next = departed_in (act gone x) ++ gone in
      turns_then (act gone x) (in_turn act next xs) gone (f gone x a.0) (turns_each act B f next xs a.1)

  -- a channel departs

  pub of_one : (n : ℕ) (t x : Track) → Among now.tracks t → Among now.tracks x → t.channel ≡ n
      → (t.reference == x.reference) ≡ (n == x.channel)
  of_one n t x a b e = elim (eqb_tells n x.channel) [
    | inl k ↦ eq-eqb t.reference x.reference (ap (λ (u : Track). u.reference) (chans t x a b (e ∙ k.1))) ∙ sym k.0
    | inr k ↦ ne_eqb t.reference x.reference (λ r. k.1 (sym e ∙ ap (λ (u : Track). u.channel) (refs t x a b r)))
        ∙ sym k.0
  ]

  leave_none : (gone : List ℕ) (n : ℕ) → track_of now n ≡ None → shown_still gone ≡ shown_still (n ∷ gone)
  leave_none gone n e =
      let other : AllOf (λ (t : Track). (t.channel == n) ≡ false) now.tracks = none_found n now.tracks e in
      ap (map shown_meta) (ap (filter on) (filter_alike (left gone) (left (n ∷ gone)) now.tracks
      (all_weaker (λ (t : Track). (t.channel == n) ≡ false) (λ (t : Track). left gone t ≡ left (n ∷ gone) t) now.tracks
      (λ t f. ap (λ (b : Bool). not (b || has t.channel gone)) (sym (number_flip n t.channel ∙ f))) other)))

  leave_on : (gone : List ℕ) (n : ℕ) (t : Track) (held : List Held) → Among now.tracks t → t.channel ≡ n
      → Moves held (shown_still gone)
      → Moves (after_message held (presence_diff h.channel [] (t ∷ []))) (shown_still (n ∷ gone))
  leave_on gone n t held a e m =
      let fits : t.reference < 2 ^ 64 = all_among (λ (u : Track). u.reference < 2 ^ 64) now.tracks t small a in
      let few : AllOf (λ (u : Track). u.reference < 2 ^ 64) (still gone) =
      all_filter (λ (u : Track). u.reference < 2 ^ 64) on (filter (left gone) now.tracks)
      (all_filter (λ (u : Track). u.reference < 2 ^ 64) (left gone) now.tracks small) in
      let q : Track → Bool = λ u. not (leaves_in (t ∷ []) u) in
      let done = after_message held (presence_diff h.channel [] (t ∷ [])) in
      let same : filter q (still gone ++ []) ≡ still (n ∷ gone) =
      ap (filter q) (append-nil (still gone) ∙ still_is gone) ∙ sym (filter_and q (λ u. left gone u && on u) now.tracks)
      ∙ filter_alike (λ u. (left gone u && on u) && q u) (λ u. left (n ∷ gone) u && on u) now.tracks
      (all_weaker (Among now.tracks) (λ (u : Track). ((left gone u && on u) && q u) ≡ (left (n ∷ gone) u && on u))
      now.tracks
      (λ u b. ap (λ (k : Bool). (left gone u && on u) && not (k || false)) (of_one n t u a b e)
      ∙ tests_on (n == u.channel) (has u.channel gone) (on u)) (all_themselves now.tracks))
      ∙ sym (still_is (n ∷ gone)) in
      then_to done (map shown_meta (filter q (still gone ++ []))) (shown_still (n ∷ gone))
      (reads_difference h.channel held (still gone) [] (t ∷ []) (fits, tt)
      (all_append (λ (u : Track). u.reference < 2 ^ 64) (still gone) [] few tt) m)
      (moves_same (map shown_meta (filter q (still gone ++ []))) (shown_still (n ∷ gone)) (ap (map shown_meta) same))

  leave_off : (gone : List ℕ) (n : ℕ) (t : Track) → Among now.tracks t → t.channel ≡ n → on t ≡ false
      → shown_still gone ≡ shown_still (n ∷ gone)
  leave_off gone n t a e off =
      ap (map shown_meta) (still_is gone
      ∙ filter_alike (λ u. left gone u && on u) (λ u. left (n ∷ gone) u && on u) now.tracks
      (all_weaker (Among now.tracks) (λ (u : Track). (left gone u && on u) ≡ (left (n ∷ gone) u && on u)) now.tracks
      (λ u b. tests_off (n == u.channel) (has u.channel gone) (on u)
      (λ k. ap on (sym (chans t u a b (e ∙ eqb-true n u.channel k))) ∙ off))
      (all_themselves now.tracks))
      ∙ sym (still_is (n ∷ gone)))

  pub on_turn : (t : Track) (b : Bool) → bytes_eq h.channel.topic t.topic ≡ b → on t ≡ b
  on_turn t true e = (bytes_eq-Decides t.topic h.channel.topic).1 (sym ((bytes_eq-Decides h.channel.topic t.topic).0 e))
  on_turn t false e = off_of (on t) refl where
    off_of : (x : Bool) → on t ≡ x → on t ≡ false
    off_of true f = absurd (let k : true ≡ false = sym ((bytes_eq-Decides h.channel.topic t.topic).1
        (sym ((bytes_eq-Decides t.topic h.channel.topic).0 f))) ∙ e in cc)
    off_of false f = f

  leave_case : (gone : List ℕ) (n : ℕ) (t : Track) (held : List Held) (b : Bool) → bytes_eq h.channel.topic t.topic ≡ b
      → Among now.tracks t
      → t.channel ≡ n → Moves held (shown_still gone)
      → Moves (client_view held (elim b as (λ x. List Message) [
        | true ↦ presence_diff h.channel [] (t ∷ []) ∷ []
        | false ↦ []
      ]))
      (shown_still (n ∷ gone))
  leave_case gone n t held true k a e m = leave_on gone n t held a e m
  leave_case gone n t held false k a e m = let P : List Held → Type 0 = Moves held in
      subst P (leave_off gone n t a e (on_turn t false k)) m

  pub leave_view : (gone : List ℕ) (n : ℕ) (o : Option Track) (held : List Held) → track_of now n ≡ o
      → Moves held (shown_still gone)
      → Moves (client_view held (leave_for h.channel o)) (shown_still (n ∷ gone))
  leave_view gone n None held e m = let P : List Held → Type 0 = Moves held in subst P (leave_none gone n e) m
  leave_view gone n (Some t) held e m =
      let f = one_found n now.tracks t e in
      leave_case gone n t held (bytes_eq h.channel.topic t.topic) refl f.0 (eqb-true t.channel n f.1) m

  pub turns_depart : (gone : List ℕ) (g : Member) → Turns (depart now gone g) gone
  turns_depart gone g =
      let n = g.channel.number in
      let o = track_of now n in
      let none = none_leave now (n ∷ gone) o in
      record {
        tracks = none_track now (n ∷ gone) o;
        holds = λ held stays m.
            let goes : has h.channel.number (n ∷ gone) ≡ false =
            sym (ap (λ (ds : List ℕ). has h.channel.number ((n ∷ ds) ++ gone)) none) ∙ stays in
            let P : List ℕ → Type 0 = λ ds. Moves (client_view held (hears h.channel (depart now gone g)))
            (shown_still ((n ∷ ds) ++ gone)) in
            let Q : List Message → Type 0 = λ ms. Moves (client_view held ms) (shown_still (n ∷ gone)) in
            subst P (sym none) (subst Q (sym (hears_leave now h in_members rises apart enabled (n ∷ gone) o goes))
            (leave_view gone n o held refl m));
      }

  pub turns_close : (gone : List ℕ) (g : Member) → Turns (close now gone g) gone
  turns_close gone g =
      turns_then (Tells g.channel.slot (close_message g.channel) ∷ []) (depart now gone g) gone
      (turns_mute (Tells g.channel.slot (close_message g.channel) ∷ []) gone ((refl, refl), tt)) (turns_depart gone g)

  pub turns_fail : (reason gone : List ℕ) (g : Member) → Turns (fail now reason gone g) gone
  turns_fail reason gone g =
      turns_then (Tells g.channel.slot (failed_message g.channel reason) ∷ []) (close now gone g) gone
      (turns_mute (Tells g.channel.slot (failed_message g.channel reason) ∷ []) gone ((refl, refl), tt))
      (turns_close gone g)

  pub turns_end : (gone : List ℕ) (slot : ℕ) (name : EndName) → Turns (end_of now gone slot name) gone
  turns_end gone slot name =
      let ds = in_turn (depart now) gone (channels_of now slot) in
      turns_then ds (Ends slot name ∷ []) gone
      (turns_each (depart now) (λ g. ⊤) (λ x g t. turns_depart x g) gone (channels_of now slot)
      (all_every (λ g. ⊤) (channels_of now slot) (λ g. tt)))
      (turns_mute (Ends slot name ∷ []) (departed_in ds ++ gone) (tt, tt))
