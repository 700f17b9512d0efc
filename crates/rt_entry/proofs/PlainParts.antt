-- What parts of an input that are plain or quiet leave, and what an input's parts leave by their shape.
use Rattle.std.proofs.Common.{◌≡◌, ◌⊎◌, ℕ, ◌<◌, ◌≤◌, Bool, true, false, ◌||◌, List, [], ◌∷◌, ◌++◌, map, Option}
use Rattle.std.proofs.Common.{Some, None, refl, sym, ap, ◌∙◌, append-nil, arith, inl, inr}
use Rattle.std.proofs.Common.{eqb}
use Rattle.std.specs.Prelude.{◌==◌}
use Rattle.std.specs.List.{filter, filter_map, list_any}
use Rattle.std.proofs.lemmas.Bool.Decides.{nat_tests}
use Rattle.std.proofs.lemmas.List.Concat.{flat_map-append}
use Rattle.std.proofs.lemmas.List.Elements.{filter_map-append}
use Rattle.rt_value.proofs.Plain.{AllOf, any_append}
use Rattle.rt_entry.specs.declared.story.Channel.{Channel}
use Rattle.rt_entry.specs.declared.story.Member.{Member}
use Rattle.rt_entry.specs.declared.story.Track.{Track}
use Rattle.rt_entry.specs.declared.story.Part.{Part}
use Rattle.rt_entry.specs.declared.story.Part.TheVariants.{Opens, Ends, Tells, Joins, Renews, Tracks, Untracks, Departs}
use Rattle.rt_entry.specs.Doings.{watches, diff_to, leave_diffs}
use Rattle.rt_entry.specs.Story.{Now, joined_by, departed_by, departed_in, renewed_by}
use Rattle.rt_entry.specs.Story.{has, tracked_by}
use Rattle.rt_entry.specs.Story.{standing_tracks}
use Rattle.rt_entry.specs.After.{joins_of, tracks_in}
use Rattle.rt_entry.proofs.Shapes.{Plain, Quiet, IsNext, Shape, plain, joining, tracking}
use Rattle.rt_entry.proofs.Shapes.{IsOfMember}

-- what plain parts leave

pub plain_joins : (b : Bool) (n : ℕ) (ps : List Part) → AllOf (Plain b n) ps → joins_of ps ≡ []
plain_joins b n [] h = refl
plain_joins b n (Opens s o ∷ ps) h = plain_joins b n ps h.1
plain_joins b n (Ends s m ∷ ps) h = plain_joins b n ps h.1
plain_joins b n (Tells s m ∷ ps) h = plain_joins b n ps h.1
plain_joins b n (Joins c ∷ ps) h = absurd h.0
plain_joins b n (Renews m x ∷ ps) h = plain_joins b n ps h.1
plain_joins b n (Tracks t ∷ ps) h = absurd h.0
plain_joins b n (Untracks m ∷ ps) h = plain_joins b n ps h.1
plain_joins b n (Departs m ∷ ps) h = plain_joins b n ps h.1

pub plain_has : (b : Bool) (n m : ℕ) (ps : List Part) → n ≤ m → AllOf (Plain b n) ps → has m (departed_in ps) ≡ false
plain_has b n m [] le h = refl
plain_has b n m (Opens s o ∷ ps) le h = plain_has b n m ps le h.1
plain_has b n m (Ends s e ∷ ps) le h = plain_has b n m ps le h.1
plain_has b n m (Tells s e ∷ ps) le h = plain_has b n m ps le h.1
plain_has b n m (Joins c ∷ ps) le h = absurd h.0
plain_has b n m (Renews k x ∷ ps) le h = plain_has b n m ps le h.1
plain_has b n m (Tracks t ∷ ps) le h = absurd h.0
plain_has b n m (Untracks k ∷ ps) le h = plain_has b n m ps le h.1
plain_has b n m (Departs k ∷ ps) le h = let lt = h.0 in let e : eqb k m ≡ false = grind (arith, nat_tests) in
    rw e (plain_has b n m ps le h.1)

pub plain_renews : (b : Bool) (n m : ℕ) (ps : List Part) → n ≤ m → AllOf (Plain b n) ps → filter_map (renewed_by m) ps
    ≡ []
plain_renews b n m [] le h = refl
plain_renews b n m (Opens s o ∷ ps) le h = plain_renews b n m ps le h.1
plain_renews b n m (Ends s e ∷ ps) le h = plain_renews b n m ps le h.1
plain_renews b n m (Tells s e ∷ ps) le h = plain_renews b n m ps le h.1
plain_renews b n m (Joins c ∷ ps) le h = absurd h.0
plain_renews b n m (Renews k x ∷ ps) le h =
    let lt = h.0 in let e : eqb k m ≡ false = grind (arith, nat_tests) in rw e (plain_renews b n m ps le h.1)
plain_renews b n m (Tracks t ∷ ps) le h = absurd h.0
plain_renews b n m (Untracks k ∷ ps) le h = plain_renews b n m ps le h.1
plain_renews b n m (Departs k ∷ ps) le h = plain_renews b n m ps le h.1

-- the tracks behind plain parts
pub plain_tracks : (b : Bool) (n : ℕ) (ps qs : List Part) → AllOf (Plain b n) ps
    → standing_tracks (tracks_in (ps ++ qs)) ≡ standing_tracks (tracks_in qs)
plain_tracks b n [] qs h = refl
plain_tracks b n (Opens s o ∷ ps) qs h = plain_tracks b n ps qs h.1
plain_tracks b n (Ends s e ∷ ps) qs h = plain_tracks b n ps qs h.1
plain_tracks b n (Tells s e ∷ ps) qs h = plain_tracks b n ps qs h.1
plain_tracks b n (Joins c ∷ ps) qs h = absurd h.0
plain_tracks b n (Renews k x ∷ ps) qs h = plain_tracks b n ps qs h.1
plain_tracks b n (Tracks t ∷ ps) qs h = absurd h.0
plain_tracks b n (Untracks k ∷ ps) qs h = plain_tracks b n ps qs h.1
plain_tracks b n (Departs k ∷ ps) qs h = plain_tracks b n ps qs h.1

-- a quiet part neither joins nor departs nor renews nor tracks
pub quiet_front : (b : Bool) (n : ℕ) (ps : List Part) → AllOf (Quiet b) ps → AllOf (Plain b n) ps
quiet_front b n [] h = tt
quiet_front b n (Tells s m ∷ ps) h = (h.0, quiet_front b n ps h.1)
quiet_front b n (Opens s o ∷ ps) h = absurd h.0
quiet_front b n (Ends s e ∷ ps) h = absurd h.0
quiet_front b n (Joins c ∷ ps) h = absurd h.0
quiet_front b n (Renews k x ∷ ps) h = absurd h.0
quiet_front b n (Tracks t ∷ ps) h = absurd h.0
quiet_front b n (Untracks k ∷ ps) h = absurd h.0
quiet_front b n (Departs k ∷ ps) h = absurd h.0

pub quiet_departs : (b : Bool) (ps : List Part) → AllOf (Quiet b) ps → departed_in ps ≡ []
quiet_departs b [] h = refl
quiet_departs b (Tells s m ∷ ps) h = quiet_departs b ps h.1
quiet_departs b (Opens s o ∷ ps) h = absurd h.0
quiet_departs b (Ends s e ∷ ps) h = absurd h.0
quiet_departs b (Joins c ∷ ps) h = absurd h.0
quiet_departs b (Renews k x ∷ ps) h = absurd h.0
quiet_departs b (Tracks t ∷ ps) h = absurd h.0
quiet_departs b (Untracks k ∷ ps) h = absurd h.0
quiet_departs b (Departs k ∷ ps) h = absurd h.0

pub quiet_tracks : (b : Bool) (ps : List Part) → AllOf (Quiet b) ps → tracks_in ps ≡ []
quiet_tracks b [] h = refl
quiet_tracks b (Tells s m ∷ ps) h = quiet_tracks b ps h.1
quiet_tracks b (Opens s o ∷ ps) h = absurd h.0
quiet_tracks b (Ends s e ∷ ps) h = absurd h.0
quiet_tracks b (Joins c ∷ ps) h = absurd h.0
quiet_tracks b (Renews k x ∷ ps) h = absurd h.0
quiet_tracks b (Tracks t ∷ ps) h = absurd h.0
quiet_tracks b (Untracks k ∷ ps) h = absurd h.0
quiet_tracks b (Departs k ∷ ps) h = absurd h.0

pub has_append : (m : ℕ) (ps qs : List Part)
    → has m (departed_in (ps ++ qs)) ≡ (has m (departed_in ps) || has m (departed_in qs))
has_append m ps qs = ap (has m) (filter_map-append departed_by ps qs)
    ∙ any_append (λ j. j == m) (departed_in ps) (departed_in qs)

pub around_has : (b : Bool) (n m : ℕ) (front : List Part) (p : Part) (back : List Part) → n ≤ m → AllOf
    (Plain b n) front
    → AllOf (Plain b n) back
    → departed_in (p ∷ back) ≡ departed_in back → has m (departed_in (front ++ p ∷ back)) ≡ false
around_has b n m front p back le f g e =
    has_append m front (p ∷ back) ∙ ap (λ t. t || has m (departed_in (p ∷ back))) (plain_has b n m front le f)
    ∙ ap (has m) e
    ∙ plain_has b n m back le g

pub around_renews : (b : Bool) (n m : ℕ) (front : List Part) (p : Part) (back : List Part) → n ≤ m → AllOf
    (Plain b n) front
    → AllOf (Plain b n) back
    → filter_map (renewed_by m) (p ∷ back) ≡ filter_map (renewed_by m) back
    → filter_map (renewed_by m) (front ++ p ∷ back) ≡ []
around_renews b n m front p back le f g e =
    filter_map-append (renewed_by m) front (p ∷ back)
    ∙ ap (λ xs. xs ++ filter_map (renewed_by m) (p ∷ back)) (plain_renews b n m front le f) ∙ e
    ∙ plain_renews b n m back le g

pub shape_has : {ids : ℕ} (b : Bool) (n m : ℕ) (hs : List Member) (ps : List Part) → n ≤ m → Shape b n ids hs ps
    → has m (departed_in ps) ≡ false
shape_has b n m hs ps le (plain h) = plain_has b n m ps le h
shape_has b n m hs ps le (joining front ch back f g k room e) =
    ap (λ qs. has m (departed_in qs)) e ∙ around_has b n m front (Joins ch) back le f g refl
shape_has b n m hs ps le (tracking front t back f g k lt own e) =
    ap (λ qs. has m (departed_in qs)) e
    ∙ around_has b n m front (Tracks t) back le (quiet_front b n front f) (quiet_front b n back g) refl

pub shape_renews : {ids : ℕ} (b : Bool) (n m : ℕ) (hs : List Member) (ps : List Part) → n ≤ m → Shape b n ids hs ps
    → filter_map (renewed_by m) ps ≡ []
shape_renews b n m hs ps le (plain h) = plain_renews b n m ps le h
shape_renews b n m hs ps le (joining front ch back f g k room e) =
    ap (filter_map (renewed_by m)) e ∙ around_renews b n m front (Joins ch) back le f g refl
shape_renews b n m hs ps le (tracking front t back f g k lt own e) =
    ap (filter_map (renewed_by m)) e
    ∙ around_renews b n m front (Tracks t) back le (quiet_front b n front f) (quiet_front b n back g) refl

pub around_joins : (b : Bool) (n : ℕ) (front : List Part) (p : Part) (back : List Part) → AllOf (Plain b n) front
    → AllOf (Plain b n) back
    → joins_of (front ++ p ∷ back) ≡ joins_of (p ∷ [])
around_joins b n front p back f g =
    filter_map-append joined_by front (p ∷ back) ∙ ap (λ xs. xs ++ joins_of (p ∷ back)) (plain_joins b n front f)
    ∙ filter_map-append joined_by (p ∷ []) back ∙ ap (λ xs. joins_of (p ∷ []) ++ xs) (plain_joins b n back g)
    ∙ append-nil (joins_of (p ∷ []))

pub shape_joins : {ids : ℕ} (b : Bool) (n : ℕ) (hs : List Member) (ps : List Part) → Shape b n ids hs ps
    → (joins_of ps ≡ []) ⊎ ((ch : Channel) × (joins_of ps ≡ ch ∷ []) × IsNext n ids ch)
shape_joins b n hs ps (plain h) = inl (plain_joins b n ps h)
shape_joins b n hs ps (joining front ch back f g k room e) =
    inr (ch, ap joins_of e ∙ around_joins b n front (Joins ch) back f g, k)
shape_joins b n hs ps (tracking front t back f g k lt own e) =
    inl (ap joins_of e ∙ around_joins b n front (Tracks t) back (quiet_front b n front f) (quiet_front b n back g))

-- either nothing new stands, or one track of a member, and nobody departs or joins
pub shape_tracks : {ids : ℕ} (b : Bool) (n : ℕ) (hs : List Member) (ps : List Part) → Shape b n ids hs ps
    → (standing_tracks (tracks_in ps) ≡ [])
    ⊎ ((t : Track) × (tracks_in ps ≡ (t.channel, Some t) ∷ []) × (departed_in ps ≡ [])
    × (list_any (λ (h : Member). h.channel.number == t.channel) hs ≡ true) × (t.channel < n) × IsOfMember n hs t)
shape_tracks b n hs ps (plain h) = inl (ap (λ qs. standing_tracks (tracks_in qs)) (sym (append-nil ps))
    ∙ plain_tracks b n ps [] h)
shape_tracks b n hs ps (joining front ch back f g k room e) =
    inl (ap (λ qs. standing_tracks (tracks_in qs)) e ∙ plain_tracks b n front (Joins ch ∷ back) f
    ∙ ap (λ qs. standing_tracks (tracks_in qs)) (sym (append-nil back)) ∙ plain_tracks b n back [] g)
shape_tracks b n hs ps (tracking front t back f g k lt own e) =
    inr (
      t,
      ap tracks_in e ∙ flat_map-append tracked_by front (Tracks t ∷ back)
          ∙ ap (λ xs. xs ++ (t.channel, Some t) ∷ tracks_in back) (quiet_tracks b front f)
          ∙ ap (λ xs. (t.channel, Some t) ∷ xs) (quiet_tracks b back g),
      ap departed_in e ∙ filter_map-append departed_by front (Tracks t ∷ back)
          ∙ ap (λ xs. xs ++ departed_in back) (quiet_departs b front f)
          ∙ quiet_departs b back g,
      k,
      lt,
      own,
    )

pub no_departures : (joins leaves : List Track) (ms : List Member) → departed_in (map (diff_to joins leaves) ms) ≡ []
no_departures joins leaves [] = refl
no_departures joins leaves (m ∷ ms) = no_departures joins leaves ms

pub none_leave : (now : Now) (gone : List ℕ) (o : Option Track) → departed_in (leave_diffs now gone o) ≡ []
none_leave now gone None = refl
none_leave now gone (Some t) = no_departures [] (t ∷ []) (filter (watches gone t.topic) now.members)
