-- The channels of a slot and its opening behind parts.
use Rattle.std.proofs.Common.{◌≡◌, ℕ, zero, suc, ◌+◌, Bool, List, [], ◌∷◌, ◌++◌, map, Option, Some, None}
use Rattle.std.proofs.Common.{refl, sym, ap, subst, ◌∙◌, arith}
use Rattle.std.specs.Prelude.{⊤, slice_get, if◌then◌else◌, is_some, option_map}
use Rattle.std.specs.List.{filter, enumerate_from}
use Rattle.rt_value.specs.declared.row.Row.{Row}
use Rattle.rt_value.proofs.Among.{Among, to_contains}
use Rattle.rt_value.proofs.Plain.{AllOf, all_filter, all_themselves, all_weaker}
use Rattle.rt_catalog.specs.declared.catalog.Catalog.{Catalog}
use Rattle.rt_private.specs.Rights.{messages_of}
use Rattle.rt_channel.specs.declared.held.Held.{Held}
use Rattle.rt_channel.specs.declared.held.Joined.{Joined}
use Rattle.rt_entry.specs.declared.input.Input.{Input}
use Rattle.rt_entry.specs.declared.input.Settings.{Settings}
use Rattle.rt_entry.specs.declared.story.Opening.{Opening}
use Rattle.rt_entry.specs.declared.story.Member.{Member}
use Rattle.rt_entry.specs.declared.story.Part.{Part}
use Rattle.rt_entry.specs.declared.story.Part.TheVariants.{Opens, Ends, Tells, Joins, Renews, Tracks, Untracks, Departs}
use Rattle.rt_entry.specs.Story.{Now, heard_in, opened_by, opened_after}
use Rattle.rt_entry.specs.Doings.{or_none, opening_in, is_of_slot, doings}
use Rattle.rt_entry.specs.After.{opens_after, members_after, remains, after}
use Rattle.rt_entry.proofs.Shapes.{AreApart, Below, fine_for, shape_doings}
use Rattle.rt_entry.proofs.Opens.{Spares}
use Rattle.rt_hub.specs.Sockets.{joined_of, socket_of}
use Rattle.rt_hub.specs.Registered.{members_by}
use Rattle.rt_hub.specs.Taking.{HasOwnChannels}
use Rattle.rt_hub.proofs.Renewing.{renews_one}
use Rattle.rt_hub.proofs.Turns.{Lets, let_go, shape_turns}

-- the channels of a slot, as its socket has them
abbrev pub view : ℕ → List Member → List Joined
view slot hs = map joined_of (filter (is_of_slot slot) hs)

-- the socket of an opening, by its channels
abbrev pub held_by : Catalog → List Joined → Opening → Held
held_by c js o =
    record { version = o.version; claims = o.claims; heard = o.heard; secured = is_some (messages_of c); channels = js }

-- it tells, tracks or untracks
abbrev pub Resting : Part → Type 0
Resting (Opens s o) = ⊥
Resting (Ends s name) = ⊥
Resting (Tells s m) = ⊤
Resting (Joins ch) = ⊥
Resting (Renews n x) = ⊥
Resting (Tracks t) = ⊤
Resting (Untracks n) = ⊤
Resting (Departs n) = ⊥

-- or lets a channel depart
abbrev pub Dropping : Part → Type 0
Dropping (Opens s o) = ⊥
Dropping (Ends s name) = ⊥
Dropping (Tells s m) = ⊤
Dropping (Joins ch) = ⊥
Dropping (Renews n x) = ⊥
Dropping (Tracks t) = ⊤
Dropping (Untracks n) = ⊤
Dropping (Departs n) = ⊤

resting_drops : (p : Part) → Resting p → Dropping p
resting_drops (Opens s o) h = h
resting_drops (Ends s name) h = h
resting_drops (Tells s m) h = h
resting_drops (Joins ch) h = h
resting_drops (Renews n x) h = h
resting_drops (Tracks t) h = h
resting_drops (Untracks n) h = h
resting_drops (Departs n) h = absurd h

pub all_resting_drop : (ps : List Part) → AllOf Resting ps → AllOf Dropping ps
all_resting_drop ps a = all_weaker Resting Dropping ps resting_drops a

dropping_lets : (p : Part) → Dropping p → Lets p
dropping_lets (Opens s o) h = absurd h
dropping_lets (Ends s name) h = absurd h
dropping_lets (Tells s m) h = h
dropping_lets (Joins ch) h = h
dropping_lets (Renews n x) h = h
dropping_lets (Tracks t) h = h
dropping_lets (Untracks n) h = h
dropping_lets (Departs n) h = h

dropping_spares : (slot : ℕ) (p : Part) → Dropping p → Spares slot p
dropping_spares slot (Opens s o) h = absurd h
dropping_spares slot (Ends s name) h = absurd h
dropping_spares slot (Tells s m) h = h
dropping_spares slot (Joins ch) h = absurd h
dropping_spares slot (Renews n x) h = absurd h
dropping_spares slot (Tracks t) h = h
dropping_spares slot (Untracks n) h = h
dropping_spares slot (Departs n) h = h

pub all_dropping_spare : (slot : ℕ) (ps : List Part) → AllOf Dropping ps → AllOf (Spares slot) ps
all_dropping_spare slot ps a = all_weaker Dropping (Spares slot) ps (dropping_spares slot) a

pub rest_same : (ps : List Part) (hs : List Member) → AllOf Resting ps → members_by ps hs ≡ hs
rest_same [] hs a = refl
rest_same (Opens s o ∷ ps) hs a = absurd a.0
rest_same (Ends s name ∷ ps) hs a = absurd a.0
rest_same (Tells s m ∷ ps) hs a = rest_same ps hs a.1
rest_same (Joins ch ∷ ps) hs a = absurd a.0
rest_same (Renews n x ∷ ps) hs a = absurd a.0
rest_same (Tracks t ∷ ps) hs a = rest_same ps hs a.1
rest_same (Untracks n ∷ ps) hs a = rest_same ps hs a.1
rest_same (Departs n ∷ ps) hs a = absurd a.0

-- who remains was there
pub still_all : (B : Member → Type 0) (ps : List Part) (hs : List Member) → AllOf Dropping ps → AllOf B hs
    → AllOf B (members_by ps hs)
still_all B ps hs d a =
    let P : List Member → Type 0 = λ gs. AllOf B gs in
    subst P (sym (let_go ps hs (all_weaker Dropping Lets ps dropping_lets d))) (all_filter B (remains ps) hs a)

-- openings
pub spared : (slot : ℕ) (ps : List Part) (old : Option Opening) → AllOf (Spares slot) ps
    → opened_after slot ps old ≡ old
spared slot [] old a = refl
spared slot (Opens s o ∷ ps) old a =
    ap (λ (b : Bool). opened_after slot ps (if b then Some o else old)) a.0 ∙ spared slot ps old a.1
spared slot (Ends s name ∷ ps) old a =
    ap (λ (b : Bool). opened_after slot ps (if b then None else old)) a.0 ∙ spared slot ps old a.1
spared slot (Tells s m ∷ ps) old a = spared slot ps old a.1
spared slot (Joins ch ∷ ps) old a = spared slot ps old a.1
spared slot (Renews n x ∷ ps) old a = spared slot ps old a.1
spared slot (Tracks t ∷ ps) old a = spared slot ps old a.1
spared slot (Untracks n ∷ ps) old a = spared slot ps old a.1
spared slot (Departs n ∷ ps) old a = spared slot ps old a.1

pub opened_append : (slot : ℕ) (ps qs : List Part) (old : Option Opening)
    → opened_after slot (ps ++ qs) old ≡ opened_after slot qs (opened_after slot ps old)
opened_append slot [] qs old = refl
opened_append slot (p ∷ ps) qs old = opened_append slot ps qs (opened_by slot p old)

pub mapped_get : {A B : Type 0} (f : ℕ × A → B) (k : ℕ) (xs : List A) (n : ℕ)
    → slice_get (map f (enumerate_from k xs)) n ≡ option_map (λ (x : A). f (k + n, x)) (slice_get xs n)
mapped_get f k [] n = refl
mapped_get f k (y ∷ ys) zero =
    let at : k ≡ k + 0 = omega arith in ap (λ (j : ℕ). Some (f (j, y))) at
mapped_get {A} f k (y ∷ ys) (suc n) =
    let at : (k + 1) + n ≡ k + suc n = omega arith in
    mapped_get f (k + 1) ys n ∙ ap (λ (j : ℕ). option_map (λ (x : A). f (j, x)) (slice_get ys n)) at

module _ (now : Now) (i : Input) (ps : List Part) (slot : ℕ) (shut : opened_after slot ps None ≡ None) where
  or_shut : (o : Option (Option Opening))
      → or_none (option_map (λ (x : Option Opening). opens_after i now.moment ps (0 + slot, x)) o)
      ≡ opened_after slot ps (option_map (heard_in i now.moment slot) (or_none o))
  or_shut None = sym shut
  or_shut (Some x) =
      let zero_more : 0 + slot ≡ slot = omega arith in
      ap (λ (n : ℕ). opens_after i now.moment ps (n, x)) zero_more

  opening_behind : opening_in (after now i ps) slot
      ≡ opened_after slot ps (option_map (heard_in i now.moment slot) (opening_in now slot))
  unfolding after
  opening_behind =
      ap or_none (mapped_get (opens_after i now.moment ps) 0 now.opens slot) ∙ or_shut (slice_get now.opens slot)

  pub socket_behind : (c : Catalog) → members_after now.members ps ≡ members_by ps now.members
      → socket_of c (after now i ps) slot
      ≡ option_map (held_by c (view slot (members_by ps now.members)))
      (opened_after slot ps (option_map (heard_in i now.moment slot) (opening_in now slot)))
  unfolding socket_of after
  socket_behind c turn =
      ap (λ (o : Option Opening). option_map (held_by c (view slot (members_after now.members ps))) o) opening_behind
      ∙ ap (λ (hs : List Member). option_map (held_by c (view slot hs))
      (opened_after slot ps (option_map (heard_in i now.moment slot) (opening_in now slot)))) turn

-- the members behind an input, part by part
pub apart_of : (now : Now) → HasOwnChannels now → AreApart now.members
apart_of now own g h a b e t = own.topics g h (to_contains now.members g a) (to_contains now.members h b) e t

pub turned : (c : Catalog) (s : Settings) (now : Now) (tables : List (List Row)) (i : Input) → HasOwnChannels now
    → members_after now.members (doings c s now tables i) ≡ members_by (doings c s now tables i) now.members
turned c s now tables i own =
    let low : AllOf (Below now.number) now.members =
    all_weaker (Among now.members) (Below now.number) now.members (λ h a. own.below h (to_contains now.members h a))
    (all_themselves now.members) in
    shape_turns (fine_for i) now.number now.members (doings c s now tables i)
    (shape_doings now low (apart_of now own) c s tables i) (renews_one now c s tables i)
