-- What a channel hears of differences.
use Rattle.std.proofs.Common.{◌≡◌, ℕ, ◌<◌, Bool, true, false, ◌||◌, ◌&&◌, not, cond, List, [], ◌∷◌, ◌++◌, map, Option}
use Rattle.std.proofs.Common.{Some, None, refl, sym, ap, ◌∙◌, append-nil, arith, inl, inr}
use Rattle.std.specs.Prelude.{◌==◌, ◌≢◌, Contains}
use Rattle.std.specs.List.{filter, filter_map, flat_map, cons_option}
use Rattle.std.specs.Str.{bytes_eq}
use Rattle.std.proofs.lemmas.Bool.Decides.{eqb_tells}
use Rattle.std.proofs.lemmas.List.Elements.{filter_map-append}
use Rattle.std.proofs.lemmas.Slice.Eq.{bytes_eq-Decides}
use Rattle.std.proofs.lemmas.Bool.{eqb-true, and_from, and_parts}
use Rattle.rt_value.proofs.Among.{Among, from_contains, among_filter, filter_among}
use Rattle.rt_value.proofs.Plain.{AllOf, all_filter, all_weaker, all_themselves}
use Rattle.rt_phx.specs.declared.message.Message.{Message}
use Rattle.rt_phx.specs.declared.end.EndName.{EndName}
use Rattle.rt_phx.specs.declared.end.EndName.TheVariants as end_name
use Rattle.rt_catalog.specs.declared.catalog.Catalog.{Catalog}
use Rattle.rt_entry.specs.declared.input.Input.{Input}
use Rattle.rt_entry.specs.declared.input.Input.TheVariants.{Gone}
use Rattle.rt_entry.specs.declared.input.Settings.{Settings}
use Rattle.rt_entry.specs.declared.story.Opening.{Opening}
use Rattle.rt_entry.specs.declared.story.Channel.{Channel}
use Rattle.rt_entry.specs.declared.story.Member.{Member}
use Rattle.rt_entry.specs.declared.story.Track.{Track}
use Rattle.rt_entry.specs.declared.story.Part.{Part}
use Rattle.rt_entry.specs.declared.story.Part.TheVariants.{Ends}
use Rattle.rt_entry.specs.Story.{Story, Now, now_of, has, departed_in}
use Rattle.rt_entry.specs.Messages.{presence_diff}
use Rattle.rt_entry.specs.Doings.{in_turn, is_of_slot, is_on, channels_of, opening_in, track_of, watches, diff_to}
use Rattle.rt_entry.specs.Doings.{diffs, leave_diffs, depart, end_of, end_if_open, doings, story}
use Rattle.rt_entry.specs.Answers.{answer_of, answers_by}
use Rattle.rt_entry.specs.Presence.{said_to}
use Rattle.rt_laws.specs.Departures.{leave_for, heard}
use Rattle.rt_entry.proofs.PlainParts.{none_leave}
use Rattle.rt_entry.proofs.Shapes.{AreApart, eqb_same}
use Rattle.rt_entry.proofs.Sound.{members_in, Shaped, members_apart}
use Rattle.rt_entry.proofs.Unique.{RisingMembers, members_rising, same_member}
use Rattle.rt_entry.proofs.Journals.{story_shaped}
use Rattle.rt_presence.proofs.Agree.{commute}
use Rattle.rt_entry.specs.After.{found_by}

-- messages to a channel's slot on its topic
abbrev pub hears : Channel → List Part → List Message
hears ch ps = filter_map (said_to ch) (filter_map answer_of ps)

pub hears_append : (ch : Channel) (ps qs : List Part) → hears ch (ps ++ qs) ≡ hears ch ps ++ hears ch qs
hears_append ch ps qs =
    ap (filter_map (said_to ch)) (filter_map-append answer_of ps qs)
    ∙ filter_map-append (said_to ch) (filter_map answer_of ps) (filter_map answer_of qs)

abbrev pub at : Channel → Member → Bool
at ch m = (m.channel.slot == ch.slot) && bytes_eq m.channel.topic ch.topic

heard_one : (ch : Channel) (m : Message) (ms : List Message) (b : Bool)
    → cons_option (elim b as (λ t. Option Message) [ true ↦ Some m | false ↦ None ]) ms ≡ cond b (m ∷ ms) ms
heard_one ch m ms true = refl
heard_one ch m ms false = refl

map_or : {A B : Type 0} (f : A → B) (x : A) (xs : List A) (b : Bool)
    → cond b (f x ∷ map f xs) (map f xs) ≡ map f (cond b (x ∷ xs) xs)
map_or f x xs true = refl
map_or f x xs false = refl

-- of differences a channel hears its own
hears_diffs : (ch : Channel) (joins leaves : List Track) (ms : List Member)
    → hears ch (map (diff_to joins leaves) ms)
    ≡ map (λ (m : Member). presence_diff m.channel joins leaves) (filter (at ch) ms)
hears_diffs ch joins leaves [] = refl
hears_diffs ch joins leaves (m ∷ ms) =
    let say : Member → Message = λ x. presence_diff x.channel joins leaves in
    heard_one ch (say m) (hears ch (map (diff_to joins leaves) ms)) (at ch m)
    ∙ ap (λ xs. cond (at ch m) (say m ∷ xs) xs) (hears_diffs ch joins leaves ms)
    ∙ map_or say m (filter (at ch) ms) (at ch m)

rising_filter : (p : Member → Bool) (hs : List Member) → RisingMembers hs → RisingMembers (filter p hs)
rising_filter p [] r = tt
rising_filter p (h ∷ hs) r =
    elim (p h) as (λ t. RisingMembers (cond t (h ∷ filter p hs) (filter p hs))) [
      | true ↦ (all_filter (λ (g : Member). h.channel.number < g.channel.number) p hs r.0, rising_filter p hs r.1)
      | false ↦ rising_filter p hs r.1
    ]

-- one element that is there once
sole : (hs : List Member) (h : Member) → RisingMembers hs → AllOf (λ (g : Member). g ≡ h) hs → Among hs h → hs ≡ h ∷ []
sole [] h r a i = absurd i
sole (x ∷ []) h r a i = ap (λ (y : Member). y ∷ []) a.0
sole (x ∷ y ∷ more) h r a i =
    let lt = r.0.0 in
    let same : x.channel.number ≡ y.channel.number = ap (λ (m : Member). m.channel.number) (a.0 ∙ sym a.1.0) in
    absurd (omega arith)

module _ (now : Now) (h : Member) (in_members : Among now.members h) (rises : RisingMembers now.members)
    (apart : AreApart now.members)
    (enabled : h.channel.presence ≡ true) where
  -- it is the only one of its slot and topic
  alone : filter (at h.channel) now.members ≡ h ∷ []
  alone =
      let found = filter (at h.channel) now.members in
      let here : at h.channel h ≡ true =
      and_from (h.channel.slot == h.channel.slot) (bytes_eq h.channel.topic h.channel.topic) (eqb_same h.channel.slot)
      ((bytes_eq-Decides h.channel.topic h.channel.topic).1 refl) in
      sole found h (rising_filter (at h.channel) now.members rises)
      (all_weaker (Among found) (λ (g : Member). g ≡ h) found
      (λ g i.
      let f = among_filter (at h.channel) now.members g i in
      let t = and_parts (g.channel.slot == h.channel.slot) (bytes_eq g.channel.topic h.channel.topic) f.1 in
      apart g h f.0 in_members (eqb-true g.channel.slot h.channel.slot t.0)
      ((bytes_eq-Decides g.channel.topic h.channel.topic).0 t.1))
      (all_themselves found))
      (filter_among (at h.channel) now.members h in_members here)

  watching : (gone topic : List ℕ) (b : Bool) → is_on topic h.channel ≡ b → has h.channel.number gone ≡ false
      → watches gone topic h ≡ b
  watching gone topic b on stays =
      ap (λ x. x && h.channel.presence && not (has h.channel.number gone)) on
      ∙ ap (λ x. b && x && not (has h.channel.number gone)) enabled ∙ ap (λ x. b && true && not x) stays
      ∙ and_trues b where
        and_trues : (x : Bool) → (x && true && not false) ≡ x
        and_trues true = refl
        and_trues false = refl

  one_or_none : (joins leaves : List Track) (b : Bool)
      → map (λ (m : Member). presence_diff m.channel joins leaves)
      (cond b (h ∷ []) []) ≡ elim b [ true ↦ presence_diff h.channel joins leaves ∷ [] | false ↦ [] ]
  one_or_none joins leaves true = refl
  one_or_none joins leaves false = refl

  pub hears_own : (gone topic : List ℕ) (joins leaves : List Track) → has h.channel.number gone ≡ false
      → hears h.channel (diffs now gone topic joins leaves) ≡ elim
      (bytes_eq h.channel.topic topic) [ true ↦ presence_diff h.channel joins leaves ∷ [] | false ↦ [] ]
  hears_own gone topic joins leaves stays =
      let say : Member → Message = λ m. presence_diff m.channel joins leaves in
      hears_diffs h.channel joins leaves (filter (watches gone topic) now.members)
      ∙ ap (map say) (commute (at h.channel) (watches gone topic) now.members ∙ ap (filter (watches gone topic)) alone)
      ∙ ap (λ b. map say (cond b (h ∷ []) [])) (watching gone topic (bytes_eq h.channel.topic topic) refl stays)
      ∙ one_or_none joins leaves (bytes_eq h.channel.topic topic)

  pub hears_leave : (gone : List ℕ) (o : Option Track) → has h.channel.number gone ≡ false
      → hears h.channel (leave_diffs now gone o) ≡ leave_for h.channel o
  hears_leave gone None stays = refl
  hears_leave gone (Some t) stays = hears_own gone t.topic [] (t ∷ []) stays

  abbrev Other : Member → Type 0
  Other g = (g.channel.number == h.channel.number) ≡ false

  pub hears_turn : (gone : List ℕ) (gs : List Member) → AllOf Other gs → has h.channel.number gone ≡ false
      → hears h.channel (in_turn (depart now) gone gs)
      ≡ flat_map (λ (g : Member). leave_for h.channel (track_of now g.channel.number)) gs
  hears_turn gone [] a stays = refl
  hears_turn gone (g ∷ gs) a stays =
      let n = g.channel.number in
      let next = departed_in (depart now gone g) ++ gone in
      let now_gone : has h.channel.number (n ∷ gone) ≡ false = ap (λ b. b || has h.channel.number gone) a.0 ∙ stays in
      let later : has h.channel.number next ≡ false =
      ap (λ (ds : List ℕ). has h.channel.number ((n ∷ ds) ++ gone)) (none_leave now (n ∷ gone) (track_of now n))
      ∙ now_gone in
      hears_append h.channel (depart now gone g) (in_turn (depart now) next gs)
      ∙ ap (λ xs. xs ++ hears h.channel (in_turn (depart now) next gs))
      (hears_leave (n ∷ gone) (track_of now n) now_gone)
      ∙ ap (λ xs. leave_for h.channel (track_of now n) ++ xs) (hears_turn next gs a.1 later)

  hears_end : (slot : ℕ) (name : EndName) → AllOf Other (channels_of now slot)
      → hears h.channel (end_of now [] slot name)
      ≡ flat_map (λ (g : Member). leave_for h.channel (track_of now g.channel.number))
      (channels_of now slot)
  hears_end slot name a =
      let ds = in_turn (depart now) [] (channels_of now slot) in
      hears_append h.channel ds (Ends slot name ∷ []) ∙ append-nil (hears h.channel ds)
      ∙ hears_turn [] (channels_of now slot) a refl

module _ (c : Catalog) (s : Settings) where
  others_of : (st : Story) (sh : Shaped st) (h : Member) (slot : ℕ) → Among (members_in st) h → h.channel.slot ≢ slot
      → AllOf (λ (g : Member). (g.channel.number == h.channel.number) ≡ false)
      (filter (is_of_slot slot) (members_in st))
  others_of st sh h slot here ne =
      let gs = filter (is_of_slot slot) (members_in st) in
      all_weaker (Among gs) (λ (g : Member). (g.channel.number == h.channel.number) ≡ false) gs
      (λ g i.
      let f = among_filter (is_of_slot slot) (members_in st) g i in
      elim (eqb_tells g.channel.number h.channel.number) [
        | inl t ↦ absurd (ne (sym (ap (λ (m : Member). m.channel.slot) (same_member st g h sh f.0 here t.1))
            ∙ eqb-true g.channel.slot slot f.1))
        | inr t ↦ t.0
      ]) (all_themselves gs)

  pub departures_told : (journal : List Input) (slot : ℕ) (o : Opening) (h : Member)
      → opening_in (found_by c s journal) slot ≡ Some o
      → Contains (found_by c s journal).members h → h.channel.presence ≡ true → h.channel.slot ≢ slot
      → heard c s journal (Gone slot) h.channel
      ≡ flat_map (λ (g : Member). leave_for h.channel (track_of (found_by c s journal) g.channel.number))
      (channels_of (found_by c s journal) slot)
  unfolding answers_by doings now_of
  departures_told journal slot o h e i p ne =
      let st = story c s journal in
      let sh = story_shaped c s journal in
      let now = now_of st in
      let here = from_contains (members_in st) h i in
      ap (λ (x : Option Opening). hears h.channel (end_if_open now slot end_name.Gone x)) e
      ∙ hears_end now h here (members_rising st sh) (members_apart st sh) p slot end_name.Gone
      (others_of st sh h slot here ne)
