-- What clients hold over whole journals.
use Rattle.std.proofs.Common.{◌≡◌, ◌<◌, ◌≤◌, Bool, true, false, List, [], ◌∷◌, ◌++◌, map, length, refl, sym, ap}
use Rattle.std.proofs.Common.{subst, ◌∙◌, arith, inl, inr}
use Rattle.std.specs.Prelude.{◌^◌, nat_le}
use Rattle.std.specs.List.{filter}
use Rattle.std.specs.Str.{bytes_eq}
use Rattle.std.proofs.lemmas.Bool.Decides.{leb_tells}
use Rattle.rt_value.proofs.Among.{Among, from_contains, map_among}
use Rattle.rt_value.proofs.Moves.{Moves, permuted}
use Rattle.rt_phx.specs.declared.message.Message.{Message}
use Rattle.rt_presence.specs.Trees.{Held}
use Rattle.rt_catalog.specs.declared.catalog.Catalog.{Catalog}
use Rattle.rt_entry.specs.declared.input.Input.{Input}
use Rattle.rt_entry.specs.declared.input.Input.TheVariants.{Opened, Frame, Gone, Poll, Tick, Stop, Post}
use Rattle.rt_entry.specs.declared.input.Settings.{Settings}
use Rattle.rt_entry.specs.declared.story.Channel.{Channel}
use Rattle.rt_entry.specs.declared.story.Member.{Member}
use Rattle.rt_entry.specs.declared.story.Track.{Track}
use Rattle.rt_entry.specs.Story.{now_of, has, departed_in, members_at, member_in, present_at, tables_left}
use Rattle.rt_entry.specs.Doings.{doings, story}
use Rattle.rt_entry.specs.Answers.{answers_by}
use Rattle.rt_entry.specs.Messages.{shown_meta}
use Rattle.rt_entry.specs.Presence.{client_view, told_since, ClientsAgree}
use Rattle.rt_entry.specs.After.{joins_of, tracks_after, done_by}
use Rattle.rt_laws.specs.Departures.{heard}
use Rattle.rt_laws.specs.Follows.{IsNoStop}
use Rattle.rt_entry.proofs.Sound.{members_in, members_apart, held_below}
use Rattle.rt_entry.proofs.Journals.{story_shaped}
use Rattle.rt_laws.proofs.Turns.{view_append}
use Rattle.rt_entry.proofs.Opens.{stop_has}
use Rattle.rt_laws.proofs.Starts.{starts}
use Rattle.rt_laws.proofs.Clients.{tracks_next, held_after}
use Rattle.rt_entry.proofs.Slots.{Either, either, joins_numbered, member_number, none_first, open_slots}

module _ (c : Catalog) (s : Settings) where
  -- a stop lets nobody stay
  no_stop : (journal : List Input) (i : Input) (h : Member) → Among (members_in (story c s journal)) h
      → has h.channel.number (departed_in (done_by c s journal i)) ≡ false → IsNoStop i
  unfolding doings now_of
  no_stop journal Stop h here stays =
      absurd (let z : true ≡ false = sym (stop_has (now_of (story c s journal)) (open_slots c s journal) h here)
      ∙ stays in cc)
  no_stop journal (Opened slot version claims) h here stays = tt
  no_stop journal (Frame slot bytes) h here stays = tt
  no_stop journal (Gone slot) h here stays = tt
  no_stop journal (Post slot claims ps) h here stays = tt
  no_stop journal (Poll changes) h here stays = tt
  no_stop journal (Tick moment) h here stays = tt

  -- what a channel was told

  told_case : (ch : Channel) (i : Input) (before : List Input) (b : Bool) → nat_le ch.number (length before) ≡ b
      → ch.number ≤ length before
      → told_since c s ch (i ∷ before) ≡ told_since c s ch before ++ heard c s before i ch
  told_case ch i before b e le =
      let yes : nat_le ch.number (length before) ≡ true = elim
      (leb_tells ch.number (length before)) [ inl t ↦ t.0 | inr t ↦ let lt = t.1 in absurd (omega arith) ] in
      ap (λ (x : Bool). elim x as (λ k. List Message) [
        | true ↦ told_since c s ch before ++ heard c s before i ch
        | false ↦ []
      ]) yes

  told_more : (ch : Channel) (i : Input) (before : List Input) → ch.number ≤ length before
      → told_since c s ch (i ∷ before) ≡ told_since c s ch before ++ heard c s before i ch
  told_more ch i before le = told_case ch i before (nat_le ch.number (length before)) refl le

  pub none_told : (ch : Channel) (before : List Input) → length before ≤ ch.number → told_since c s ch before ≡ []
  none_told ch [] le = refl
  none_told ch (i ∷ before) le =
      let no : nat_le ch.number (length before) ≡ false = elim
      (leb_tells ch.number (length before)) [ inl t ↦ let k = t.1 in absurd (omega arith) | inr t ↦ t.0 ] in
      ap (λ (x : Bool). elim x as (λ k. List Message) [
        | true ↦ told_since c s ch before ++ heard c s before i ch
        | false ↦ []
      ]) no

  -- whatever it held before its join
  abbrev pub Agrees : List Input → Channel → List Held → Type 0
  Agrees journal ch held =
      Moves (client_view held (told_since c s ch journal)) (map shown_meta
      (filter (λ (t : Track). bytes_eq t.topic ch.topic) (present_at (story c s journal))))

  -- one input later, where it holds what the input's tracks make
  agrees_next : (journal : List Input) (i : Input) (ch : Channel) (held : List Held) → ch.number ≤ length journal
      → Moves (client_view (client_view held (told_since c s ch journal)) (heard c s journal i ch))
      (map shown_meta (filter (λ (t : Track). bytes_eq t.topic ch.topic)
      (tracks_after (present_at (story c s journal)) (done_by c s journal i))))
      → Agrees (i ∷ journal) ch held
  agrees_next journal i ch held le m =
      let on : Track → Bool = λ t. bytes_eq t.topic ch.topic in
      let P : List Held → Type 0 = λ x. Moves x (map shown_meta (filter on (present_at (story c s (i ∷ journal))))) in
      let Q : List Track → Type 0 = λ ts.
      Moves (client_view (client_view held (told_since c s ch journal)) (heard c s journal i ch))
      (map shown_meta (filter on ts)) in
      subst P (sym (ap (client_view held) (told_more ch i journal le)
      ∙ view_append held (told_since c s ch journal) (heard c s journal i ch)))
      (subst Q (sym (tracks_next c s journal i)) m)

  started : (journal : List Input) (i : Input) (ch : Channel) → Among (joins_of (done_by c s journal i)) ch
      → ch.presence ≡ true → (held : List Held)
      → Moves (client_view held (heard c s journal i ch)) (map shown_meta
      (filter (λ (t : Track). bytes_eq t.topic ch.topic)
      (tracks_after (present_at (story c s journal)) (done_by c s journal i))))
  unfolding answers_by now_of
  started journal i ch joins enabled held =
      let st = story c s journal in
      let sh = story_shaped c s journal in
      starts (now_of st) (held_below st sh) (members_apart st sh) (open_slots c s journal) c s
      (tables_left c st i) i ch joins enabled held

  agrees_by : (journal : List Input) (i : Input) (ch : Channel) (held : List Held) → length journal < 2 ^ 64
      → ch.presence ≡ true
      → (Among (members_at (story c s journal)) ch → Agrees journal ch held) → Either c s journal i ch
      → Agrees (i ∷ journal) ch held
  agrees_by journal i ch held short enabled before (inl a) =
      let st = story c s journal in
      let h = member_in st ch in
      let here = map_among (member_in st) (members_at st) ch a.0 in
      let lt = member_number c s journal ch a.0 in
      agrees_next journal i ch held (omega arith)
      (held_after c s journal i h short (no_stop journal i h here a.1) here enabled
      (client_view held (told_since c s ch journal)) a.1 (before a.0))
  agrees_by journal i ch held short enabled before (inr b) =
      let e = joins_numbered c s journal i ch b in
      agrees_next journal i ch held (omega arith)
      (started journal i ch b enabled (client_view held (told_since c s ch journal)))

  pub agrees : (journal : List Input) (ch : Channel) (held : List Held) → length journal < 2 ^ 64
      → Among (members_at (story c s journal)) ch
      → ch.presence ≡ true
      → Agrees journal ch held
  agrees [] ch held short here enabled =
      absurd (let P : List Channel → Type 0 = λ chs. Among chs ch in subst P (none_first c s) here)
  agrees (i ∷ journal) ch held short here enabled =
      let less : length journal < 2 ^ 64 = omega arith in
      agrees_by journal i ch held less enabled (λ a. agrees journal ch held less a enabled)
      (either c s journal i ch here)

  pub clients_agree : (journal : List Input) → ClientsAgree c s journal
  clients_agree journal short ch known enabled =
      permuted _ _ (agrees journal ch [] short (from_contains (members_at (story c s journal)) ch known) enabled)
