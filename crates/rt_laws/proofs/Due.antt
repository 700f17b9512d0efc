-- By what a message of a poll was due.
use Rattle.std.proofs.Common.{◌≡◌, ℕ, ◌<◌, Bool, true, false, ◌&&◌, cond, List, [], ◌∷◌, map, length, Option, Some}
use Rattle.std.proofs.Common.{None, refl, sym, ap, subst, ◌∙◌, arith, inl, inr}
use Rattle.std.specs.Prelude.{◌==◌, Contains}
use Rattle.std.specs.List.{filter, filter_map, flat_map, enumerate_from}
use Rattle.std.proofs.lemmas.Bool.{eqb-true}
use Rattle.rt_value.specs.declared.row.Row.{Row}
use Rattle.rt_value.specs.Tables.{rows_of_table}
use Rattle.rt_value.proofs.Among.{Among, to_contains, from_contains, among_flat, among_map, among_filter}
use Rattle.rt_value.proofs.Among.{among_filter_map}
use Rattle.rt_value.proofs.Plain.{AllOf, all_weaker, all_themselves}
use Rattle.rt_phx.specs.declared.message.Message.{Message}
use Rattle.rt_filter.specs.declared.subscription.Subscription.{Subscription}
use Rattle.rt_catalog.specs.declared.catalog.Catalog.{Catalog}
use Rattle.rt_registry.specs.Bindings.{subscription_of, is_of_table}
use Rattle.rt_change.specs.declared.change.Change.{Change}
use Rattle.rt_change.specs.declared.decision.Verdict.TheVariants.{Deliver, Error400, Error401}
use Rattle.rt_change.specs.Verdicts.{verdict_of, is_sent, is_truncate, lacks_key, hides_key}
use Rattle.rt_change.specs.Shape.{shape_of}
use Rattle.rt_entry.specs.declared.input.Input.{Input}
use Rattle.rt_entry.specs.declared.input.Input.TheVariants.{Poll}
use Rattle.rt_entry.specs.declared.input.Settings.{Settings}
use Rattle.rt_entry.specs.declared.story.Member.{Member}
use Rattle.rt_entry.specs.declared.story.Part.{Part}
use Rattle.rt_entry.specs.declared.answer.Answer.{Answer}
use Rattle.rt_entry.specs.declared.answer.Answer.TheVariants.{Opened, Says, Ended}
use Rattle.rt_entry.specs.declared.entry.ChannelView.{ChannelView}
use Rattle.rt_entry.specs.Story.{Story, now_of, tables_left}
use Rattle.rt_entry.specs.Messages.{change_message}
use Rattle.rt_entry.specs.Doings.{story, doings, subscriptions_of, subscriptions, view_of, gets, change_parts}
use Rattle.rt_entry.specs.Doings.{change_parts_to, change_parts_to_all, poll_parts}
use Rattle.rt_entry.specs.Answers.{answer_of, answers_by, answers}
use Rattle.rt_entry.specs.Access.{IsSentBy, IsDeliveredTo, IsDueBy}
use Rattle.rt_laws.specs.Changes.{HasOneVerdict}
use Rattle.rt_entry.proofs.Sound.{Shaped, members_in}
use Rattle.rt_entry.proofs.Journals.{story_shaped}
use Rattle.rt_entry.proofs.Unique.{same_member}
use Rattle.rt_laws.proofs.Columns.{all_from, shape_shows}
use Rattle.rt_laws.proofs.Sent.{sent_verdict, verdict_when_sent}

pub three_parts : (a b d : Bool) → (a && b && d) ≡ true → (a ≡ true) × (b ≡ true) × (d ≡ true)
three_parts true true true e = (refl, refl, refl)
three_parts true true false e = absurd (cc)
three_parts true false d e = absurd (cc)
three_parts false b d e = absurd (cc)

-- what an answer says, and to whom
abbrev slot_said : Option (ℕ × Answer) → ℕ
slot_said None = 0
slot_said (Some g) = g.0

abbrev said : Message → Answer → Message
said d (Says m) = m
said d (Opened v) = d
said d (Ended n) = d

abbrev pub message_said : Message → Option (ℕ × Answer) → Message
message_said d None = d
message_said d (Some g) = said d g.1

module _ (c : Catalog) (s : Settings) (st : Story) (h : Shaped st) (tables : List (List Row)) where
  abbrev pub Gets : Change → ℕ → ℕ → Subscription → Type 0
  Gets ch slot role sub = Among (subscriptions (members_in st)) sub × (sub.slot ≡ slot)
      × (is_of_table c ch.table sub ≡ true) × (sub.role ≡ role) ×
      (is_sent (verdict_of c (rows_of_table tables) sub ch) ≡ true)

  -- a subscription of the channel is the member's own
  pub gets_own : (ch : Change) (m : Member) (sub : Subscription) → Among (members_in st) m
      → Among (subscriptions (members_in st)) sub
      → gets c s tables ch m.channel.number sub ≡ true → Gets ch m.channel.slot m.standing.role sub
  unfolding subscriptions
  gets_own ch m sub here known e =
      let parts = three_parts (sub.channel == m.channel.number) (is_of_table c ch.table sub)
      (is_sent (verdict_of c (rows_of_table tables) sub ch)) e in
      let found = among_flat subscriptions_of (members_in st) sub known in
      let g = found.0 in
      let made =
      among_map (subscription_of g.channel.number g.channel.slot g.standing.role g.standing.claims)
      (enumerate_from g.channel.first_id g.channel.bindings) sub found.2 in
      let number : g.channel.number ≡ m.channel.number =
      ap (λ (x : Subscription). x.channel) made.2 ∙ eqb-true sub.channel m.channel.number parts.0 in
      let same : g ≡ m = same_member st g m h found.1 here number in (
        known,
        ap (λ (x : Subscription). x.slot) (sym made.2) ∙ ap (λ (x : Member). x.channel.slot) same,
        parts.1,
        ap (λ (x : Subscription). x.role)
            (sym made.2) ∙ ap (λ (x : Member). x.standing.role) same,
        parts.2,
      )

  abbrev IsOf : ℕ → Subscription → Type 0
  IsOf channel sub = sub.channel ≡ channel

  -- what a message of a poll was due by
  record Told (changes : List Change) (slot : ℕ) (m : Message) : Type 0 where
    change : Change
    among : Among changes change
    member : Member
    channel : Among (members_in st) member
    subs : List Subscription
    some : 0 < length subs
    each : AllOf (Gets change slot member.standing.role) subs
    own : AllOf (IsOf member.channel.number) subs
    is : m ≡ change_message (view_of member) (map (λ (x : Subscription). x.id) subs)
        (shape_of c member.standing.role s.max_record change)

  told_by : (changes : List Change) (slot : ℕ) (m : Message) (ch : Change) (to : ChannelView) (g : Member)
      (fs : List Subscription) → Among changes ch
      → Among (members_in st) g → view_of g ≡ to
      → AllOf (Gets ch to.slot g.standing.role) fs → AllOf (IsOf g.channel.number) fs → (p : Part)
      → Among (change_parts c s to ch fs) p → answer_of p ≡ Some (slot, Says m) → Told changes slot m
  told_by changes slot m ch to g [] a k v all own p x e = absurd x
  told_by changes slot m ch to g (sub ∷ more) a k v all own p (inr x) e = absurd x
  told_by changes slot m ch to g (sub ∷ more) a k v all own p (inl x) e =
      let ids = map (λ (y : Subscription). y.id) (sub ∷ more) in
      let words : ChannelView → ℕ → Message = λ view role. change_message view ids (shape_of c role s.max_record ch) in
      let said : Some (to.slot, Says (words to sub.role)) ≡ Some (slot, Says m) = ap answer_of x ∙ e in
      let at : to.slot ≡ slot = ap slot_said said in
      let is : words to sub.role ≡ m = ap (message_said m) said in
      let P : ℕ → Type 0 = λ n. AllOf (Gets ch n g.standing.role) (sub ∷ more) in
      record {
        change = ch;
        among = a;
        member = g;
        channel = k;
        subs = sub ∷ more;
        some = omega arith;
        each = subst P at all;
        own = own;
        is = sym is ∙ ap (words to) all.0.3 ∙ ap (λ view. words view g.standing.role) (sym v);
      }

  views_tell : (changes : List Change) (slot : ℕ) (m : Message) (ch : Change) → Among changes ch → (p : Part)
      → answer_of p ≡ Some (slot, Says m)
      → Among (flat_map (change_parts_to c s (subscriptions (members_in st)) tables ch) (map view_of (members_in st))) p
      → Told changes slot m
  views_tell changes slot m ch a p e x =
      let subs = subscriptions (members_in st) in
      let r = among_flat (change_parts_to c s subs tables ch) (map view_of (members_in st)) p x in
      let k = among_map view_of (members_in st) r.0 r.1 in
      let g = k.0 in
      let number : g.channel.number ≡ r.0.channel = ap (λ (v : ChannelView). v.channel) k.2 in
      let slots : g.channel.slot ≡ r.0.slot = ap (λ (v : ChannelView). v.slot) k.2 in
      let fs = filter (gets c s tables ch r.0.channel) subs in
      let all : AllOf (Gets ch r.0.slot g.standing.role) fs =
      all_weaker (Among fs) (Gets ch r.0.slot g.standing.role) fs
      (λ sub y.
      let f = among_filter (gets c s tables ch r.0.channel) subs sub y in
      let t : gets c s tables ch g.channel.number sub ≡ true = ap (λ n. gets c s tables ch n sub) number ∙ f.1 in
      let P : ℕ → Type 0 = λ n. Gets ch n g.standing.role sub in
      subst P slots (gets_own ch g sub k.1 f.0 t)) (all_themselves fs) in
      let own : AllOf (IsOf g.channel.number) fs = all_weaker (Among fs) (IsOf g.channel.number) fs
      (λ sub y.
      let f = among_filter (gets c s tables ch r.0.channel) subs sub y in
      let mine = three_parts (sub.channel == r.0.channel) (is_of_table c ch.table sub)
      (is_sent (verdict_of c (rows_of_table tables) sub ch)) f.1 in
      eqb-true sub.channel r.0.channel mine.0 ∙ sym number) (all_themselves fs) in
      told_by changes slot m ch r.0 g fs a k.1 k.2 all own p r.2 e

  change_tells : (changes : List Change) (slot : ℕ) (m : Message) (ch : Change) → Among changes ch → (p : Part)
      → answer_of p ≡ Some (slot, Says m)
      → (t : Bool)
      → Among (elim t [
        | true ↦ []
        | false ↦ flat_map (change_parts_to c s (subscriptions (members_in st)) tables ch)
            (map view_of (members_in st))
      ]) p
      → Told changes slot m
  change_tells changes slot m ch a p e true x = absurd x
  change_tells changes slot m ch a p e false x = views_tell changes slot m ch a p e x

  poll_tells : (changes : List Change) (slot : ℕ) (m : Message)
      → Among (filter_map answer_of (flat_map (change_parts_to_all c s (subscriptions (members_in st)) tables
      (map view_of (members_in st))) changes)) (slot, Says m)
      → Told changes slot m
  poll_tells changes slot m x =
      let subs = subscriptions (members_in st) in
      let views = map view_of (members_in st) in
      let r = among_filter_map answer_of (flat_map (change_parts_to_all c s subs tables views) changes)
      (slot, Says m) x in
      let k = among_flat (change_parts_to_all c s subs tables views) changes r.0 r.1 in
      change_tells changes slot m k.0 k.1 r.0 r.2 (is_truncate k.0.verb) k.2

module _ (c : Catalog) (s : Settings) where
  -- where the data shows a record, what is sent is delivered
  delivers : (role : ℕ) (ch : Change) → lacks_key ch ≡ false → hides_key c role ch ≡ false
      → sent_verdict c role ch ≡ Deliver
  delivers role ch e f = ap (λ b. cond b Error400 (cond (hides_key c role ch) Error401 Deliver)) e
      ∙ ap (λ b. cond b Error401 Deliver) f

  verdict_is : (tables : List (List Row)) (st : Story) (h : Shaped st) (ch : Change) (slot role : ℕ)
      (sub : Subscription)
      → Gets c s st h tables ch slot role sub → verdict_of c (rows_of_table tables) sub ch ≡ sent_verdict c role ch
  verdict_is tables st h ch slot role sub g = verdict_when_sent c (rows_of_table tables) sub ch g.4
      ∙ ap (λ n. sent_verdict c n ch) g.3

  abbrev left : List Input → List Change → List (List Row)
  left before changes = tables_left c (story c s before) (Poll changes)

  told_of : (before : List Input) (changes : List Change) (slot : ℕ) (m : Message)
      → Contains (answers c s before (Poll changes)) (slot, Says m)
      → Told c s (story c s before) (story_shaped c s before) (left before changes) changes slot m
  unfolding answers_by doings poll_parts now_of
  told_of before changes slot m x =
      poll_tells c s (story c s before) (story_shaped c s before) (left before changes) changes slot m
      (from_contains (answers c s before (Poll changes)) (slot, Says m) x)

  due_of : (before : List Input) (changes : List Change) (slot : ℕ) (m : Message)
      → Told c s (story c s before) (story_shaped c s before) (left before changes) changes slot m
      → IsDueBy c s before changes slot m
  unfolding now_of
  due_of before changes slot m t =
      let st = story c s before in
      let h = story_shaped c s before in
      let role = t.member.standing.role in
      record {
        change = t.change;
        among = to_contains changes t.change t.among;
        member = t.member;
        channel = to_contains (members_in st) t.member t.channel;
        role = role;
        subs = t.subs;
        some = t.some;
        each = all_from (IsSentBy c s before changes t.change slot role) t.subs
            (all_weaker (Gets c s st h (left before changes) t.change slot role)
            (IsSentBy c s before changes t.change slot role) t.subs
            (λ sub g. record {
              known = to_contains (subscriptions
                  (members_in st)) sub g.0;
              own = g.1;
              table = g.2;
              of_role = g.3;
              sent = g.4;
            }) t.each);
        own = all_from (λ (sub : Subscription). sub.channel ≡ t.member.channel.number) t.subs t.own;
        is = t.is;
        shows = λ part tree name e.
            let f = shape_shows c s role s.max_record t.change part tree name e in (
              all_from (IsDeliveredTo c s before changes t.change) t.subs
                  (all_weaker (Gets c s st h (left before changes) t.change slot role)
                  (IsDeliveredTo c s before changes t.change) t.subs
                  (λ sub g. verdict_is (left before changes) st h t.change slot role sub g
                  ∙ delivers role t.change f.0 f.1) t.each),
              f.2,
            );
      }

  pub changes_allowed : (before : List Input) (changes : List Change) (slot : ℕ) (m : Message)
      → Contains (answers c s before (Poll changes)) (slot, Says m) → IsDueBy c s before changes slot m
  changes_allowed before changes slot m x = due_of before changes slot m (told_of before changes slot m x)

  sent_is : (a b : Bool) → is_sent (cond a Error400 (cond b Error401 Deliver)) ≡ true
  sent_is true b = refl
  sent_is false true = refl
  sent_is false false = refl

  pub one_verdict : (before : List Input) (changes : List Change) (slot : ℕ) (m : Message)
      → Contains (answers c s before (Poll changes)) (slot, Says m) → HasOneVerdict c s before changes slot m
  unfolding due_of told_of
  one_verdict before changes slot m x =
      let t = told_of before changes slot m x in
      let st = story c s before in
      let h = story_shaped c s before in
      record {
        due = due_of before changes slot m t;
        verdict = sent_verdict c t.member.standing.role t.change;
        sent = sent_is (lacks_key t.change) (hides_key c t.member.standing.role t.change);
        same = all_from (λ (sub : Subscription). verdict_of c
            (rows_of_table (left before changes)) sub t.change ≡ sent_verdict c t.member.standing.role t.change) t.subs
            (all_weaker (Gets c s st h (left before changes) t.change slot t.member.standing.role)
            (λ (sub : Subscription). verdict_of c (rows_of_table
            (left before changes)) sub t.change ≡ sent_verdict c t.member.standing.role t.change) t.subs
            (λ sub g. verdict_is (left before changes) st h t.change slot t.member.standing.role sub g) t.each);
      }
