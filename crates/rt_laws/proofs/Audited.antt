-- The audit's verdict on a subscription decides whether it is told of the change.
use Rattle.std.proofs.Common.{◌≡◌, ℕ, suc, Bool, true, false, ◌&&◌, not, List, [], ◌∷◌, ◌++◌, map, length, refl, sym}
use Rattle.std.proofs.Common.{ap, subst, ◌∙◌, inl}
use Rattle.std.specs.Prelude.{◌==◌, Contains}
use Rattle.std.specs.List.{filter, filter_map, flat_map, enumerate_from}
use Rattle.std.proofs.lemmas.List.Elements.{filter_map-append}
use Rattle.rt_value.specs.declared.row.Row.{Row}
use Rattle.rt_value.specs.Tables.{rows_of_table}
use Rattle.rt_value.proofs.Among.{Among, to_contains, from_contains, among_flat, among_map, among_filter, filter_among, flat_among}
use Rattle.rt_value.proofs.Among.{map_among}
use Rattle.rt_filter.specs.declared.subscription.Subscription.{Subscription}
use Rattle.rt_catalog.specs.declared.catalog.Catalog.{Catalog}
use Rattle.rt_registry.specs.Bindings.{subscription_of, is_of_table}
use Rattle.rt_change.specs.declared.change.Change.{Change}
use Rattle.rt_change.specs.Verdicts.{verdict_of, is_sent, is_truncate}
use Rattle.rt_change.specs.Shape.{shape_of}
use Rattle.rt_entry.specs.declared.input.Input.{Input}
use Rattle.rt_entry.specs.declared.input.Input.TheVariants.{Poll}
use Rattle.rt_entry.specs.declared.input.Settings.{Settings}
use Rattle.rt_entry.specs.declared.story.Member.{Member}
use Rattle.rt_entry.specs.declared.story.Part.{Part}
use Rattle.rt_entry.specs.declared.story.Part.TheVariants.{Tells}
use Rattle.rt_entry.specs.Story.{now_of}
use Rattle.rt_entry.specs.Messages.{change_message}
use Rattle.rt_entry.specs.Doings.{story, doings, subscriptions_of, subscriptions, view_of, gets, change_parts}
use Rattle.rt_entry.specs.Doings.{change_parts_to, change_parts_to_all, poll_parts}
use Rattle.rt_entry.specs.Answers.{answer_of, answers_by, answers}
use Rattle.rt_entry.specs.Audit.{Judged, judged_by, judged_change, judged_poll, judged_input}
use Rattle.rt_entry.specs.Members.{members_of_journal}
use Rattle.rt_entry.specs.Ids.{subscribed, judged_on}
use Rattle.rt_laws.specs.Audited.{change_answers, IsTold, IsDecided, AuditDecides, PollsAreChanges}
use Rattle.rt_entry.proofs.Shapes.{eqb_same}
use Rattle.rt_entry.proofs.Journals.{story_shaped}
use Rattle.rt_laws.proofs.Due.{three_parts, gets_own}
use Rattle.rt_entry.proofs.Ids.{id_of, same_id, ids_rise}
use Rattle.rt_catalog.proofs.Rows.{filter_map_among}

and_all : (a b d : Bool) → a ≡ true → b ≡ true → d ≡ true → (a && b && d) ≡ true
and_all true true true e f g = refl
and_all true true false e f g = g
and_all true false d e f g = f
and_all false b d e f g = e

no_truncate : {A : Type 0} (b : Bool) (ys : List A) (y : A) → not b ≡ true → Among ys y
    → Among (elim b [ true ↦ [] | false ↦ ys ]) y
no_truncate true ys y e h = absurd (cc)
no_truncate false ys y e h = h

module _ (c : Catalog) (s : Settings) (before : List Input) (changes : List Change) where
  abbrev members : List Member
  members = members_of_journal c s before

  abbrev subs : List Subscription
  subs = subscribed c s before

  abbrev tables : List (List Row)
  tables = judged_on c s before changes

  abbrev verdict_is_sent : Change → Subscription → Bool
  verdict_is_sent ch sub = is_sent (verdict_of c (rows_of_table tables) sub ch)

  abbrev to_member : Change → Member → Subscription → Bool
  to_member ch g = gets c s tables ch g.channel.number

  -- where a subscription of the member gets the change, the member is told of it with all its ids
  says : (ch : Change) (g : Member) (fs : List Subscription) (sub : Subscription) → Among fs sub
      → ((x : Subscription) → Among fs x → x.role ≡ g.standing.role)
      → Among (change_parts c s (view_of g) ch fs)
      (Tells g.channel.slot (change_message (view_of g) (map id_of fs) (shape_of c g.standing.role s.max_record ch)))
  says ch g [] sub h roles = absurd h
  says ch g (x ∷ more) sub h roles =
      inl (ap (λ n. Tells g.channel.slot
      (change_message (view_of g) (map id_of (x ∷ more)) (shape_of c n s.max_record ch))) (roles x (inl refl)))

  role_of : (ch : Change) (g : Member) (x : Subscription) → Among members g → Among subs x → to_member ch g x ≡ true
      → x.role ≡ g.standing.role
  unfolding now_of
  role_of ch g x here known e = (gets_own c s (story c s before) (story_shaped c s before) tables ch g x here known e).3

  -- the member whose subscription it is
  owner : (sub : Subscription) → Among subs sub → (g : Member) × Among members g × (sub.channel ≡ g.channel.number)
  unfolding subscriptions
  owner sub known =
      let found = among_flat subscriptions_of members sub known in
      let g = found.0 in
      let made =
      among_map (subscription_of g.channel.number g.channel.slot g.standing.role g.standing.claims)
      (enumerate_from g.channel.first_id g.channel.bindings) sub found.2 in
      (g, found.1, ap (λ (x : Subscription). x.channel) (sym made.2))

  tell : (ch : Change) (sub : Subscription) → not (is_truncate ch.verb) ≡ true → Among subs sub
      → is_of_table c ch.table sub ≡ true
      → verdict_is_sent ch sub ≡ true → IsTold c s before changes ch sub.id
  tell ch sub row known table sent =
      let own = owner sub known in
      let g = own.0 in
      let P : ℕ → Type 0 = λ n. (n == g.channel.number) ≡ true in
      let same : (sub.channel == g.channel.number) ≡ true = subst P (sym own.2) (eqb_same g.channel.number) in
      let fs = filter (to_member ch g) subs in
      let here : Among fs sub = filter_among (to_member ch g) subs sub known
      (and_all (sub.channel == g.channel.number) (is_of_table c ch.table sub)
      (verdict_is_sent ch sub) same table sent) in
      let roles : (x : Subscription) → Among fs x → x.role ≡ g.standing.role =
      λ x h. let k = among_filter (to_member ch g) subs x h in role_of ch g x own.1 k.0 k.1 in
      let part : Part = Tells g.channel.slot
      (change_message (view_of g) (map id_of fs) (shape_of c g.standing.role s.max_record ch)) in
      let views = map view_of members in
      let told : Among (flat_map (change_parts_to c s subs tables ch) views) part =
      flat_among (change_parts_to c s subs tables ch) views (view_of g) part (map_among view_of members g own.1)
      (says ch g fs sub here roles) in
      let given = no_truncate (is_truncate ch.verb) (flat_map (change_parts_to c s subs tables ch) views) part row
      told in
      record {
        member = g;
        known = to_contains members g own.1;
        among = to_contains (map id_of fs) sub.id (map_among id_of fs sub here);
        said = to_contains (change_answers c s before changes ch) _
            (filter_map_among answer_of (change_parts_to_all c s subs tables views ch) part _ given refl);
      }

  heard : (ch : Change) (sub : Subscription) → Among subs sub → IsTold c s before changes ch sub.id
      → verdict_is_sent ch sub ≡ true
  heard ch sub known t =
      let g = t.member in
      let fs = filter (to_member ch g) subs in
      let found = among_map id_of fs sub.id (from_contains (map id_of fs) sub.id t.among) in
      let x = found.0 in
      let k = among_filter (to_member ch g) subs x found.1 in
      let is : x ≡ sub = same_id 1 (suc (now_of (story c s before)).ids) subs x sub
      (ids_rise c s before) k.0 known found.2 in
      let P : Subscription → Type 0 = λ y. verdict_is_sent ch y ≡ true in
      subst P is (three_parts (x.channel == g.channel.number) (is_of_table c ch.table x) (verdict_is_sent ch x) k.1).2

  decided : (n : ℕ × Change) (sub : Subscription) → Among (enumerate_from 0 changes) n
      → not (is_truncate n.1.verb) ≡ true → Among subs sub
      → is_of_table c n.1.table sub ≡ true → IsDecided c s before changes (judged_by c (length before) tables n sub)
  decided n sub at row known table = record {
    change = n.1;
    at = to_contains (enumerate_from 0 changes) n at;
    told = (tell n.1 sub row known table, heard n.1 sub known);
  }

  decides : (j : Judged) → Contains (judged_input c s before (Poll changes)) j → IsDecided c s before changes j
  unfolding judged_poll
  decides j h =
      let rows : List (ℕ × Change) =
      filter (λ (n : ℕ × Change). not (is_truncate n.1.verb)) (enumerate_from 0 changes) in
      let line = judged_change c (length before) tables subs in
      let found = among_flat line rows j (from_contains (flat_map line rows) j h) in
      let n = found.0 in
      let row = among_filter (λ (x : ℕ × Change). not (is_truncate x.1.verb)) (enumerate_from 0 changes) n found.1 in
      let made = among_map (judged_by c (length before) tables n) (filter (is_of_table c n.1.table) subs) j found.2 in
      let of_table = among_filter (is_of_table c n.1.table) subs made.0 made.1 in
      let P : Judged → Type 0 = λ x. IsDecided c s before changes x in
      let is : Judged = judged_by c (length before) tables n made.0 in
      subst P {x = is} made.2 (decided n made.0 row.0 row.1 of_table.0 of_table.1)

  one_by_one : {A : Type 0} (f : A → List Part) (xs : List A)
      → filter_map answer_of (flat_map f xs) ≡ flat_map (λ x. filter_map answer_of (f x)) xs
  one_by_one f [] = refl
  one_by_one f (x ∷ xs) = filter_map-append answer_of (f x) (flat_map f xs)
      ∙ ap (λ gs. filter_map answer_of (f x) ++ gs) (one_by_one f xs)

  by_change : answers c s before (Poll changes) ≡ flat_map (change_answers c s before changes) changes
  unfolding answers_by doings poll_parts
  by_change = one_by_one (change_parts_to_all c s subs tables (map view_of members)) changes

pub audit_decides : (c : Catalog) (s : Settings) → AuditDecides c s
audit_decides c s before changes j h = decides c s before changes j h

pub polls_are_changes : (c : Catalog) (s : Settings) → PollsAreChanges c s
polls_are_changes c s before changes = by_change c s before changes
