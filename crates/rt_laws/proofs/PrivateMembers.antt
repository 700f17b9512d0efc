-- Every member was judged by an input of the journal: that by which its channel joined, or by which it was last
-- renewed.
use Rattle.std.proofs.Common.{◌≡◌, ◌⊎◌, ℕ, List, [], ◌∷◌, map, Some, None, refl, sym, ap, subst, ◌∙◌, inl, inr}
use Rattle.std.specs.Prelude.{if◌then◌else◌, Contains}
use Rattle.std.specs.List.{filter, filter_map}
use Rattle.std.proofs.lemmas.Bool.Decides.{eqb_tells}
use Rattle.rt_value.proofs.Among.{Among, from_contains, to_contains, among_either, among_map, among_filter}
use Rattle.rt_value.proofs.Among.{among_filter_map}
use Rattle.rt_catalog.specs.declared.catalog.Catalog.{Catalog}
use Rattle.rt_entry.specs.declared.input.Input.{Input}
use Rattle.rt_entry.specs.declared.input.Settings.{Settings}
use Rattle.rt_entry.specs.declared.story.Standing.{Standing}
use Rattle.rt_entry.specs.declared.story.Channel.{Channel}
use Rattle.rt_entry.specs.declared.story.Member.{Member}
use Rattle.rt_entry.specs.declared.story.Part.{Part}
use Rattle.rt_entry.specs.declared.story.Part.TheVariants.{Opens, Ends, Tells, Joins, Renews, Tracks, Untracks, Departs}
use Rattle.rt_entry.specs.Story.{Now, now_of, joined, joined_by, renewed_by, first_or, members_at}
use Rattle.rt_entry.specs.Doings.{story}
use Rattle.rt_entry.specs.After.{joins_of, remains, with_standing, renewed, new_member, members_after, after, done_by}
use Rattle.rt_entry.specs.Members.{members_of_journal}
use Rattle.rt_laws.specs.Private.{IsJudged, WasJudged, MembersAreJudged, tables_by}
use Rattle.rt_entry.proofs.Journals.{story_grows}
use Rattle.rt_laws.proofs.PrivateInputs.{numbered, joins_judged, renewals_judged}

joined_part : (p : Part) (ch : Channel) → joined_by p ≡ Some ch → p ≡ Joins ch
joined_part (Joins k) ch e = cc
joined_part (Opens n o) ch e = absurd (cc)
joined_part (Ends n name) ch e = absurd (cc)
joined_part (Tells n k) ch e = absurd (cc)
joined_part (Renews n x) ch e = absurd (cc)
joined_part (Tracks t) ch e = absurd (cc)
joined_part (Untracks n) ch e = absurd (cc)
joined_part (Departs n) ch e = absurd (cc)

renewed_part : (n : ℕ) (p : Part) (x : Standing) → renewed_by n p ≡ Some x → p ≡ Renews n x
renewed_part n (Renews k y) x e = elim (eqb_tells k n) [
  | inl t ↦
      let some : renewed_by n (Renews k y) ≡ Some y = ap (λ b. if b then Some y else None) t.0 in
      let same : Some y ≡ Some x = sym some ∙ e in
      let standing : y ≡ x = cc in
      let number : k ≡ n = t.1 in
      ap (λ j. Renews j y) number ∙ ap (λ z. Renews n z) standing
  | inr t ↦
      let none : renewed_by n (Renews k y) ≡ None = ap (λ b. if b then Some y else None) t.0 in
      absurd (let same : None ≡ Some x = sym none ∙ e in cc)
]
renewed_part n (Joins k) x e = absurd (cc)
renewed_part n (Opens m o) x e = absurd (cc)
renewed_part n (Ends m name) x e = absurd (cc)
renewed_part n (Tells m k) x e = absurd (cc)
renewed_part n (Tracks t) x e = absurd (cc)
renewed_part n (Untracks m) x e = absurd (cc)
renewed_part n (Departs m) x e = absurd (cc)

-- the first, or the other
either_first : {A : Type 0} (d : A) (xs : List A) → (first_or d xs ≡ d) ⊎ Among xs (first_or d xs)
either_first d [] = inl refl
either_first d (x ∷ xs) = inr (inl refl)

module _ (c : Catalog) (s : Settings) where
  none_before : (h : Member) → Among (members_of_journal c s []) h → ⊥
  unfolding story now_of members_at joined
  none_before h here = here

  members_grow : (before : List Input) (i : Input)
      → members_of_journal c s (i ∷ before) ≡ members_after (members_of_journal c s before) (done_by c s before i)
  unfolding after
  members_grow before i = ap (λ (now : Now). now.members) (story_grows c s before i)

  -- judged at a journal it stays judged at the next
  was_still : (i : Input) (before : List Input) (h : Member) → WasJudged c s before h → WasJudged c s (i ∷ before) h
  was_still i before h was = record {
    later = i ∷ was.later;
    input = was.input;
    before = was.before;
    whole = ap (λ (js : List Input). i ∷ js) was.whole;
    made = was.made;
    judged = was.judged;
  }

  module _ (i : Input) (before : List Input) where
    now_joined : (ch : Channel) → Contains (done_by c s before i) (Joins ch)
        → WasJudged c s (i ∷ before) (new_member ch)
    now_joined ch there = record {
      later = [];
      input = i;
      before = before;
      whole = refl;
      made = inl (there, refl);
      judged = (joins_judged c s before i ch there).judged;
    }

    now_renewed : (h : Member) (x : Standing) → Among (members_of_journal c s before) h
        → Contains (done_by c s before i) (Renews h.channel.number x)
        → WasJudged c s (i ∷ before) (with_standing h.channel x)
    now_renewed h x here there =
        let r = renewals_judged c s before i h.channel.number x there in
        let ms = members_of_journal c s before in
        let same : r.member ≡ h = numbered c s before r.member h (from_contains ms r.member r.known) here r.numbered in
        let P : Member → Type 0 = λ g. IsJudged c (tables_by c s before i) g.channel.topic x in
        record {
          later = [];
          input = i;
          before = before;
          whole = refl;
          made = inr there;
          judged = subst P same r.judged;
        }

    stayed : (h : Member) → Among (members_of_journal c s before) h → WasJudged c s before h
        → WasJudged c s (i ∷ before) (renewed (done_by c s before i) h)
    stayed h here was =
        let parts = done_by c s before i in
        let n = h.channel.number in
        let renewals = filter_map (renewed_by n) parts in
        let P : Standing → Type 0 = λ x. WasJudged c s (i ∷ before) (with_standing h.channel x) in
        elim (either_first h.standing renewals) [
          | inl e ↦ subst P (sym e) (was_still i before h was)
          | inr a ↦
              let x = first_or h.standing renewals in
              let r = among_filter_map (renewed_by n) parts x a in
              let Q : Part → Type 0 = λ p. Contains parts p in
              now_renewed h x here (subst Q (renewed_part n r.0 x r.2) (to_contains parts r.0 r.1))
        ]

  pub members_judged : MembersAreJudged c s
  members_judged [] h there = absurd (none_before h (from_contains (members_of_journal c s []) h there))
  members_judged (i ∷ before) h there =
      let parts = done_by c s before i in
      let old = members_of_journal c s before in
      let stays = filter (remains parts) old in
      let P : List Member → Type 0 = λ ms. Among ms h in
      let here = subst P (members_grow before i) (from_contains (members_of_journal c s (i ∷ before)) h there) in
      let W : Member → Type 0 = WasJudged c s (i ∷ before) in
      elim (among_either (map (renewed parts) stays) (map new_member (joins_of parts)) h here) [
        | inl a ↦
            let g = among_map (renewed parts) stays h a in
            let known = (among_filter (remains parts) old g.0 g.1).0 in
            subst W g.2 (stayed i before g.0 known (members_judged before g.0 (to_contains old g.0 known)))
        | inr a ↦
            let g = among_map new_member (joins_of parts) h a in
            let r = among_filter_map joined_by parts g.0 g.1 in
            let Q : Part → Type 0 = λ p. Contains parts p in
            subst W g.2 (now_joined i before g.0 (subst Q (joined_part r.0 g.0 r.2) (to_contains parts r.0 r.1)))
      ]
