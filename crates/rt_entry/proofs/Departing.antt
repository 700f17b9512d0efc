-- What departures leave.
use Rattle.std.proofs.Common.{◌≡◌, ℕ, Bool, true, false, ◌&&◌, ◌||◌, not, cond, List, [], ◌∷◌, ◌++◌, map, Option}
use Rattle.std.proofs.Common.{Some, None}
use Rattle.std.proofs.Common.{refl, sym, ap, ◌∙◌, inl, inr}
use Rattle.std.specs.Prelude.{◌==◌, find}
use Rattle.std.specs.List.{filter}
use Rattle.std.proofs.lemmas.Bool.Decides.{eqb_tells}
use Rattle.std.specs.Str.{bytes_eq}
use Rattle.rt_value.proofs.Plain.{any_append, not_or, and_swap, filter_and, filter_same}
use Rattle.rt_entry.specs.declared.story.Member.{Member}
use Rattle.rt_entry.specs.declared.story.Track.{Track}
use Rattle.rt_entry.specs.declared.story.Part.{Part}
use Rattle.rt_entry.specs.declared.story.Part.TheVariants.{Departs}
use Rattle.rt_entry.specs.Story.{Now, has}
use Rattle.rt_entry.specs.Doings.{tell, is_on, track_of, watches, diff_to, leave_diffs, depart, close}
use Rattle.rt_entry.specs.Messages.{close_message, failed_message}
use Rattle.rt_entry.specs.Departing.{is_left, is_left_track, left_by, DeparturesLeaveTracks, DeparturesAdd}
use Rattle.rt_entry.specs.Departing.{PartsAreOfTheLeft, DeparturesLeaveParts}

-- what a test finds is found among what is kept, where that keeps what passes
find_kept : {A : Type 0} (p q : A → Bool) (xs : List A) → ((x : A) → p x ≡ true → q x ≡ true)
    → find p (filter q xs) ≡ find p xs
find_kept p q [] f = refl
find_kept p q (x ∷ xs) f = step p x (filter q xs) xs (q x) (p x) refl (f x) (find_kept p q xs f)
  where
    step : {A : Type 0} (p : A → Bool) (x : A) (ys xs : List A) (b d : Bool) → p x ≡ d → (p x ≡ true → b ≡ true)
        → find p ys ≡ find p xs → find p (cond b (x ∷ ys) ys) ≡ cond d (Some x) (find p xs)
    step p x ys xs true d e h r = ap (λ t. cond t (Some x) (find p ys)) e ∙ ap (λ o. cond d (Some x) o) r
    step p x ys xs false true e h r = absurd (let z : false ≡ true = h e in cc)
    step p x ys xs false false e h r = r

pub leaves_tracks : DeparturesLeaveTracks
leaves_tracks now gone n stays = find_kept (λ t. t.channel == n) (is_left_track gone) now.tracks (λ t e.
    elim (eqb_tells t.channel n) [
      | inl k ↦ ap (λ m. not (has m gone)) k.1 ∙ ap not stays
      | inr k ↦ absurd (let z : false ≡ true = sym k.0 ∙ e in cc)
    ])

-- tests one after another
neither : (n : ℕ) (gone more : List ℕ) → not (has n (more ++ gone)) ≡ (not (has n gone) && not (has n more))
neither n gone more =
    ap not (any_append (λ m. m == n) more gone) ∙ not_or (has n more) (has n gone)
    ∙ and_swap (not (has n more)) (not (has n gone))

same_left : (now : Now) (hs ks : List Member) (ts us : List Track) → hs ≡ ks → ts ≡ us
    → (let x : Now = record now { members = hs; tracks = ts } in
    let y : Now = record now { members = ks; tracks = us } in x ≡ y)
same_left now hs ks ts us e f = cc

pub departures_add : DeparturesAdd
departures_add now gone more =
    same_left now _ _ _ _
    (sym (filter_and (is_left more) (is_left gone) now.members)
    ∙ sym (filter_same (is_left (more ++ gone)) (λ h. is_left gone h && is_left more h)
    (λ h. neither h.channel.number gone more) now.members))
    (sym (filter_and (is_left_track more) (is_left_track gone) now.tracks)
    ∙ sym (filter_same (is_left_track (more ++ gone)) (λ t. is_left_track gone t && is_left_track more t)
    (λ t. neither t.channel gone more) now.tracks))

moved : (a x y : Bool) → (a && not (x || y)) ≡ (not y && (a && not (x || false)))
moved true true true = refl
moved true true false = refl
moved true false true = refl
moved true false false = refl
moved false x true = refl
moved false x false = refl

-- the channels that watch, but one that departs now
left_watches : (now : Now) (n : ℕ) (gone topic : List ℕ) → filter (watches (n ∷ gone) topic) now.members
    ≡ filter (watches (n ∷ []) topic) (filter (is_left gone) now.members)
left_watches now n gone topic =
    filter_same (watches (n ∷ gone) topic) (λ h. is_left gone h && watches (n ∷ []) topic h)
    (λ h. moved (is_on topic h.channel && h.channel.presence) (n == h.channel.number) (has h.channel.number gone))
    now.members
    ∙ filter_and (watches (n ∷ []) topic) (is_left gone) now.members

turned : (a b : Bool) → (a && not b) ≡ (not b && (a && true))
turned true true = refl
turned true false = refl
turned false true = refl
turned false false = refl

module _ (now : Now) (gone : List ℕ) where
  leave_same : (n : ℕ) (o : Option Track) → leave_diffs now (n ∷ gone) o ≡ leave_diffs (left_by now gone) (n ∷ []) o
  leave_same n None = refl
  leave_same n (Some t) = ap (map (diff_to [] (t ∷ []))) (left_watches now n gone t.topic)

  departs_same : (h : Member) → has h.channel.number gone ≡ false → depart now gone h ≡ depart (left_by now gone) [] h
  departs_same h stays =
      let n = h.channel.number in
      ap (λ (ps : List Part). Departs n ∷ ps) (leave_same n (track_of now n)
      ∙ ap (leave_diffs (left_by now gone) (n ∷ [])) (sym (leaves_tracks now gone n stays)))

  closes_same : (h : Member) → has h.channel.number gone ≡ false → close now gone h ≡ close (left_by now gone) [] h
  closes_same h stays = ap (λ (ps : List Part). tell h.channel.slot (close_message h.channel) ++ ps)
      (departs_same h stays)

  pub parts_of_left : PartsAreOfTheLeft now gone
  parts_of_left =
      record {
        departs = departs_same;
        closes = closes_same;
        fails = λ reason h stays.
            ap (λ (ps : List Part). tell h.channel.slot (failed_message h.channel reason) ++ ps) (closes_same h stays);
        present = λ topic.
            let all : Track → Bool = λ t. bytes_eq t.topic topic && not (has t.channel []) in
            filter_same (λ t. bytes_eq t.topic topic && not (has t.channel gone)) (λ t. is_left_track gone t && all t)
            (λ t. turned (bytes_eq t.topic topic) (has t.channel gone)) now.tracks
            ∙ filter_and all (is_left_track gone) now.tracks;
      }

pub leaves_parts : DeparturesLeaveParts
leaves_parts now gone = parts_of_left now gone
