-- Joins, renewals, broadcasts and tracks of every input.
use Rattle.std.proofs.Common.{◌≡◌, ◌⊎◌, ℕ, true, List, refl, inl, inr}
use Rattle.std.specs.Prelude.{⊤, codes, Contains}
use Rattle.std.specs.Str.{bytes_eq}
use Rattle.rt_value.proofs.Among.{from_contains, to_contains}
use Rattle.rt_value.proofs.Plain.{AllOf, Maybe, all_among}
use Rattle.rt_phx.specs.declared.message.Message.{Message}
use Rattle.rt_catalog.specs.declared.catalog.Catalog.{Catalog}
use Rattle.rt_entry.specs.declared.input.Input.{Input}
use Rattle.rt_entry.specs.declared.input.Settings.{Settings}
use Rattle.rt_entry.specs.declared.story.Part.{Part}
use Rattle.rt_entry.specs.declared.story.Part.TheVariants.{Opens, Ends, Tells, Joins, Renews, Tracks, Untracks, Departs}
use Rattle.rt_entry.specs.declared.answer.Answer.{Answer}
use Rattle.rt_entry.specs.declared.answer.Answer.TheVariants.{Says}
use Rattle.rt_entry.specs.Answers.{answer_of, answers_by, answers}
use Rattle.rt_entry.specs.After.{done_by, found_by}
use Rattle.rt_entry.specs.Members.{members_of_journal}
use Rattle.rt_laws.specs.Private.{IsSent, IsPosted, JoinsAreJudged, RenewalsAreJudged, BroadcastsArePermitted}
use Rattle.rt_laws.specs.Private.{TracksArePermitted, tables_by}
use Rattle.rt_entry.proofs.Once.{numbers_apart}
use Rattle.rt_laws.proofs.Shaping.{all_filter_map}
use Rattle.rt_laws.proofs.PrivateParts.{AreNumbered, Permitted, all_doings}

module _ (c : Catalog) (s : Settings) where
  pub numbered : (journal : List Input) → AreNumbered (members_of_journal c s journal)
  numbered journal g h here there e =
      let ms = members_of_journal c s journal in
      numbers_apart c s journal g h (to_contains ms g here) (to_contains ms h there) e

  module _ (before : List Input) (i : Input) where
    -- a broadcast on the topic has its sender
    abbrev Heard : List ℕ → Type 0
    Heard topic = IsSent c s before i topic ⊎ IsPosted c s before i topic

    abbrev Given : Part → Type 0
    Given = Permitted c s (found_by c s before) (tables_by c s before i) Heard

    all_given : AllOf Given (done_by c s before i)
    all_given =
        let ms = members_of_journal c s before in
        all_doings c s (found_by c s before) (tables_by c s before i) Heard (numbered before) i
        (λ slot bytes frame h here own may. inl (record {
          slot = slot;
          bytes = bytes;
          frame = frame;
          member = h;
          known = to_contains ms h here;
          own = own;
          topical = refl;
          permitted = may;
        }))
        (λ slot claims ps post p here may. inr (record {
          slot = slot;
          claims = claims;
          messages = ps;
          post = post;
          message = p;
          known = to_contains ps p here;
          topical = refl;
          permitted = may;
        }))

    pub given : (p : Part) → Contains (done_by c s before i) p → Given p
    given p there = all_among Given (done_by c s before i) p all_given (from_contains (done_by c s before i) p there)

    abbrev Said : ℕ × Answer → Type 0
    Said (slot, Says m) = bytes_eq m.event (codes "broadcast") ≡ true → Heard m.topic
    Said (slot, a) = ⊤

    said_of : (p : Part) → Given p → Maybe Said (answer_of p)
    said_of (Tells n m) g = g
    said_of (Opens n o) g = tt
    said_of (Ends n name) g = tt
    said_of (Joins ch) g = tt
    said_of (Renews n x) g = tt
    said_of (Tracks t) g = tt
    said_of (Untracks n) g = tt
    said_of (Departs n) g = tt

    all_said : AllOf Said (answers c s before i)
    unfolding answers_by
    all_said = all_filter_map Given Said answer_of (done_by c s before i) said_of all_given

    pub said : (slot : ℕ) (m : Message) → Contains (answers c s before i) (slot, Says m) → Said (slot, Says m)
    said slot m there = all_among Said (answers c s before i) (slot, Says m) all_said
        (from_contains (answers c s before i) (slot, Says m) there)

  pub joins_judged : JoinsAreJudged c s
  joins_judged before i ch there = given before i (Joins ch) there

  pub renewals_judged : RenewalsAreJudged c s
  renewals_judged before i number x there =
      let r = given before i (Renews number x) there in
      record { member = r.0; known = to_contains (members_of_journal c s before) r.0 r.1; numbered = r.2; judged = r.3 }

  pub broadcasts_permitted : BroadcastsArePermitted c s
  broadcasts_permitted before i slot m there e = said before i slot m there e

  pub tracks_permitted : TracksArePermitted c s
  tracks_permitted before i t there =
      let r = given before i (Tracks t) there in
      record {
        member = r.0;
        known = to_contains (members_of_journal c s before) r.0 r.1;
        numbered = r.2;
        topical = r.3;
        permitted = r.4;
      }
