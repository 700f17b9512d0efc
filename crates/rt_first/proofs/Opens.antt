-- What is open on a slot, and the opening of the first form.
use Rattle.std.proofs.Common.{◌≡◌, ℕ, zero, suc, ◌+◌, ◌<◌, Bool, List, [], ◌∷◌, ◌++◌, map, Option, Some, None, ap, ◌∙◌, arith}
use Rattle.std.specs.Prelude.{slice_get, if◌then◌else◌}
use Rattle.std.specs.List.{range_with_len}
use Rattle.rt_value.specs.declared.claims.Claims.{Claims}
use Rattle.rt_value.specs.declared.row.Row.{Row}
use Rattle.rt_phx.specs.declared.message.Version.TheVariants.{V1}
use Rattle.rt_phx.specs.declared.end.EndName.TheVariants as end_name
use Rattle.rt_catalog.specs.declared.catalog.Catalog.{Catalog}
use Rattle.rt_entry.specs.declared.input.Input.TheVariants.{Opened}
use Rattle.rt_entry.specs.declared.input.Settings.{Settings}
use Rattle.rt_entry.specs.declared.story.Opening.{Opening}
use Rattle.rt_entry.specs.declared.story.Part.{Part}
use Rattle.rt_entry.specs.declared.story.Part.TheVariants.{Opens}
use Rattle.rt_entry.specs.Story.{Story, Line, opening_at, every_slot, now_of}
use Rattle.rt_entry.specs.Doings.{or_none, opening_in, end_if_open, doings, story}
use Rattle.rt_first.proofs.Bytes.{same_number}

-- the n-th number of a range is its begin and n
ranged : {A : Type 0} (f : ℕ → A) (k n i : ℕ) → i < n → slice_get (map f (range_with_len k n)) i ≡ Some (f (k + i))
ranged f k zero i lt = absurd (omega arith)
ranged f k (suc n) zero lt = let e : k ≡ k + 0 = omega arith in ap (λ (j : ℕ). Some (f j)) e
ranged f k (suc n) (suc i) lt =
    let e : (k + 1) + i ≡ k + suc i = omega arith in ranged f (k + 1) n i (omega arith) ∙ ap (λ (j : ℕ). Some (f j)) e

-- what a slot finds open is what the story leaves open
pub opening_found : (before : Story) (slot : ℕ) → slot < 256 → opening_in (now_of before) slot ≡ opening_at before slot
unfolding now_of every_slot
opening_found before slot lt =
    let e : 0 + slot ≡ slot = omega arith in
    ap (λ (o : Option (Option Opening)). or_none o) (ranged (opening_at before) 0 256 slot lt ∙ ap (λ (j : ℕ). Some (opening_at before j)) e)

abbrev pub opening_by : Claims → Opening
opening_by held = record { version = V1; claims = held; heard = 0 }

module _ (slot : ℕ) (held : Claims) where
  abbrev pub opened_line : Line
  opened_line = record { input = Opened slot V1 held; parts = Opens slot (opening_by held) ∷ [] }

  abbrev pub first_story : Story
  first_story = opened_line ∷ []

  pub still_open : opening_at first_story slot ≡ Some (opening_by held)
  still_open = ap (λ (b : Bool). if b then Some (opening_by held) else None) (same_number slot)

  module _ (c : Catalog) (s : Settings) (within : slot < 256) where
    pub opened_alone : (tables : List (List Row)) → doings c s (now_of []) tables (Opened slot V1 held) ≡ Opens slot (opening_by held) ∷ []
    unfolding doings now_of
    opened_alone tables =
        ap (λ (o : Option Opening). end_if_open (now_of []) slot end_name.Replaced o ++ Opens slot (opening_by held) ∷ [])
        (opening_found [] slot within)

    pub first_story_is : story c s (Opened slot V1 held ∷ []) ≡ first_story
    unfolding story
    first_story_is =
        let line : List Part → Line = λ parts. record { input = Opened slot V1 held; parts = parts } in
        ap (λ (parts : List Part). line parts ∷ []) (opened_alone _)
