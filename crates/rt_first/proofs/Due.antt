-- What is printed of all that is due, where one slot alone is told anything.
use Rattle.std.proofs.Common.{◌≡◌, ◌≢◌, ℕ, zero, suc, ◌+◌, ◌<◌, ◌≤◌, List, [], ◌∷◌, ◌++◌, refl, sym, ap, ◌∙◌, arith, append-nil, inl, inr}
use Rattle.std.specs.Prelude.{flat_map}
use Rattle.std.specs.List.{range_with_len}
use Rattle.std.proofs.lemmas.Bool.Decides.{eqb_tells}
use Rattle.rt_phx.specs.declared.message.Message.{Message}
use Rattle.rt_phx.specs.declared.message.Version.TheVariants.{V1}
use Rattle.rt_phx.specs.Frame.{spelled}
use Rattle.rt_catalog.specs.declared.catalog.Catalog.{Catalog}
use Rattle.rt_entry.specs.declared.input.Input.{Input}
use Rattle.rt_entry.specs.declared.input.Settings.{Settings}
use Rattle.rt_entry.specs.declared.answer.Answer.TheVariants.{Opened as opened, Says as says}
use Rattle.rt_entry.specs.declared.answer.Item.{Item}
use Rattle.rt_entry.specs.declared.answer.Item.TheVariants as item
use Rattle.rt_entry.specs.Story.{every_slot}
use Rattle.rt_entry.specs.Answers.{Answers, told, items_for, all_answers}
use Rattle.rt_script.specs.Running.{item_line, printed_due}
use Rattle.rt_first.proofs.Bytes.{same_number, other_number}

-- nothing of other numbers
flat_none : {A : Type 0} (f : ℕ → List A) (k n slot : ℕ) → ((i : ℕ) → i ≢ slot → f i ≡ [])
    → slot < k → flat_map f (range_with_len k n) ≡ []
flat_none f k zero slot none lt = refl
flat_none {A} f k (suc n) slot none lt =
    let ne : k ≢ slot = omega arith in
    ap (λ (xs : List A). xs ++ flat_map f (range_with_len (k + 1) n)) (none k ne) ∙ flat_none f (k + 1) n slot none (omega arith)

flat_one : {A : Type 0} (f : ℕ → List A) (k n slot : ℕ) → ((i : ℕ) → i ≢ slot → f i ≡ [])
    → k ≤ slot → slot < k + n → flat_map f (range_with_len k n) ≡ f slot
flat_one f k zero slot none le lt = absurd (omega arith)
flat_one {A} f k (suc n) slot none le lt = elim (eqb_tells k slot) [
  | inl t ↦ let beyond : slot < k + 1 = let e = t.1 in omega arith in
      ap (λ (xs : List A). f k ++ xs) (flat_none f (k + 1) n slot none beyond) ∙ append-nil (f k) ∙ ap f t.1
  | inr t ↦ let ne = t.1 in
      ap (λ (xs : List A). xs ++ flat_map f (range_with_len (k + 1) n)) (none k ne) ∙ flat_one f (k + 1) n slot none (omega arith) (omega arith)
]

-- an opening in version 1, and three messages
abbrev pub three_to : ℕ → Message → Message → Message → Answers
three_to slot a b d = (slot, opened V1) ∷ (slot, says a) ∷ (slot, says b) ∷ (slot, says d) ∷ []

abbrev lines_of : ℕ → Answers → List ℕ
lines_of slot given = flat_map (item_line slot) (items_for slot given)

module _ (slot : ℕ) (a b d : Message) where
  abbrev pub spelled_three : List Item
  spelled_three = item.Message (spelled V1 a) ∷ item.Message (spelled V1 b) ∷ item.Message (spelled V1 d) ∷ []

  at_slot_itself : items_for slot (three_to slot a b d) ≡ spelled_three
  unfolding told
  at_slot_itself = let e = same_number slot in rw e refl

  at_others : (i : ℕ) → i ≢ slot → lines_of i (three_to slot a b d) ≡ []
  unfolding told
  at_others i ne = let e = other_number slot i (λ s. ne (sym s)) in rw e refl

  pub three_printed : (c : Catalog) (s : Settings) (journal : List Input) → slot < 256 → all_answers c s journal ≡ three_to slot a b d
      → printed_due c s journal ≡ flat_map (item_line slot) spelled_three
  unfolding printed_due every_slot
  three_printed c s journal lt e =
      ap (λ (given : Answers). flat_map (λ i. lines_of i given) (range_with_len 0 256)) e
      ∙ flat_one (λ i. lines_of i (three_to slot a b d)) 0 256 slot at_others (omega arith) (omega arith)
      ∙ ap (flat_map (item_line slot)) at_slot_itself
