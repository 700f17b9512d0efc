-- What steps leave within its limit: the journal's length, and the messages that an outbox holds.
use Rattle.std.proofs.Common.{◌≡◌, ℕ, zero, suc, ◌+◌, ◌≤◌, false, List, [], ◌∷◌, ◌++◌, length, drop, ap, arith, add-one}
use Rattle.std.specs.Prelude.{nat_le}
use Rattle.std.proofs.lemmas.Bool.Decides.{nat_tests}
use Rattle.std.proofs.lemmas.List.Sums.{sum_by-append}
use Rattle.rt_catalog.specs.declared.catalog.Catalog.{Catalog}
use Rattle.rt_entry.specs.declared.input.Settings.{Settings}
use Rattle.rt_entry.specs.declared.input.Step.{Step}
use Rattle.rt_entry.specs.declared.answer.Item.{Item}
use Rattle.rt_entry.specs.declared.answer.Item.TheVariants.{Message, End}
use Rattle.rt_entry.specs.Machine.{Slot, World, Placed, start, with_slot, with_given, with_cut, outbox, messages_in}
use Rattle.rt_entry.specs.Machine.{is_full_for, run}
use Rattle.rt_laws.proofs.Good.{with_all}
use Rattle.rt_laws.proofs.Stepping.{Keeps, one_popped, run_keeps}
use Rattle.rt_laws.proofs.Lists.{drop_none}

-- what an outbox holds

both : (xs ys : List Item) → messages_in (xs ++ ys) ≡ messages_in xs + messages_in ys
both xs ys = sum_by-append _ xs ys

one_more : (n : ℕ) (xs : List Item) (x : Item)
    → messages_in (drop n (xs ++ x ∷ [])) ≤ messages_in (drop n xs) + messages_in (x ∷ [])
one_more zero xs x = let e = both xs (x ∷ []) in omega arith
one_more (suc n) [] x = let e = ap messages_in (drop_none {A = Item} n) in omega arith
one_more (suc n) (y ∷ xs) x = one_more n xs x

one_less : (n : ℕ) (xs : List Item) → messages_in (drop (suc n) xs) ≤ messages_in (drop n xs)
one_less zero [] = omega arith
one_less zero (x ∷ xs) = let e = both (x ∷ []) xs in omega arith
one_less (suc n) [] = omega arith
one_less (suc n) (x ∷ xs) = one_less n xs

module _ (c : Catalog) (s : Settings) where
  abbrev Fits : Slot → Type 0
  Fits x = messages_in (outbox x) ≤ s.capacity

  given_fits : (x : Slot) (p : Placed) → Fits x → is_full_for c s x p.item ≡ false → Fits (with_given x p)
  given_fits x p h room = by p.item (one_more x.popped x.given p.item) room
    where
      by : (i : Item) → messages_in (drop x.popped (x.given ++ p.item ∷ [])) ≤ messages_in (outbox x)
          + messages_in (i ∷ [])
          → is_full_for c s x i ≡ false → Fits (with_given x p)
      by (Message bytes) le e = let few : messages_in (outbox x) + 1 ≤ s.capacity = grind (arith, nat_tests) in
          omega arith
      by (End name) le e = omega arith

  cut_fits : (x : Slot) (p : Placed) → Fits x → Fits (with_cut x p)
  cut_fits x p h = omega (arith, one_more x.popped x.given)

  popped_fits : (x : Slot) → Fits x → Fits (one_popped x)
  popped_fits x h = rw add-one (omega (arith, one_less x.popped x.given))

  abbrev AllFit : World → Type 0
  AllFit w = (slot : ℕ) → Fits (w.slots slot)

  slot_fits : (w : World) (slot : ℕ) (x : Slot) → AllFit w → Fits x → AllFit (with_slot w slot x)
  slot_fits w slot x all h = with_all (λ n y. Fits y) w.slots slot x h all

  outboxes_keep : Keeps c s AllFit
  outboxes_keep = record {
    inlet = λ w slot is h. slot_fits w slot (record (w.slots slot) { inlet = is }) h (h slot);
    feed = λ w is h. h;
    clock = λ w is h. h;
    journal = λ w i h room. h;
    sent = λ w l h more. h;
    worked = λ w l h more. h;
    given = λ w slot p ps h e room. slot_fits w slot (with_given (w.slots slot) p) h
        (given_fits (w.slots slot) p (h slot) room);
    cut = λ w slot p ps h e full. slot_fits w slot (with_cut (w.slots slot) p) h (cut_fits (w.slots slot) p (h slot));
    popped = λ w slot h. slot_fits w slot (one_popped (w.slots slot)) h (popped_fits (w.slots slot) (h slot));
  }

  pub outboxes_within : (steps : List Step) (slot : ℕ)
      → messages_in (outbox ((run c s steps start).slots slot)) ≤ s.capacity
  outboxes_within steps = run_keeps c s AllFit outboxes_keep steps start (λ slot. omega arith)

  -- what the journal took

  abbrev Short : World → Type 0
  Short w = length w.journal ≤ s.inputs

  room_for_one : (n m : ℕ) → nat_le n m ≡ false → suc m ≤ n
  room_for_one n m e = grind (arith, nat_tests)

  journal_keeps : Keeps c s Short
  journal_keeps = record {
    inlet = λ w slot is h. h;
    feed = λ w is h. h;
    clock = λ w is h. h;
    journal = λ w i h room. room_for_one s.inputs (length w.journal) room;
    sent = λ w l h more. h;
    worked = λ w l h more. h;
    given = λ w slot p ps h e room. h;
    cut = λ w slot p ps h e full. h;
    popped = λ w slot h. h;
  }

  pub journal_within : (steps : List Step) → length (run c s steps start).journal ≤ s.inputs
  journal_within steps = run_keeps c s Short journal_keeps steps start (omega arith)
