-- One more line keeps the cut.
use Rattle.std.proofs.Common.{◌≡◌, ℕ, ◌+◌, ◌<◌, ◌≤◌, ◌⊎◌, inl, inr, Bool, true, false, not, ◌&&◌, List, [], ◌∷◌, ◌++◌, length, refl, sym, ap, ◌∙◌, subst, arith, append_assoc, append-nil}
use Rattle.std.specs.Prelude.{filter, nat_le}
use Rattle.std.specs.List.{AllZip, flat_map}
use Rattle.std.proofs.lemmas.Bool.{leb-true, leb-false, and_parts}
use Rattle.std.proofs.lemmas.Grind.{flat_map-append}
use Rattle.std.proofs.lemmas.List.{length_push}
use Rattle.std.proofs.lemmas.List.Elements.{All-push, filter-append}
use Rattle.rt_wal.specs.declared.records.Record.{Record}
use Rattle.rt_wal.specs.declared.batching.Batching.{Batching}
use Rattle.rt_wal.specs.declared.batching.Batching.TheVariants.{Batch, More}
use Rattle.rt_wal.specs.Records.{IsRecord}
use Rattle.rt_wal.specs.Batches.{is_blank, is_commit, IsOpen, IsWhole, IsCutSoFar, Waiting, HasCut, batches_in, ends_batch, IsNext, TakesLine, blank, taken}

second : (a b : Bool) → (a && b) ≡ false → a ≡ true → b ≡ false
second true b h k = h
second false b h k = cc

not_nil : {X : Type 0} (front : List X) (x : X) (rest : List X) → [] ≡ front ++ x ∷ rest → ⊥
not_nil [] x rest e = cc
not_nil (y ∷ front) x rest e = cc

-- an element of a list with one more at its end is that one, or is of the list
snoc_split : {X : Type 0} (xs front : List X) (last x : X) (rest : List X) → xs ++ last ∷ [] ≡ front ++ x ∷ rest
    → ((front ≡ xs) × (x ≡ last)) ⊎ ((more : List X) × (xs ≡ front ++ x ∷ more))
snoc_split [] [] last x rest e = inl (refl, cc)
snoc_split [] (y ∷ front) last x rest e = let tail : [] ≡ front ++ x ∷ rest = cc in absurd (not_nil front x rest tail)
snoc_split (a ∷ xs) [] last x rest e = inr (xs, cc)
snoc_split (a ∷ xs) (y ∷ front) last x rest e =
    let tail : xs ++ last ∷ [] ≡ front ++ x ∷ rest = cc in
    let head : y ≡ a = cc in
    elim (snoc_split xs front last x rest tail) [
      | inl (f, l) ↦ inl (cc, l)
      | inr (more, m) ↦ inr (more, cc)
    ]

pub open_nil : (max : ℕ) → IsOpen max []
open_nil max front entry rest e commit = absurd (not_nil front entry rest e)

pub open_push : (max : ℕ) (records : List Record) (entry : Record) → IsOpen max records → ends_batch max records entry ≡ false → IsOpen max (records ++ entry ∷ [])
open_push max records entry is_open ends front last rest e commit = by_place (snoc_split records front entry last rest e)
  where
    by_place : ((front ≡ records) × (last ≡ entry)) ⊎ ((more : List Record) × (records ≡ front ++ last ∷ more)) → length front + 1 < max
    by_place (inl (f, l)) =
        let commits : is_commit entry.action ≡ true = ap (λ (r : Record). is_commit r.action) (sym l) ∙ commit in
        let few = second (is_commit entry.action) (nat_le max (length records + 1)) ends commits in
        let less : length records + 1 < max = leb-false max (length records + 1) few in
        let same : length front ≡ length records = ap length f in
        omega arith
    by_place (inr (more, m)) = is_open front last more m commit

zip_push : {A B : Type 0} (R : A → B → Type 0) (xs : List A) (ys : List B) (x : A) (y : B) → AllZip R xs ys → R x y → AllZip R (xs ++ x ∷ []) (ys ++ y ∷ [])
zip_push R [] [] x y h r = (r, tt)
zip_push R [] (b ∷ ys) x y h r = absurd h
zip_push R (a ∷ xs) [] x y h r = absurd h
zip_push R (a ∷ xs) (b ∷ ys) x y h r = (h.0, zip_push R xs ys x y h.1 r)

abbrev shown : List (List ℕ) → List (List ℕ)
shown lines = filter (λ l. not (is_blank l)) lines

shown_blank : (lines : List (List ℕ)) (line : List ℕ) → is_blank line ≡ true → shown (lines ++ line ∷ []) ≡ shown lines
shown_blank lines line h =
    let one : shown (line ∷ []) ≡ [] = rw h refl in
    filter-append (λ l. not (is_blank l)) lines (line ∷ []) ∙ ap (λ t. shown lines ++ t) one ∙ append-nil (shown lines)

shown_push : (lines : List (List ℕ)) (line : List ℕ) → is_blank line ≡ false → shown (lines ++ line ∷ []) ≡ shown lines ++ line ∷ []
shown_push lines line h =
    let one : shown (line ∷ []) ≡ line ∷ [] = rw h refl in
    filter-append (λ l. not (is_blank l)) lines (line ∷ []) ∙ ap (λ t. shown lines ++ t) one

-- the records cut, with one more that ends a batch
cut_batch : (max : ℕ) (records : List Record) (given : List (List Record)) (rest : List Record) (entry : Record) → IsCutSoFar max records given rest → ends_batch max rest entry ≡ true
    → IsCutSoFar max (records ++ entry ∷ []) (given ++ (rest ++ entry ∷ []) ∷ []) []
cut_batch max records given rest entry cut ends =
    let tests = and_parts (is_commit entry.action) (nat_le max (length rest + 1)) ends in
    let enough : max ≤ length rest + 1 = leb-true max (length rest + 1) tests.1 in
    let long : length (rest ++ entry ∷ []) ≡ length rest + 1 = length_push rest entry in
    let whole : IsWhole max (rest ++ entry ∷ []) = record { front = rest; last = entry; parts = refl; open_before = cut.is_open; is_commit = tests.0; enough = omega arith } in
    let flat : flat_map (λ b. b) (given ++ (rest ++ entry ∷ []) ∷ []) ≡ flat_map (λ b. b) given ++ (rest ++ entry ∷ []) =
    flat_map-append (λ b. b) given ((rest ++ entry ∷ []) ∷ []) ∙ ap (λ t. flat_map (λ b. b) given ++ t) (append-nil (rest ++ entry ∷ [])) in
    record {
      parts = ap (λ t. t ++ entry ∷ []) cut.parts ∙ append_assoc (flat_map (λ b. b) given) rest (entry ∷ []) ∙ sym flat ∙ sym (append-nil (flat_map (λ b. b) (given ++ (rest ++ entry ∷ []) ∷ [])));
      each = All-push (IsWhole max) given (rest ++ entry ∷ []) cut.each whole;
      is_open = open_nil max;
    }

-- the records cut, with one more that ends none
cut_more : (max : ℕ) (records : List Record) (given : List (List Record)) (rest : List Record) (entry : Record) → IsCutSoFar max records given rest → ends_batch max rest entry ≡ false
    → IsCutSoFar max (records ++ entry ∷ []) given (rest ++ entry ∷ [])
cut_more max records given rest entry cut ends = record {
  parts = ap (λ t. t ++ entry ∷ []) cut.parts ∙ append_assoc (flat_map (λ b. b) given) rest (entry ∷ []);
  each = cut.each;
  is_open = open_push max rest entry cut.is_open ends;
}

cut_next : (records : List Record) (given : List (List Record)) (old new : Waiting) (entry : Record) (answer : Batching) → IsCutSoFar old.max records given old.records → IsNext old entry answer new
    → IsCutSoFar new.max (records ++ entry ∷ []) (given ++ batches_in answer) new.records
cut_next records given old new entry (Batch batch) cut next =
    let P : List Record → Type 0 = λ b. IsCutSoFar old.max (records ++ entry ∷ []) (given ++ b ∷ []) [] in
    subst (λ (w : Waiting). IsCutSoFar w.max (records ++ entry ∷ []) (given ++ batch ∷ []) w.records) (sym next.2)
    (subst P (sym next.1) (cut_batch old.max records given old.records entry cut next.0))
cut_next records given old new entry More cut next =
    subst (λ (w : Waiting). IsCutSoFar w.max (records ++ entry ∷ []) (given ++ []) w.records) (sym next.1)
    (subst (λ (g : List (List Record)). IsCutSoFar old.max (records ++ entry ∷ []) g (old.records ++ entry ∷ [])) (sym (append-nil given))
    (cut_more old.max records given old.records entry cut next.0))

pub keeps_cut : (lines : List (List ℕ)) (given : List (List Record)) (old new : Waiting) (line : List ℕ) (answer : Batching) → HasCut lines given old → TakesLine old line answer new
    → HasCut (lines ++ line ∷ []) (given ++ batches_in answer) new
keeps_cut lines given old new line answer has (blank b a n) = record {
  records = has.records;
  are_records = subst (λ (s : List (List ℕ)). AllZip IsRecord s has.records) (sym (shown_blank lines line b)) has.are_records;
  so_far =
      subst (λ (w : Waiting). IsCutSoFar w.max has.records (given ++ batches_in answer) w.records) (sym n)
      (subst (λ (g : List (List Record)). IsCutSoFar old.max has.records g old.records) (sym (ap (λ t. given ++ batches_in t) a ∙ append-nil given)) has.so_far);
}
keeps_cut lines given old new line answer has (taken entry b is next) = record {
  records = has.records ++ entry ∷ [];
  are_records = subst (λ (s : List (List ℕ)). AllZip IsRecord s (has.records ++ entry ∷ [])) (sym (shown_push lines line b))
      (zip_push IsRecord (shown lines) has.records line entry has.are_records is);
  so_far = cut_next has.records given old new entry answer has.so_far next;
}
