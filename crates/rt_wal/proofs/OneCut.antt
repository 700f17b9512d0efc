-- Records are cut in one way at most.
use Rattle.std.proofs.Common.{◌≡◌, ℕ, ◌+◌, ◌<◌, ◌⊎◌, inl, inr, List, [], ◌∷◌, ◌++◌, length, refl, sym, ap, ◌∙◌, arith, append_assoc}
use Rattle.std.specs.Prelude.{All}
use Rattle.std.specs.List.{flat_map}
use Rattle.std.proofs.lemmas.List.{length_push}
use Rattle.std.proofs.lemmas.List.Elements.{All-tail}
use Rattle.rt_wal.specs.declared.records.Record.{Record}
use Rattle.rt_wal.specs.Batches.{IsOpen, IsWhole, IsCut, last_batch}

-- of two places in one list the first stands in the front of the other
record Same {X : Type 0} (front front' : List X) (x x' : X) (rest rest' : List X) : Type 0 where
  fronts : front ≡ front'
  elements : x ≡ x'
  rests : rest ≡ rest'

abbrev Within : {X : Type 0} → List X → List X → X → Type 0
Within {X} front front' x' = (more : List X) × (front ≡ front' ++ x' ∷ more)

places : {X : Type 0} (front front' : List X) (x x' : X) (rest rest' : List X) → front ++ x ∷ rest ≡ front' ++ x' ∷ rest'
    → Same front front' x x' rest rest' ⊎ (Within front front' x' ⊎ Within front' front x)
places [] [] x x' rest rest' e = inl (record { fronts = refl; elements = cc; rests = cc })
places [] (y ∷ front') x x' rest rest' e = let head : y ≡ x = cc in inr (inr (front', ap (λ h. h ∷ front') head))
places (y ∷ front) [] x x' rest rest' e = let head : y ≡ x' = cc in inr (inl (front, ap (λ h. h ∷ front) head))
places (y ∷ front) (y' ∷ front') x x' rest rest' e =
    let head : y ≡ y' = cc in
    let tail : front ++ x ∷ rest ≡ front' ++ x' ∷ rest' = cc in
    elim (places front front' x x' rest rest' tail) [
      | inl s ↦ let f = s.fronts in inl (record { fronts = cc; elements = s.elements; rests = s.rests })
      | inr (inl (more, m)) ↦ inr (inl (more, cc))
      | inr (inr (more, m)) ↦ inr (inr (more, cc))
    ]

-- no front of an open list is a whole batch
not_within : (max : ℕ) (records batch rest : List Record) → IsOpen max records → IsWhole max batch → records ≡ batch ++ rest → ⊥
not_within max records batch rest is_open w e =
    let place : records ≡ w.front ++ w.last ∷ rest = e ∙ ap (λ b. b ++ rest) w.parts ∙ append_assoc w.front (w.last ∷ []) rest in
    let few : length w.front + 1 < max = is_open w.front w.last rest place w.is_commit in
    let long : length batch ≡ length w.front + 1 = ap length w.parts ∙ length_push w.front w.last in
    let enough = w.enough in
    omega arith

-- two whole batches at the front of one list are one
first_batch : (max : ℕ) (a b rest rest' : List Record) → IsWhole max a → IsWhole max b → a ++ rest ≡ b ++ rest' → (a ≡ b) × (rest ≡ rest')
first_batch max a b rest rest' x y e =
    let left : a ++ rest ≡ x.front ++ x.last ∷ rest = ap (λ l. l ++ rest) x.parts ∙ append_assoc x.front (x.last ∷ []) rest in
    let right : b ++ rest' ≡ y.front ++ y.last ∷ rest' = ap (λ l. l ++ rest') y.parts ∙ append_assoc y.front (y.last ∷ []) rest' in
    elim (places x.front y.front x.last y.last rest rest' (sym left ∙ e ∙ right)) [
      | inl s ↦ (x.parts ∙ ap (λ f. f ++ x.last ∷ []) s.fronts ∙ ap (λ l. y.front ++ l ∷ []) s.elements ∙ sym y.parts, s.rests)
      | inr (inl (more, m)) ↦
          absurd (not_within max x.front b more x.open_before y (m ∙ sym (ap (λ l. l ++ more) y.parts ∙ append_assoc y.front (y.last ∷ []) more)))
      | inr (inr (more, m)) ↦
          absurd (not_within max y.front a more y.open_before x (m ∙ sym (ap (λ l. l ++ more) x.parts ∙ append_assoc x.front (x.last ∷ []) more)))
    ]

abbrev joined : List (List Record) → List Record
joined whole = flat_map (λ b. b) whole

one_split : (max : ℕ) (a b : List (List Record)) (rest rest' : List Record) → All (IsWhole max) a → All (IsWhole max) b → IsOpen max rest → IsOpen max rest'
    → joined a ++ rest ≡ joined b ++ rest' → (a ≡ b) × (rest ≡ rest')
one_split max [] [] rest rest' x y o o' e = (refl, e)
one_split max [] (b ∷ bs) rest rest' x y o o' e =
    absurd (not_within max rest b (joined bs ++ rest') o (y 0 b (omega arith)) (e ∙ append_assoc b (joined bs) rest'))
one_split max (a ∷ as') [] rest rest' x y o o' e =
    absurd (not_within max rest' a (joined as' ++ rest) o' (x 0 a (omega arith)) (sym e ∙ append_assoc a (joined as') rest))
one_split max (a ∷ as') (b ∷ bs) rest rest' x y o o' e =
    let first = first_batch max a b (joined as' ++ rest) (joined bs ++ rest') (x 0 a (omega arith)) (y 0 b (omega arith))
    (sym (append_assoc a (joined as') rest) ∙ e ∙ append_assoc b (joined bs) rest') in
    let others = one_split max as' bs rest rest' (All-tail (IsWhole max) a as' x) (All-tail (IsWhole max) b bs y) o o' first.1 in
    let f = first.0 in let g = others.0 in
    (cc, others.1)

pub cut_once : (max : ℕ) (records : List Record) (a b : List (List Record)) → IsCut max records a → IsCut max records b → a ≡ b
cut_once max records a b x y =
    let same = one_split max x.whole y.whole x.rest y.rest x.so_far.each y.so_far.each x.so_far.is_open y.so_far.is_open (sym x.so_far.parts ∙ y.so_far.parts) in
    x.ended ∙ ap (λ w. w ++ last_batch x.rest) same.0 ∙ ap (λ r. y.whole ++ last_batch r) same.1 ∙ sym y.ended
