-- Lists cut at a byte, and lists compared one element at a time.
use Rattle.std.proofs.Common.{codes, ◌^◌, Option, Some, None, length-append, ◌≡◌, ◌≢◌, ℕ, zero, suc, ◌+◌, ◌<◌, List, []}
use Rattle.std.proofs.Common.{◌∷◌, ◌++◌, length, Bor, refl, ap, sym, arith, ◌∙◌}
use Rattle.rt_wal.specs.Records.{without_last}
use Rattle.rt_form.specs.Script.{Lacks, AreEnded, AreLines, AreParts, slot_line}
use Rattle.std.specs.Prelude.{slice_index, MatchOption, ◌%◌, not, Bool, true, false, IsTrue, ◌↔◌}
use Rattle.std.specs.Fmt.{decimal}
use Rattle.std.specs.Str.{bytes_eq}
use Rattle.std.proofs.lemmas.Slice.Eq.{bytes_eq-Decides}
use Rattle.std.proofs.lemmas.Fmt.{decimal_by_steps, decimal_injective}
use Rattle.std.proofs.lemmas.List.{append_cancel_left}

lacks_tail : (byte a : ℕ) (bytes : List ℕ) → Lacks byte (a ∷ bytes) → Lacks byte bytes
lacks_tail byte a bytes h i below = h (suc i) (omega arith)

pub lacks_behind : (byte : ℕ) (front bytes : List ℕ) → Lacks byte (front ++ bytes) → Lacks byte bytes
lacks_behind byte [] bytes h = h
lacks_behind byte (a ∷ front) bytes h = lacks_behind byte front bytes (lacks_tail byte a (front ++ bytes) h)

-- what is cut at the first such byte is cut in one way
pub cut_once : (byte : ℕ) (a b x y : List ℕ) → Lacks byte a → Lacks byte b → a ++ byte ∷ x ≡ b ++ byte ∷ y → (a ≡ b)
    × (x ≡ y)
cut_once byte [] [] x y la lb e = (refl, cc)
cut_once byte [] (c ∷ b) x y la lb e = let head : byte ≡ c = cc in absurd (lb 0 (omega arith) (sym head))
cut_once byte (c ∷ a) [] x y la lb e = let head : c ≡ byte = cc in absurd (la 0 (omega arith) head)
cut_once byte (c ∷ a) (d ∷ b) x y la lb e =
    let head : c ≡ d = cc in
    let tail : a ++ byte ∷ x ≡ b ++ byte ∷ y = cc in
    let rest = cut_once byte a b x y (lacks_tail byte c a la) (lacks_tail byte d b lb) tail in
    (cc, rest.1)

-- what stands at the seam
at_seam : (byte : ℕ) (before after : List ℕ) → slice_index (before ++ byte ∷ after) (length before) ≡ byte
at_seam byte [] after = refl
at_seam byte (b ∷ before) after = at_seam byte before after

abbrev pub CutsAt : ℕ → List ℕ → Option (Bor (List ℕ) × Bor (List ℕ)) → Type 0
CutsAt byte text r =
    MatchOption r ((before after : List ℕ) → Lacks byte before → text ≡ before ++ byte ∷ after → ⊥)
    (λ parts. Lacks byte parts.0.now × (text ≡ parts.0.now ++ byte ∷ parts.1.now))

pub cuts_at : (byte : ℕ) (text : List ℕ) (r : Option (Bor (List ℕ) × Bor (List ℕ)))
    → MatchOption r (Lacks byte text) (λ x. (text ≡ x.0.now ++ byte ∷ x.1.now) × Lacks byte x.0.now)
    → CutsAt byte text r
cuts_at byte text None h = λ before after lacks e.
    let whole : length text ≡ length before + suc (length after) = ap length e ∙ length-append before (byte ∷ after) in
    h (length before) (omega arith) (ap (λ t. slice_index t (length before)) e ∙ at_seam byte before after)
cuts_at byte text (Some x) h = (h.1, h.0)

pub lacks_both : (byte : ℕ) (a b : List ℕ) → Lacks byte a → Lacks byte b → (i : ℕ) → i < length (a ++ b)
    → slice_index (a ++ b) i ≢ byte
lacks_both byte [] b la lb i h = lb i h
lacks_both byte (x ∷ a) b la lb zero h = la 0 (omega arith)
lacks_both byte (x ∷ a) b la lb (suc i) h = lacks_both byte a b (lacks_tail byte x a la) lb i (omega arith)

one_digit : (n : ℕ) → n < 10 → Lacks 32 ((48 + n) ∷ [])
one_digit n h zero below = λ e. absurd (let f : 48 + n ≡ 32 = e in omega arith)
one_digit n h (suc i) below = absurd (omega arith)

-- no blank stands among digits
pub no_blank : (n : ℕ) → n < 2 ^ 64 → Lacks 32 (decimal n)
no_blank n h = decimal_by_steps (λ n ds. Lacks 32 ds) one_digit
    (λ n ds at_least lacks. lacks_both 32 ds ((48 + n % 10) ∷ []) lacks (one_digit (n % 10) (omega arith))) n h

-- two ways to cut a text at its first such byte
pub off : (byte : ℕ) (text a x b y : List ℕ) → Lacks byte a × (text ≡ a ++ byte ∷ x) → Lacks byte b → text ≡ b ++ byte
    ∷ y → (a ≡ b) × (x ≡ y)
off byte text a x b y c lacks e = cut_once byte a b x y c.0 lacks (sym c.1 ∙ e)

pub lacks_or_has : (byte : ℕ) (text : List ℕ) (r : Bool)
    → (r ≡ true → (k : ℕ) × (k < length text) × (slice_index text k ≡ byte))
    × ((k : ℕ) → k < length text → slice_index text k ≡ byte → r ≡ true)
    → IsTrue r ↔ (Lacks byte text → ⊥)
lacks_or_has byte text true h = ((λ t lacks. let k = h.0 refl in lacks k.0 k.1 k.2), (λ f. refl))
lacks_or_has byte text false h = (
  (λ t. absurd (let bad : false ≡ true = t in cc)),
  (λ f. absurd (f (λ i below e. let bad : false ≡ true = h.1 i below e in cc))),
)

pub same_slot : (word : List ℕ) (a b : ℕ) (x y : List ℕ) → a < 2 ^ 64 → b < 2 ^ 64
    → slot_line word a x ≡ slot_line word b y → (a ≡ b) × (x ≡ y)
same_slot word a b x y small_a small_b e =
    let same = cut_once 32 (decimal a) (decimal b) x y (no_blank a small_a) (no_blank b small_b)
    (append_cancel_left word _ _ e) in
    (decimal_injective a b small_a small_b same.0, same.1)

same_ended : {text o f w p a b c d : List ℕ} → AreEnded text o f w p → AreEnded text a b c d → (o ≡ a) × (f ≡ b)
    × (w ≡ c) × (p ≡ d)
same_ended {text} {o} {f} {w} {p} {a} {b} {c} {d} g h =
    let one = cut_once 10 o a _ _ g.open_ends h.open_ends (sym g.are ∙ h.are) in
    let two = cut_once 10 f b _ _ g.frame_ends h.frame_ends one.1 in
    let three = cut_once 10 w c _ _ g.wal_ends h.wal_ends two.1 in
    let four = cut_once 10 p d _ _ g.poll_ends h.poll_ends three.1 in
    (one.0, two.0, three.0, four.0)

pub same_lines : {text o f w p a b c d : List ℕ} → AreLines text o f w p → AreLines text a b c d → (o ≡ a) × (f ≡ b)
    × (w ≡ c) × (p ≡ d)
same_lines g h =
    let s = same_ended g.ended h.ended in (
      g.open_is ∙ ap (without_last 13) s.0 ∙ sym h.open_is,
      g.frame_is ∙ ap (without_last 13) s.1 ∙ sym h.frame_is,
      g.wal_is ∙ ap (without_last 13) s.2 ∙ sym h.wal_is,
      g.poll_is ∙ ap (without_last 13) s.3 ∙ sym h.poll_is,
    )

pub unequal_texts : (xs ys : List ℕ) (b : Bool) → b ≡ not (bytes_eq xs ys) → b ≡ true → xs ≡ ys → ⊥
unequal_texts xs ys b is differ e = let t : bytes_eq xs ys ≡ true = (bytes_eq-Decides xs ys).1 e in
    let bad : true ≡ false = sym differ ∙ is ∙ ap not t in cc

-- the parts of a script are read in one way
pub parts_once : (text : List ℕ) (a w : ℕ) (b c d x y z : List ℕ) → AreParts text a b c d → AreParts text w x y z
    → (a ≡ w) × (b ≡ x) × (c ≡ y) × (d ≡ z)
parts_once text a w b c d x y z g h =
    let s = same_lines g.1 h.1 in
    let one = same_slot (codes "open ") a w (codes "1.0.0 " ++ b) (codes "1.0.0 " ++ x) (omega (arith, g.0))
    (omega (arith, h.0)) s.0 in
    let two = same_slot (codes "frame ") a w c y (omega (arith, g.0)) (omega (arith, h.0)) s.1 in
    (one.0, append_cancel_left (codes "1.0.0 ") b x one.1, two.1, append_cancel_left (codes "wal ") d z s.2)
