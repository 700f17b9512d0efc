-- A text that is cut at its first blank.
use Rattle.std.proofs.Common.{◌≡◌, ℕ, suc, ◌<◌, Bool, true, false, cond, List, [], ◌∷◌}
use Rattle.std.proofs.Common.{◌++◌, length, Option, Some, None, Bor, refl, ap, ◌∙◌, arith}
use Rattle.std.specs.Prelude.{◌==◌, ◌≢◌, slice_index, option_map, MatchOption}
use Rattle.std.proofs.lemmas.Bool.{eqb-true}
use Rattle.rt_lines.specs.Words.{parted}

abbrev Lacks : List ℕ → Type 0
Lacks text = (i : ℕ) → i < length text → slice_index text i ≢ 32

differs : (b : ℕ) (t : Bool) → (b == 32) ≡ t → b ≢ 32 → (b == 32) ≡ false
differs b true e h = absurd (h (eqb-true b 32 e))
differs b false e h = e

tail : (b : ℕ) (text : List ℕ) → Lacks (b ∷ text) → Lacks text
tail b text h i below = h (suc i) (omega arith)

head : (b : ℕ) (text : List ℕ) → Lacks (b ∷ text) → (b == 32) ≡ false
head b text h = differs b (b == 32) refl (h 0 (omega arith))

uncut : (text : List ℕ) → Lacks text → parted text ≡ None
uncut [] h = refl
uncut (b ∷ text) h =
    ap (λ t. cond t (Some ([], text)) (option_map (λ parts. (b ∷ parts.0, parts.1)) (parted text))) (head b text h)
    ∙ ap (option_map (λ parts. (b ∷ parts.0, parts.1))) (uncut text (tail b text h))

cut : (before after : List ℕ) → Lacks before → parted (before ++ 32 ∷ after) ≡ Some (before, after)
cut [] after h = refl
cut (b ∷ before) after h =
    ap (λ t. cond t (Some ([], before ++ 32 ∷ after)) (option_map (λ parts. (b ∷ parts.0, parts.1))
    (parted (before ++ 32 ∷ after)))) (head b before h)
    ∙ ap (option_map (λ parts. (b ∷ parts.0, parts.1))) (cut before after (tail b before h))

abbrev pub IsPart : List ℕ → Option (Bor (List ℕ) × Bor (List ℕ)) → Type 0
IsPart text r = MatchOption r (parted text ≡ None) (λ parts. parted text ≡ Some (parts.0.now, parts.1.now))

pub part_is : (text : List ℕ) (r : Option (Bor (List ℕ) × Bor (List ℕ)))
    → MatchOption r (Lacks text) (λ x. (text ≡ x.0.now ++ 32 ∷ x.1.now) × Lacks x.0.now) → IsPart text r
part_is text None h = uncut text h
part_is text (Some x) h = ap parted h.0 ∙ cut x.0.now x.1.now h.1
