-- A list of three words.
use Rattle.std.proofs.Common.{◌≡◌, ℕ, ◌<◌, ◌≤◌, List, [], ◌∷◌, length, get_or, map, Bor, refl, arith}

pub three_words : (ws : List (Bor (List ℕ))) (d : Bor (List ℕ)) → 3 ≤ length ws → length ws < 4
    → map (λ w. w.now) ws ≡ (get_or ws 0 d).now ∷ (get_or ws 1 d).now ∷ (get_or ws 2 d).now ∷ []
three_words [] d least below = absurd (omega arith)
three_words (a ∷ []) d least below = absurd (omega arith)
three_words (a ∷ b ∷ []) d least below = absurd (omega arith)
three_words (a ∷ b ∷ c ∷ []) d least below = refl
three_words (a ∷ b ∷ c ∷ e ∷ ws) d least below = absurd (omega arith)
