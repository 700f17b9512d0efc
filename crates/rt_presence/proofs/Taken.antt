-- One element more of a list that is gone through.
use Rattle.std.proofs.Common.{◌≡◌, ℕ, ◌+◌, ◌<◌, List, [], ◌∷◌, ◌++◌, Option, Some, None, option_to_list, length, take}
use Rattle.std.proofs.Common.{get_or, refl, ap, sym, ◌∙◌}
use Rattle.std.specs.List.{filter_map, cons_option}
use Rattle.std.proofs.lemmas.List.{take_more}
use Rattle.std.proofs.lemmas.List.Elements.{filter_map-append}

single : {B : Type 0} (o : Option B) → cons_option o [] ≡ option_to_list o
single None = refl
single (Some y) = refl

pub picked_more : {A B : Type 0} (pick : A → Option B) (xs : List A) (i : ℕ) (x : A) → i < length xs → x ≡ get_or xs i x
    → filter_map pick (take (i + 1) xs) ≡ filter_map pick (take i xs) ++ option_to_list (pick x)
picked_more {A} pick xs i x within is =
    ap (filter_map pick) (take_more xs i x within ∙ ap (λ (y : A). take i xs ++ y ∷ []) (sym is))
    ∙ filter_map-append pick (take i xs) (x ∷ [])
    ∙ ap (λ ys. filter_map pick (take i xs) ++ ys) (single (pick x))
