-- A text that is compared with a picture, byte by byte, and the place of a zone's sign.
use Rattle.std.proofs.Common.{◌≡◌, ℕ, suc, ◌+◌, ◌<◌, ◌≤◌, Bool, true, false, ◌&&◌, not, cond, List, [], ◌∷◌, length, take, drop, refl, sym, ap, ◌∙◌, arith, drop-cons}
use Rattle.std.specs.List.{slice_index, position_or_len}
use Rattle.std.proofs.Math.ListN.{drop_of_length-le}
use Rattle.std.proofs.lemmas.List.{length-take}
use Rattle.rt_value.specs.Moments.{is_like, looks_like, is_zone_sign}

pub drop_at : (xs : List ℕ) (i : ℕ) → i < length xs → drop i xs ≡ slice_index xs i ∷ drop (i + 1) xs
drop_at xs i h =
    let one : suc i ≡ i + 1 = omega arith in
    drop-cons xs i 0 h ∙ ap (λ n. slice_index xs i ∷ drop n xs) one

-- with the bytes up to a place alike, the rest decides
pub record IsLikeUpTo (picture text : List ℕ) (i : ℕ) : Type 0 where
  pub long : length picture ≡ length text
  pub rest : looks_like (drop i picture) (drop i text) ≡ looks_like picture text

pub like_none : (picture text : List ℕ) → length picture ≡ length text → IsLikeUpTo picture text 0
like_none picture text h = record { long = h; rest = refl }

step : (picture text : List ℕ) (i : ℕ) → i < length picture → length picture ≡ length text
    → looks_like (drop i picture) (drop i text) ≡ (is_like (slice_index picture i) (slice_index text i) && looks_like
    (drop (i + 1) picture) (drop (i + 1) text))
unfolding looks_like
step picture text i h e = rw (drop_at picture i h, drop_at text i (omega (arith, h, e))) refl

pub like_more : (picture text : List ℕ) (i : ℕ) → IsLikeUpTo picture text i → i < length picture
    → is_like (slice_index picture i) (slice_index text i) ≡ true → IsLikeUpTo picture text (i + 1)
like_more picture text i w h e =
    record {
      long = w.long;
      rest = sym (step picture text i h w.long ∙ ap
          (λ b. b && looks_like (drop (i + 1) picture) (drop (i + 1) text)) e) ∙ w.rest;
    }

pub like_differs : (picture text : List ℕ) (i : ℕ) → IsLikeUpTo picture text i → i < length picture
    → is_like (slice_index picture i) (slice_index text i) ≡ false → looks_like picture text ≡ false
like_differs picture text i w h e =
    sym w.rest ∙ step picture text i h w.long ∙ ap (λ b. b && looks_like (drop (i + 1) picture) (drop (i + 1) text)) e

pub like_all : (picture text : List ℕ) (i : ℕ) → IsLikeUpTo picture text i → length picture ≤ i
    → looks_like picture text ≡ true
unfolding looks_like
like_all picture text i w h =
    let none : drop i picture ≡ [] = drop_of_length-le picture h in
    let long : length text ≤ i = omega (arith, h, w.long) in
    let empty : drop i text ≡ [] = drop_of_length-le text long in
    sym w.rest ∙ rw (none, empty) refl

pub not_as_long : (picture text : List ℕ) → (length picture ≡ length text → ⊥) → looks_like picture text ≡ false
unfolding looks_like
not_as_long [] [] h = absurd (h refl)
not_as_long [] (b ∷ text) h = refl
not_as_long (m ∷ picture) [] h = refl
not_as_long (m ∷ picture) (b ∷ text) h =
    ap (λ x. is_like m b && x) (not_as_long picture text (λ e. h (ap suc e))) ∙ no (is_like m b)
  where
    no : (b : Bool) → (b && false) ≡ false
    no true = refl
    no false = refl

pub too_long : (picture text : List ℕ) → length picture < length text → looks_like (take (length text) picture) text
    ≡ false
too_long picture text h = not_as_long (take (length text) picture) text
    (λ e. omega (arith, h, e, length-take (length text) picture))

-- no sign up to a place
pub record HasNoSignUpTo (text : List ℕ) (i : ℕ) : Type 0 where
  pub rest : i + position_or_len is_zone_sign (drop i text) ≡ position_or_len is_zone_sign text

pub sign_none : (text : List ℕ) → HasNoSignUpTo text 0
sign_none text = record { rest = omega arith }

pub sign_later : (text : List ℕ) (i : ℕ) → HasNoSignUpTo text i → i < length text → is_zone_sign (slice_index text i)
    ≡ false → HasNoSignUpTo text (i + 1)
sign_later text i w h e =
    let more : position_or_len is_zone_sign (drop i text) ≡ 1 + position_or_len is_zone_sign (drop (i + 1) text) =
    ap (position_or_len is_zone_sign) (drop_at text i h)
    ∙ ap (λ b. cond (not b) (1 + position_or_len is_zone_sign (drop (i + 1) text)) 0) e in
    record { rest = omega (arith, w.rest, more) }

pub sign_here : (text : List ℕ) (i : ℕ) → HasNoSignUpTo text i → i < length text → is_zone_sign (slice_index text i)
    ≡ true → i ≡ position_or_len is_zone_sign text
sign_here text i w h e =
    let here : position_or_len is_zone_sign (drop i text) ≡ 0 =
    ap (position_or_len is_zone_sign) (drop_at text i h)
    ∙ ap (λ b. cond (not b) (1 + position_or_len is_zone_sign (drop (i + 1) text)) 0) e in
    omega (arith, w.rest, here)

pub sign_nowhere : (text : List ℕ) (i : ℕ) → HasNoSignUpTo text i → i ≡ length text → i
    ≡ position_or_len is_zone_sign text
sign_nowhere text i w h =
    let none : position_or_len is_zone_sign (drop i text) ≡ 0 = let long : length text ≤ i = omega (arith, h) in ap
    (position_or_len is_zone_sign) (drop_of_length-le text long) in
    omega (arith, w.rest, none)
