-- What taking a byte off the end of bytes leaves.
use Rattle.std.proofs.Common.{◌≡◌, ◌≢◌, ◌∙◌, ℕ, ◌+◌, ◌-◌, ◌⊎◌, inl, inr, Bool, true, false, List, [], ◌∷◌, ◌++◌, Option, Some, refl, ap, subst, sym, arith, length, take, cond}
use Rattle.std.specs.Prelude.{◌==◌, slice_get}
use Rattle.std.specs.Option.{option_map_or}
use Rattle.std.proofs.lemmas.Bool.{eqb-true, eq-eqb}
use Rattle.std.proofs.lemmas.List.{length-append}
use lib.Seq.{take-append_seam}
use Rattle.rt_wal.specs.Records.{ends_in, without_last}

at_end : (front : List ℕ) (x : ℕ) → slice_get (front ++ x ∷ []) (length front) ≡ Some x
at_end [] x = refl
at_end (y ∷ front) x = at_end front x

one_less : (front : List ℕ) (x : ℕ) → length (front ++ x ∷ []) - 1 ≡ length front
one_less front x = omega (arith, length-append front (x ∷ []))

ends : (front : List ℕ) (x b : ℕ) → ends_in b (front ++ x ∷ []) ≡ (x == b)
ends front x b =
    ap (λ (o : Option ℕ). option_map_or (λ last. last == b) o false)
    (ap (slice_get (front ++ x ∷ [])) (one_less front x) ∙ at_end front x)

abbrev left_by : ℕ → List ℕ → Bool → List ℕ
left_by b bytes t = cond t (take (length bytes - 1) bytes) bytes

-- a byte at the end is taken
pub last_taken : (front : List ℕ) (b : ℕ) → without_last b (front ++ b ∷ []) ≡ front
last_taken front b =
    ap (left_by b (front ++ b ∷ [])) (ends front b b ∙ eq-eqb b b refl)
    ∙ ap (λ (n : ℕ). take n (front ++ b ∷ [])) (one_less front b) ∙ take-append_seam front (b ∷ [])

abbrev Ended : List ℕ → Type 0
Ended bytes = (bytes ≡ []) ⊎ ((front : List ℕ) × (x : ℕ) × (bytes ≡ front ++ x ∷ []))

ended : (bytes : List ℕ) → Ended bytes
ended [] = inl refl
ended (y ∷ bytes) = by (ended bytes)
  where
    by : Ended bytes → Ended (y ∷ bytes)
    by (inl e) = inr ([], y, ap (λ (l : List ℕ). y ∷ l) e)
    by (inr (front, x, e)) = inr (y ∷ front, x, ap (λ (l : List ℕ). y ∷ l) e)

-- bytes that don't end in it stay
pub last_kept : (b : ℕ) (bytes : List ℕ) → ((front : List ℕ) → bytes ≢ front ++ b ∷ []) → without_last b bytes ≡ bytes
last_kept b bytes differs = by (ended bytes)
  where
    stays : (front : List ℕ) (x : ℕ) → bytes ≡ front ++ x ∷ [] → (t : Bool) → (x == b) ≡ t
        → without_last b (front ++ x ∷ []) ≡ front ++ x ∷ []
    stays front x e true t = absurd (differs front (e ∙ ap (λ (y : ℕ). front ++ y ∷ []) (eqb-true x b t)))
    stays front x e false t = ap (left_by b (front ++ x ∷ [])) (ends front x b ∙ t)

    by : Ended bytes → without_last b bytes ≡ bytes
    by (inl e) = subst (λ (l : List ℕ). without_last b l ≡ l) (sym e) refl
    by (inr (front, x, e)) = subst (λ (l : List ℕ). without_last b l ≡ l) (sym e) (stays front x e (x == b) refl)
