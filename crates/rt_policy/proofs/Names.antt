-- A name that is none of a list's.
use Rattle.std.proofs.Common.{◌≡◌, ℕ, Bool, true, false, cond, List, [], ◌∷◌, ◌++◌, Option, Some, refl, ap, sym}
use Rattle.std.proofs.Common.{◌∙◌}
use Rattle.std.specs.Prelude.{find, option_map, unwrap_or}
use Rattle.std.specs.Str.{bytes_eq}
use Rattle.std.proofs.lemmas.Slice.Eq.{bytes_eq-Decides}
use Rattle.rt_value.specs.declared.value.Kind.{Kind}
use Rattle.rt_value.specs.declared.value.Kind.TheVariants.{Opaque}
use Rattle.rt_policy.specs.Types.{TypeMeaning}

abbrev Named : Type 0
Named = List ℕ × TypeMeaning

abbrev first_of : List ℕ → List Named → Option Named
first_of name pairs = find (λ n. bytes_eq n.0 name) pairs

not_where : (b : Bool) (word name : List ℕ) → (b ≡ true → word ≡ name) → (name ≡ word → ⊥) → b ≡ false
not_where true word name same other = absurd (other (sym (same refl)))
not_where false word name same other = refl

abbrev pub IsNoneOf : List ℕ → List (List ℕ × TypeMeaning) → Type 0
IsNoneOf name [] = Unit {0}
IsNoneOf name (p ∷ ps) = (name ≡ p.0 → ⊥) × IsNoneOf name ps

passed_over : (name : List ℕ) (pairs more : List Named) → IsNoneOf name pairs →
    first_of name (pairs ++ more) ≡ first_of name more
passed_over name [] more others = refl
passed_over name (p ∷ ps) more others =
    ap (λ b. cond b (Some p) (first_of name (ps ++ more)))
    (not_where (bytes_eq p.0 name) p.0 name (bytes_eq-Decides p.0 name).0 others.0)
    ∙ passed_over name ps more others.1

abbrev pub AreOpaque : List (List ℕ × TypeMeaning) → Type 0
AreOpaque [] = Unit {0}
AreOpaque (p ∷ ps) = (p.1.kind ≡ Opaque) × AreOpaque ps

abbrev kind_or : TypeMeaning → Option Named → Kind
kind_or last found = (unwrap_or (option_map (λ n. n.1) found) last).kind

opaque_or : (b : Bool) (p : Named) (found : Option Named) (last : TypeMeaning) → p.1.kind ≡ Opaque →
    kind_or last found ≡ Opaque →
    kind_or last (cond b (Some p) found) ≡ Opaque
opaque_or true p found last here rest = here
opaque_or false p found last here rest = rest

opaque_of : (name : List ℕ) (pairs : List Named) (last : TypeMeaning) → AreOpaque pairs → last.kind ≡ Opaque →
    kind_or last (first_of name pairs) ≡ Opaque
opaque_of name [] last opaque other = other
opaque_of name (p ∷ ps) last opaque other =
    opaque_or (bytes_eq p.0 name) p (first_of name ps) last opaque.0 (opaque_of name ps last opaque.1 other)

-- a name that is none of the first ones is of an opaque type
pub opaque_behind : (name : List ℕ) (pairs more : List (List ℕ × TypeMeaning)) (last : TypeMeaning) →
    IsNoneOf name pairs → AreOpaque more → last.kind ≡ Opaque →
    (unwrap_or (option_map (λ n. n.1) (find (λ n. bytes_eq n.0 name) (pairs ++ more))) last).kind ≡ Opaque
opaque_behind name pairs more last others opaque other =
    ap (kind_or last) (passed_over name pairs more others) ∙ opaque_of name more last opaque other
