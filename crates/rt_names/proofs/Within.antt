-- A number put within a schema.
use Rattle.std.proofs.Common.{◌≡◌, ℕ, Bool, true, false, ◌&&◌, cond, List, Option, Some, refl, sym, ap, ◌∙◌}
use Rattle.std.specs.Prelude.{String}
use Rattle.std.specs.Str.{bytes_eq}
use Rattle.std.specs.HashMap.{HashMap, get_by_text}
use Rattle.std.proofs.lemmas.Slice.Eq.{bytes_eq-Decides}
use Rattle.rt_names.specs.Numbers.{number_of}

module _ {A S : Type 0} (schema s name q : List ℕ) (number : ℕ) (w v : HashMap (String A) ℕ S)
    (old rest new : List ℕ → Option (HashMap (String A) ℕ S))
    (taken : get_by_text w q ≡ number_of (old schema) q)
    (others : bytes_eq schema s ≡ false → rest s ≡ old s)
    (named : get_by_text v q ≡ cond (bytes_eq name q) (Some number) (get_by_text w q))
    (back : new s ≡ cond (bytes_eq schema s) (Some v) (rest s)) where
  abbrev put_over : Bool → Option ℕ → Option ℕ
  put_over b o = cond (b && bytes_eq name q) (Some number) o

  abbrev within : Option (HashMap (String A) ℕ S) → Option ℕ
  within o = number_of o q

  put_where : (b : Bool) → bytes_eq schema s ≡ b → within (new s) ≡ put_over b (within (old s))
  put_where true e =
      let same : schema ≡ s = (bytes_eq-Decides schema s).0 e in
      ap within (back ∙ ap (λ (b : Bool). cond b (Some v) (rest s)) e) ∙ named ∙ ap (put_over true) taken
      ∙ ap (λ (t : List ℕ). put_over true (within (old t))) same
  put_where false e =
      ap within (back ∙ ap (λ (b : Bool). cond b (Some v) (rest s)) e ∙ others e)

  pub put_within : within (new s) ≡ put_over (bytes_eq schema s) (within (old s))
  put_within = put_where (bytes_eq schema s) refl
