-- The last member of each name, one more from behind.
use Rattle.std.proofs.Common.{◌≡◌, ℕ, ◌+◌, ◌<◌, List, [], ◌∷◌, ◌++◌, length, get_or, drop, map, reverse, refl, ap, sym, ◌∙◌, cond}
use Rattle.std.specs.Prelude.{Bool, true, false, not, ◌||◌}
use Rattle.std.specs.List.{list_any}
use Rattle.std.specs.Str.{bytes_eq}
use Rattle.std.proofs.lemmas.List.{drop_more, reverse-append}
use Rattle.rt_json.specs.declared.tree.named.Member.{Member}
use Rattle.rt_value.specs.declared.claims.Claim.{Claim}
use Rattle.rt_token.specs.Claims.{claim_of_member, last_of_each}

-- a name is one of these
abbrev pub among : List ℕ → List Member → Bool
among name members = list_any (λ (n : Member). bytes_eq n.name name) members

or_is : (a b : Bool) → cond a true b ≡ (a || b)
or_is true b = refl
or_is false b = refl

-- the member before a place
module _ (members : List Member) (at before : ℕ) (m : Member) (name : List ℕ) (next : before + 1 ≡ at) (within : before < length members) (is : m ≡ get_or members before m) (called : name ≡ m.name) where
  here : drop before members ≡ m ∷ drop at members
  here = drop_more members before m within ∙ ap (λ (x : Member). x ∷ drop (before + 1) members) (sym is) ∙ ap (λ (n : ℕ). m ∷ drop n members) next

  last_here : (b : Bool) → among name (drop at members) ≡ b
      → last_of_each (drop before members) ≡ elim b [ true ↦ last_of_each (drop at members) | false ↦ m ∷ last_of_each (drop at members) ]
  last_here b h =
      ap last_of_each here
      ∙ ap (λ (t : Bool). elim t [ true ↦ last_of_each (drop at members) | false ↦ m ∷ last_of_each (drop at members) ]) (ap (λ (n : List ℕ). among n (drop at members)) (sym called) ∙ h)

  -- its name comes again
  pub left_out : (claims : List Claim) → among name (drop at members) ≡ true → reverse claims ≡ map claim_of_member (last_of_each (drop at members))
      → reverse claims ≡ map claim_of_member (last_of_each (drop before members))
  left_out claims again h = h ∙ ap (map claim_of_member) (sym (last_here true again))

  -- its name doesn't come again
  pub taken : (claims : List Claim) (claim : Claim) → claim ≡ claim_of_member m → among name (drop at members) ≡ false
      → reverse claims ≡ map claim_of_member (last_of_each (drop at members)) → reverse (claims ++ claim ∷ []) ≡ map claim_of_member (last_of_each (drop before members))
  taken claims claim made new h =
      reverse-append claims (claim ∷ []) ∙ ap (λ (c : Claim). c ∷ reverse claims) made ∙ ap (λ (cs : List Claim). claim_of_member m ∷ cs) h
      ∙ ap (map claim_of_member) (sym (last_here false new))

  -- the names, with this one
  pub named : (q : List ℕ) (had has : Bool) → had ≡ among q (drop at members) → has ≡ cond (bytes_eq name q) true had → has ≡ among q (drop before members)
  named q had has h e =
      e ∙ ap (cond (bytes_eq name q) true) h ∙ or_is (bytes_eq name q) (among q (drop at members)) ∙ ap (λ (n : List ℕ). bytes_eq n q || among q (drop at members)) called
      ∙ ap (among q) (sym here)
