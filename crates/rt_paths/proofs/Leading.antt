-- What a square says of paths.
use Rattle.std.proofs.Common.{◌≡◌, ◌↔◌, ℕ, ◌<◌, Bool, true, ◌&&◌, ap, ◌∙◌, sym}
use Rattle.std.specs.Prelude.{nat_lt}
use Rattle.std.proofs.lemmas.Bool.{and_parts, lt-ltb, ltb-true}
use Rattle.rt_catalog.specs.Rings as r
use Rattle.rt_catalog.specs.Rings.{Path, through}
use Rattle.rt_catalog.proofs.Paths.{starts_below, paths_computed}
use Rattle.rt_paths.specs.Square.{Square, cell, leads}

pub leads_inside : (s : Square) (t u : ℕ) → t < s.count → u < s.count → leads s t u ≡ cell s.cells s.count t u
leads_inside s t u h k =
    ap (λ b. b && nat_lt u s.count && cell s.cells s.count t u) (lt-ltb t s.count h)
    ∙ ap (λ b. b && cell s.cells s.count t u) (lt-ltb u s.count k)

-- the last number of a path is below n, where that of each step is
pub ends_below : {steps : ℕ → ℕ → Bool} {t u : ℕ} (n : ℕ) → ((t u : ℕ) → steps t u ≡ true → u < n) → Path steps t u → u < n
ends_below n below (r.straight {t} {u} e) = below t u e
ends_below n below (r.over e p) = ends_below n below p

module _ (steps : ℕ → ℕ → Bool) (s : Square)
    (closed : (t u : ℕ) → t < s.count → u < s.count → leads s t u ≡ through steps s.count t u)
    (from : (t u : ℕ) → steps t u ≡ true → t < s.count) (to : (t u : ℕ) → steps t u ≡ true → u < s.count) where
  found : (t u : ℕ) → leads s t u ≡ true → Path steps t u
  found t u h =
      let outer = and_parts (nat_lt t s.count && nat_lt u s.count) (cell s.cells s.count t u) h in
      let inner = and_parts (nat_lt t s.count) (nat_lt u s.count) outer.0 in
      let row : t < s.count = ltb-true t s.count inner.0 in
      let column : u < s.count = ltb-true u s.count inner.1 in
      (paths_computed steps s.count from t u).0 (sym (closed t u row column) ∙ h)

  computed : (t u : ℕ) → Path steps t u → leads s t u ≡ true
  computed t u p =
      closed t u (starts_below s.count from p) (ends_below s.count to p) ∙ (paths_computed steps s.count from t u).1 p

  pub leads_by_paths : (t u : ℕ) → (leads s t u ≡ true) ↔ Path steps t u
  leads_by_paths t u = (found t u, computed t u)
