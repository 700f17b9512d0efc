-- A set of dots as a map whose keys are the dots.
use Rattle.std.proofs.Common.{◌≡◌, Bool, true, false, ◌||◌, cond, List, [], ◌∷◌, Option, Some, is_some, refl, ap, ◌∙◌}
use Rattle.std.specs.BTreeMap.{is_at}
use Rattle.std.specs.Map.{keys_of}
use Rattle.rt_ptree.specs.Entries.{value_at}
use Rattle.rt_cluster.specs.declared.dots.Dot.{Dot}
use Rattle.rt_cluster.specs.Operations.{is_dot, is_among}
use Rattle.rt_cluster.specs.Index.{dot_cmp}
use Rattle.rt_cluster.proofs.Indexed.{at_is_dot}

module _ {V : Type 0} where
  some_or : (b : Bool) (v : V) (o : Option V) → is_some (cond b (Some v) o) ≡ (b || is_some o)
  some_or true v o = refl
  some_or false v o = refl

  pub has_key : (es : List (Dot × V)) (d : Dot) → is_some (value_at dot_cmp es d) ≡ is_among (keys_of es) d
  has_key [] d = refl
  has_key (e ∷ es) d =
      some_or (is_at (dot_cmp d) e.0) e.1 (value_at dot_cmp es d)
      ∙ ap (λ b. b || is_some (value_at dot_cmp es d)) (at_is_dot d e.0)
      ∙ ap (λ b. is_dot d e.0 || b) (has_key es d)
