-- The claims of a script: a role, and nothing else.
use Rattle.std.proofs.Common.{◌≡◌, ℕ, List, Option, Some, None, ap}
use Rattle.rt_value.specs.declared.claims.Claims.{Claims}
use Rattle.rt_value.specs.Choice.{◌>>=◌}
use Rattle.rt_json.specs.Computes.{json_computes}
use Rattle.rt_json.specs.declared.tree.Json.{Json}
use Rattle.rt_json.proofs.Meaning.{tree_again}
use Rattle.rt_token.specs.Claims.{claims_with, claims_in_tree}
use Rattle.rt_script.specs.Reading.{claims_of_tree, claims_in}
use Rattle.rt_form.specs.Script.{IsClaims, claims_tree}

abbrev pub held_by : List ℕ → Claims
held_by role = claims_with (claims_tree role) None role

pub claims_found : (role claims : List ℕ) → IsClaims role claims → claims_in claims ≡ Some (held_by role)
unfolding json_computes claims_in_tree
claims_found role claims h = ap (λ (o : Option Json). o >>= λ tree. claims_of_tree (claims_in_tree tree)) (tree_again claims (claims_tree role) h)
