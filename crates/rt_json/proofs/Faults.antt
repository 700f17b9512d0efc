-- What an outcome says of a text, clause by clause.
use Rattle.std.proofs.Common.{◌≡◌, ℕ, ◌-◌, ◌≤◌, List, Some, None, ap, subst, sym, ◌∙◌, length}
use Rattle.rt_json.specs.Grammar.{IsJson, IsBadAt, IsTooDeepAt}
use Rattle.rt_json.specs.Machine as m
use Rattle.rt_json.specs.Machine.{Outcome, is_tree, bad, too_deep, outcome, start, tree_of}
use Rattle.rt_json.specs.declared.tree.Json.{Json}
use Rattle.rt_json.proofs.Meaning.{Means, outcome_means, json_outcome}

pub tree_is : (bytes : List ℕ) (t : Json) → outcome start bytes ≡ is_tree t → IsJson bytes t
tree_is bytes t e = subst (Means bytes) e (outcome_means bytes)

pub bad_is : (bytes : List ℕ) (left : ℕ) → outcome start bytes ≡ bad left → (left ≤ length bytes) × IsBadAt bytes (length bytes - left)
bad_is bytes left e = subst (Means bytes) e (outcome_means bytes)

pub deep_is : (bytes : List ℕ) (left : ℕ) → outcome start bytes ≡ too_deep left → (left ≤ length bytes) × IsTooDeepAt bytes (length bytes - left)
deep_is bytes left e = subst (Means bytes) e (outcome_means bytes)

pub same_tree : (bytes : List ℕ) (t : Json) → outcome start bytes ≡ is_tree t → (u : Json) → IsJson bytes u → t ≡ u
same_tree bytes t e u h = let f = json_outcome bytes u h in let both : is_tree t ≡ is_tree u = sym e ∙ f in cc

pub computed_tree : (bytes : List ℕ) (t : Json) → outcome start bytes ≡ is_tree t → tree_of bytes ≡ Some t
unfolding tree_of
computed_tree bytes t e = ap m.tree_in e

pub computed_bad : (bytes : List ℕ) (left : ℕ) → outcome start bytes ≡ bad left → tree_of bytes ≡ None
unfolding tree_of
computed_bad bytes left e = ap m.tree_in e

pub computed_deep : (bytes : List ℕ) (left : ℕ) → outcome start bytes ≡ too_deep left → tree_of bytes ≡ None
unfolding tree_of
computed_deep bytes left e = ap m.tree_in e
