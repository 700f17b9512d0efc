use Rattle.std.proofs.Common.{◌≡◌, ◌≤◌, ℕ, List, map, reverse, drop, length, Bor}
use Rattle.std.specs.List.{list_any}
use Rattle.std.specs.Str.{bytes_eq}
use Rattle.std.specs.Cmp.Lexicographic.{slice_cmp}
use Rattle.std.specs.Ordering.{nat_cmp}
use Rattle.std.specs.BTreeSet.{contains}
use Rattle.rt_json.specs.declared.tree.named.Member.{Member}
use Rattle.rt_token.specs.Claims.{claim_of_member, last_of_each}
use Rattle.rt_token.proofs.claims.claims_in.Given as goal

-- the claims of the members from the place on, the last one first, and the set has just their names
abbrev pub invariant-loop-at : goal.invariant-loop-at
invariant-loop-at l = record {
  within : l.at ≤ length l.members;
  found : reverse l.claims.items ≡ map claim_of_member (last_of_each (drop l.at l.members));
  names : (q : Bor (List ℕ)) → contains (λ a b. slice_cmp nat_cmp a.now b.now) l.names q ≡ list_any (λ (m : Member). bytes_eq m.name q.now) (drop l.at l.members);
}

abbrev pub decreases-loop-at : goal.decreases-loop-at
decreases-loop-at l = l.at
