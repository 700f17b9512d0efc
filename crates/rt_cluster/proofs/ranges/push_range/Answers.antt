use Rattle.std.proofs.Common.{◌≡◌, ◌≤◌, ◌+◌, ◌-◌, ◌++◌, ◌∷◌, [], ℕ, List, map, sym, ap, ◌∙◌, append_assoc, arith}
use Rattle.std.specs.List.{range_with_len}
use Rattle.std.proofs.lemmas.List.{map-append}
use Rattle.rt_cluster.specs.declared.dots.Dot.{Dot}
use Rattle.rt_cluster.specs.Operations.{dot_at}
use Rattle.rt_cluster.proofs.RangeLists.{range_more}
use Rattle.rt_cluster.proofs.ranges.push_range.Goals as goal

-- one dot behind those up to it
next : (before out more : List Dot) (node first number : ℕ) → first ≤ number
    → out ≡ before ++ map (dot_at node) (range_with_len first (number - first))
    → more ≡ out ++ dot_at node number ∷ []
    → more ≡ before ++ map (dot_at node) (range_with_len first (number + 1 - first))
next before out more node first number from so_far put =
    let count : number + 1 - first ≡ number - first + 1 = omega arith in
    let here : number ≡ first + (number - first) = omega arith in
    let dots : List Dot = map (dot_at node) (range_with_len first (number - first)) in
    put
    ∙ ap (λ (ds : List Dot). ds ++ dot_at node number ∷ []) so_far
    ∙ append_assoc before dots (dot_at node number ∷ [])
    ∙ ap (λ (k : ℕ). before ++ (dots ++ dot_at node k ∷ [])) here
    ∙ ap (λ (ds : List Dot). before ++ ds) (sym (ap (map (dot_at node)) (ap (range_with_len first) count
    ∙ range_more first (number - first))
    ∙ map-append (dot_at node) (range_with_len first (number - first)) ((first + (number - first)) ∷ [])))

pub loop-number-preserved : goal.loop-number-preserved
loop-number-preserved c =
    next c.args.out.now.items c.loop-number.out.items c.push.new.self.items c.args.last.now.node c.args.first
    c.loop-number.number c.loop-number.auto.number c.loop-number.invariant c.in_ok-push.ensures.items

pub returns : goal.returns
returns c =
    let last = c.args.last.now in
    let ended : c.loop-number.number ≡ last.number = omega arith in
    let so_far : c.loop-number.out.items ≡ c.args.out.now.items
    ++ map (dot_at last.node) (range_with_len c.args.first (last.number - c.args.first)) =
    c.loop-number.invariant
    ∙ ap (λ (k : ℕ). c.args.out.now.items ++ map (dot_at last.node) (range_with_len c.args.first (k - c.args.first)))
    ended in
    next c.args.out.now.items c.loop-number.out.items c.push-2.new.self.items last.node c.args.first last.number
    c.requires so_far c.in_ok-push-2.ensures.items
