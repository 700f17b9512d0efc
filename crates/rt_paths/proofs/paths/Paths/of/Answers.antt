use Rattle.std.proofs.Common.{◌≡◌, ℕ, ◌<◌, Bool, List, length, ap, ◌∙◌, arith}
use Rattle.std.specs.Vec.{with_items}
use Rattle.std.proofs.lemmas.List.{with_items_is}
use Rattle.rt_paths.specs.Square.{Square, cell, is_step}
use Rattle.rt_paths.proofs.Leading.{leads_inside, leads_by_paths}
use Rattle.rt_paths.proofs.paths.Paths.of.Goals as goal

pub returns-clause-through : goal.returns-clause-through
returns-clause-through c = λ t u h k.
    let cells : List Bool = (with_items c.in_ok-cells.cells c.connect.new.cells).items in
    let kept : length c.connect.new.cells ≡ c.in_ok-cells.cells.len = omega arith in
    let same : cells ≡ c.connect.new.cells = with_items_is c.in_ok-cells.cells c.connect.new.cells kept in
    let s : Square = record { count = c.args.count; cells = cells } in
    leads_inside s t u h k ∙ ap (λ (xs : List Bool). cell xs c.args.count t u) same ∙ c.connect.ensures t u h k

pub returns-clause-paths : goal.returns-clause-paths
returns-clause-paths c = λ below.
    let cells : List Bool = (with_items c.in_ok-cells.cells c.connect.new.cells).items in
    let s : Square = record { count = c.args.count; cells = cells } in
    leads_by_paths (is_step c.args.steps.now) s (returns-clause-through c) (λ t u h. (below t u h).0) (λ t u h. (below t u h).1)
