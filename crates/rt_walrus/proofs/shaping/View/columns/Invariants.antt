use Rattle.std.proofs.Common.{◌≡◌, ◌++◌}
use Rattle.rt_walrus.specs.Sides.{shown_column}
use Rattle.rt_walrus.proofs.Given.{given_from}
use Rattle.rt_walrus.proofs.shaping.View.columns.Given as goal

abbrev pub invariant-loop-at : goal.invariant-loop-at
invariant-loop-at l =
    let column = shown_column l.self.catalog.now l.self.role l.self.max l.self.change.now in
    l.trees.items ++ given_from column l.columns l.at ≡ given_from column l.columns 0
