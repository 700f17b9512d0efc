use Rattle.std.proofs.Common.{◌≡◌, ◌++◌}
use Rattle.rt_walrus.specs.Sides.{shown_member}
use Rattle.rt_walrus.proofs.Given.{given_from}
use Rattle.rt_walrus.proofs.shaping.View.record.Given as goal

abbrev pub invariant-loop-at : goal.invariant-loop-at
invariant-loop-at l =
    let member = shown_member l.self.catalog.now l.self.role l.self.max l.self.change.now l.side in
    l.members.items ++ given_from member l.columns l.at ≡ given_from member l.columns 0
