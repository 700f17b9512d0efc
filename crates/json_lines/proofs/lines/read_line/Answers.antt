use Rattle.std.proofs.Common.{[], Ok, ap}
use Rattle.json_lines.proofs.Shown.{no_part, keeps_same, parts_more, parts_whole}
use Rattle.json_lines.proofs.lines.read_line.Goals as goal

pub parts-init : goal.parts-init
parts-init g c =
    let left = g.R.Read.remaining in
    no_part (left c.args.input.now) (left c.args.input.now) [] c.clear.new.self.items (keeps_same (left c.args.input.now)) c.clear.ensures.items

pub parts-preserved : goal.parts-preserved
parts-preserved g c =
    let left = g.R.Read.remaining in
    parts_more (left c.args.input.now) (left c.parts.input) (left c.read_part.new.input) [] c.parts.line.items c.read_part.new.line.items c.parts.invariant (c.in_ok-read_part.ensures.part (ap Ok c.if-branch.false))

pub returns-then-branch : goal.returns-then-branch
returns-then-branch g c =
    let left = g.R.Read.remaining in
    parts_whole (left c.args.input.now) (left c.parts.input) (left c.read_part.new.input) [] c.parts.line.items c.read_part.new.line.items c.parts.invariant (c.in_ok-read_part.ensures.whole (ap Ok c.if-branch.true))
