use Rattle.std.proofs.Common.{◌≡◌, ◌<◌, ◌∙◌, length, rules}
use Rattle.json_lines.specs.Lines.{HasAnswered}
use Rattle.json_lines.proofs.Shown.{whole_end}
use Rattle.json_lines.proofs.Steps.{part_none, part_more, all_done, on_ok}
use Rattle.json_lines.proofs.lines.answer_lines.Goals as goal

pub lines-init : goal.lines-init
lines-init g c = part_none (g.R.Read.remaining c.args.input.now) (g.W.Write.contents c.args.output.now)

pub lines-preserved : goal.lines-preserved
lines-preserved g c =
    let left = g.R.Read.remaining in
    let held = g.W.Write.contents in
    let line = c.read_line.new.line.items in
    let some : 0 < length line = search rules in
    part_more (left c.args.input.now) (left c.lines.input) (left c.read_line.new.input) (held c.args.output.now) (held c.lines.output) (held c.write_all.new.self)
    line c.in_ok-line.line.items c.deref.result.now c.lines.invariant some c.in_ok-read_line.ensures c.in_ok-line.ensures
    (c.deref.ensures.value ∙ c.in_ok-push.ensures.items) c.in_ok-write_all.ensures.bytes

pub returns-then-is_empty : goal.returns-then-is_empty
returns-then-is_empty g c =
    let left = g.R.Read.remaining in
    let held = g.W.Write.contents in
    let none : length c.read_line.new.line.items ≡ 0 = search rules in
    on_ok (HasAnswered (left c.args.input.now) (held c.args.output.now) (held c.flush.new.self)) c.flush.result
    (all_done (left c.args.input.now) (left c.lines.input) (held c.args.output.now) (held c.lines.output) (held c.flush.new.self) c.lines.invariant (whole_end (left c.lines.input) (left c.read_line.new.input) c.read_line.new.line.items c.in_ok-read_line.ensures none) c.flush.ensures.bytes)
