use Rattle.json_lines.proofs.Steps.{in_memory}
use Rattle.json_lines.proofs.lines.answers.Goals as goal

pub returns : goal.returns
returns c = in_memory c.args.input.now c.new-output.result.items c.answer_lines.new.output.items c.new-output.ensures.items c.in_ok-answer_lines.ensures
