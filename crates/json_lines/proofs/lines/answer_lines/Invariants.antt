use Rattle.json_lines.proofs.Steps.{Part}
use Rattle.json_lines.proofs.lines.answer_lines.Given as goal

abbrev pub invariant-lines : goal.invariant-lines
invariant-lines g l = Part (g.R.Read.remaining l.initial.input) (g.R.Read.remaining l.input) (g.W.Write.contents l.initial.output) (g.W.Write.contents l.output)
