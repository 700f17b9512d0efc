use Rattle.std.proofs.Common.{[]}
use Rattle.json_lines.specs.Parts.{Takes, IsPart}
use Rattle.json_lines.proofs.lines.read_line.Given as goal

abbrev pub invariant-parts : goal.invariant-parts
invariant-parts g l = Takes IsPart (g.R.Read.remaining l.initial.input) (g.R.Read.remaining l.input) [] l.line.items
