use Rattle.rt_json.proofs.Runs.{IsAt}
use Rattle.rt_json.proofs.text.broken.Given as goal

abbrev pub invariant-loop-at : goal.invariant-loop-at
invariant-loop-at l = IsAt l.run l.at l.wanted
