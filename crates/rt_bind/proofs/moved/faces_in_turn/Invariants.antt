use Rattle.std.proofs.Common.{◌≡◌}
use Rattle.rt_bind.specs.Straight.{faces_in_turn}
use Rattle.rt_bind.proofs.moved.faces_in_turn.Given as goal

-- the faces are those of the fields so far
abbrev pub invariant-loop-field : goal.invariant-loop-field
invariant-loop-field l = l.faces.items ≡ faces_in_turn l.columns l.yielded
