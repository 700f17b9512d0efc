use Rattle.std.specs.Char.{is_ascii_digit}
use Rattle.rt_sql.proofs.Runs.{run_front}
use Rattle.rt_sql.proofs.piece.number_length.Goals as goal

pub returns : goal.returns
returns c = run_front is_ascii_digit c.args.text.now c.run_length.result c.run_length.ensures
