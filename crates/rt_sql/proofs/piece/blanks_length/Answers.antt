use Rattle.rt_sql.specs.Piece.{is_blank}
use Rattle.rt_sql.proofs.Runs.{run_front}
use Rattle.rt_sql.proofs.piece.blanks_length.Goals as goal

pub returns : goal.returns
returns c = run_front is_blank c.args.text.now c.run_length.result c.run_length.ensures
