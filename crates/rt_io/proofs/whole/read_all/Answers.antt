use Rattle.rt_io.proofs.Steps.{kept_front}
use Rattle.rt_io.proofs.whole.read_all.Goals as goal

pub returns-then-count-limit-clause-taken : goal.returns-then-count-limit-clause-taken
returns-then-count-limit-clause-taken g c = kept_front _ _ _ _ _ _ c.loop-bytes.invariant.kept
    c.in-Bytes.ensures.bytes.1

pub returns-in_err-extend_from_slice-in-Bytes-clause-taken : goal.returns-in_err-extend_from_slice-in-Bytes-clause-taken
returns-in_err-extend_from_slice-in-Bytes-clause-taken g c = kept_front _ _ _ _ _ _ c.loop-bytes.invariant.kept
    c.in-Bytes.ensures.bytes.1
