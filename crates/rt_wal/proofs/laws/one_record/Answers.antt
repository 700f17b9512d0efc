use Rattle.rt_wal.proofs.OneRecord.{record_once, refused_once, record_or_refused, never_neither}
use Rattle.rt_wal.proofs.laws.one_record.Goals as goal

pub returns : goal.returns
returns c =
    record {
      one = record_once;
      reason = refused_once;
      apart = record_or_refused;
      some = never_neither;
    }
