use Rattle.std.proofs.Common.{suc}
use Rattle.rt_json.proofs.Back.{json_written}
use Rattle.rt_entry.specs.Readable.{payload_levels}
use Rattle.rt_laws.proofs.Read.{opening_readers, readers_agree}
use Rattle.rt_laws.proofs.presence.readers_agree.Goals as goal

pub returns : goal.returns
returns k = record {
  each = λ c s. opening_readers c s (record { text = json_written (suc payload_levels) });
  last = λ c s. readers_agree c s (record { text = json_written (suc payload_levels) });
}
