use Rattle.rt_phx.proofs.Spelling.{Again, list_again, object_again}
use Rattle.rt_phx.proofs.encoding.encoded_again.Goals as goal

pub returns : goal.returns
returns c =
    let again : Again = record { read = c.written_again.ensures } in
    record { second = list_again again; first = object_again again }
