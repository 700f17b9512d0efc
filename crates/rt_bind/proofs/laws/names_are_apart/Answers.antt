use Rattle.rt_bind.proofs.ReadNames.{records_apart, catalogues_apart, fields_found}
use Rattle.rt_bind.proofs.laws.names_are_apart.Goals as goal

pub returns : goal.returns
returns c = record { records = records_apart; catalogues = catalogues_apart; found = fields_found }
