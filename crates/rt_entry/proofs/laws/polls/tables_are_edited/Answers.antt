use Rattle.rt_entry.proofs.Edited.{tables_edited, rows_counted, tables_counted}
use Rattle.rt_entry.proofs.laws.polls.tables_are_edited.Goals as goal

pub returns : goal.returns
returns c = record { edited = tables_edited; rows = rows_counted; number = tables_counted }
