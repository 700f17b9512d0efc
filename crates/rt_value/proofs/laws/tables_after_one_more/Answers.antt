use Rattle.rt_value.proofs.TablesAfter.{edited_table, other_table}
use Rattle.rt_value.proofs.laws.tables_after_one_more.Goals as goal

pub returns : goal.returns
returns c = record { edited = edited_table; others = other_table }
