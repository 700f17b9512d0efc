use Rattle.rt_value.proofs.TableRows.{table_rises, row_at_table}
use Rattle.rt_value.proofs.laws.rows_after_edits.Goals as goal

pub returns : goal.returns
returns c = record { rising = table_rises; at_key = row_at_table }
