-- The table that an EXISTS reads, as it is lent.
use Rattle.rt_policy.specs.declared.lookup.InnerTable.{InnerTable}
use Rattle.rt_policy.specs.Resolution.{Reading}

abbrev pub reading_at : InnerTable → Reading
reading_at t = record { number = t.number; table = t.table.now; qualifier = t.qualifier.now }
