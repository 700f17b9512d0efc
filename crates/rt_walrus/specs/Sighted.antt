-- A role that looks at a table.
use Rattle.std.specs.Prelude.{ℕ}
use Rattle.rt_catalog.specs.declared.catalog.Catalog.{Catalog}

pub record Sighted : Type 0 where
  pub catalog : Catalog
  pub role : ℕ
  pub table : ℕ
