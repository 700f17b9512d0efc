-- What is asked in code, and numbers of 32 bits.
use Rattle.std.specs.Prelude.{◌≤◌, ◌^◌, length}
use Rattle.std.specs.List.{AllByRecursion}
use Rattle.rt_catalog.specs.declared.catalog.Catalog.{Catalog}
use Rattle.rt_private.specs.declared.asked.Asked.{Asked}
use Rattle.rt_private.specs.declared.asked.Asked.TheVariants.{Join, Presence, Send, Track}
use Rattle.rt_private.specs.Rights.{Use, join, presence, send, track}

abbrev pub use_of : Asked → Use
use_of Join = join
use_of Presence = presence
use_of Send = send
use_of Track = track

-- tables, and the columns of each, are few enough to be named by numbers of 32 bits
pub record IsNumbered (c : Catalog) : Type 0 where
  pub tables : length c.tables ≤ 2 ^ 32
  pub columns : AllByRecursion (λ t. length t.columns ≤ 2 ^ 32) c.tables
