-- What a list of parts keeps, for the searches in it.
use Rattle.std.specs.Prelude.{◌<◌, List, length, flat_map, All}
use Rattle.std.specs.declared.cmp.Ordering.{Ordering}
use Rattle.rt_ptree.specs.Entries.{IsRising}

-- a list of parts, each fit, and at least one, whose entries rise from each part to the next
pub record IsOrderly {K V C : Type 0} (cmp : K → K → Ordering) (entries : C → List (K × V)) (fit : C → Type 0) (parts : List C) : Type 0 where
  pub some : 0 < length parts
  pub fits : All fit parts
  pub rising : IsRising cmp (flat_map entries parts)
