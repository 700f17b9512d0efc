use Rattle.rt_catalog.proofs.Keeping.{grants_named, memberships_named, by_name}
use Rattle.rt_catalog.proofs.Sounding.{lists_sound}
use Rattle.rt_catalog.proofs.laws.rows_are_kept.Goals as goal

pub returns : goal.returns
returns c = record { grants = grants_named; memberships = memberships_named; by_name = λ file l rows e. by_name l (lists_sound file l e) rows }
