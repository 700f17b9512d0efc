use Rattle.std.proofs.Common.{rules, tests}
use Rattle.std.proofs.lemmas.Iterator.{YieldsList-from_slice}
use Rattle.std.proofs.lemmas.Iterator.Consumers.{YieldsList-from_enumerate}
use Rattle.std.proofs.lemmas.Iterator.Search.{find_from_yields_List}
use Rattle.std.specs.Str.{bytes_eq}
use Rattle.rt_roster.proofs.lookup.find_role.Goals as goal

pub returns : goal.returns
returns c =
    find_from_yields_List (λ p. bytes_eq p.1.name c.args.name.now) _ _ _ c.find.ensures.ran
    (YieldsList-from_enumerate (YieldsList-from_slice c.args.catalog.now.roles (cc)) (cc)) (λ x b q k. search (rules, tests))
