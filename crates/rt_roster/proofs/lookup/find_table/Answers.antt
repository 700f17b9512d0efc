use Rattle.std.proofs.Common.{rules, tests}
use Rattle.std.proofs.lemmas.Iterator.{YieldsList-from_slice}
use Rattle.std.proofs.lemmas.Iterator.Consumers.{YieldsList-from_enumerate}
use Rattle.std.proofs.lemmas.Iterator.Search.{find_from_yields_List}
use Rattle.rt_roster.specs.Meant.{is_named}
use Rattle.rt_roster.proofs.lookup.find_table.Goals as goal

pub returns : goal.returns
returns c =
    find_from_yields_List (is_named c.args.schema.now c.args.name.now) _ _ _ c.find.ensures.ran
    (YieldsList-from_enumerate (YieldsList-from_slice c.args.catalog.now.tables (cc)) (cc)) (λ x b q k. search (rules, tests))
