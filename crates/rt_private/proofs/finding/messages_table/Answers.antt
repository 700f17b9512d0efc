use Rattle.std.proofs.Common.{rules, tests, ◌&&◌, codes}
use Rattle.std.proofs.lemmas.Iterator.{YieldsList-from_slice}
use Rattle.std.proofs.lemmas.Iterator.Consumers.{YieldsList-from_enumerate}
use Rattle.std.proofs.lemmas.Iterator.Search.{find_from_yields_List}
use Rattle.std.specs.Str.{bytes_eq}
use Rattle.rt_private.proofs.finding.messages_table.Goals as goal

pub returns : goal.returns
returns c =
    find_from_yields_List
    (λ t. bytes_eq t.1.schema (codes "realtime") && bytes_eq t.1.name (codes "messages")) _ _ _ c.find.ensures.ran
    (YieldsList-from_enumerate (YieldsList-from_slice c.args.catalog.now.tables (cc)) (cc))
    (λ x b q k. search (rules, tests))
