-- What the slot of the first path is given: the reply to its join, the system's message, the change.
use Rattle.std.specs.Prelude.{List, [], ◌∷◌}
use Rattle.rt_json.specs.declared.tree.Json.{Json}
use Rattle.rt_form.specs.Messages.{join_reply, subscribed, change}
use Rattle.rt_form.specs.declared.catalogue.Catalogue.{Catalogue}
use Rattle.rt_form.specs.declared.script.Script.{Script}

abbrev pub given : Catalogue → Script → List Json
given catalogue script =
    join_reply script.join.topic script.join.reference catalogue.table.name
    ∷ subscribed script.join.topic script.join.channel
    ∷ change script.join.topic catalogue.table script.row
    ∷ []
