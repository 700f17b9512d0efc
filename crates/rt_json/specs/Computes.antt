-- Names whose bodies a worked example computes with: `unfolding json_computes` opens them all.
use Rattle.rt_json.specs.declared.tree.Json.TheBlock.{shape-the_row-Json-0, hidden-the_row-Json-0, shape-the_row-Member-1, hidden-the_row-Member-1}
use Rattle.rt_json.specs.Machine.{class_of, lead, tree_of}
use Rattle.rt_json.specs.Written.{written_byte}

unfoldable pub json_computes : Unit {0}
unfolding class_of lead tree_of written_byte lib.Utf8.encode shape-the_row-Json-0 hidden-the_row-Json-0 shape-the_row-Member-1 hidden-the_row-Member-1 denote.Hole.Carrier.hidden
json_computes = tt
