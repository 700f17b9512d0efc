use Rattle.rt_json.proofs.One.{bad_once, deep_once, not_both, bad_tree, deep_tree, has_answer}
use Rattle.rt_json.proofs.reading.one_fault.Goals as goal

pub returns : goal.returns
returns c = record { bad = bad_once; deep = deep_once; either = not_both; bad_no_tree = bad_tree; deep_no_tree = deep_tree; some = has_answer }
