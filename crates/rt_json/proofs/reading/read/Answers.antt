use Rattle.rt_json.proofs.Faults.{tree_is, bad_is, deep_is, same_tree, computed_tree, computed_bad, computed_deep}
use Rattle.rt_json.proofs.One.{bad_once, deep_once, not_both, bad_tree, deep_tree}
use Rattle.rt_json.proofs.reading.read.Goals as goal

pub returns-in-Ok : goal.returns-in-Ok
returns-in-Ok c =
    let bytes = c.args.bytes.now in
    let e = c.in-Ok.ensures in
    let j = tree_is bytes c.in-Ok.tree e in
    record {
      found = j;
      fault = tt;
      only = same_tree bytes c.in-Ok.tree e;
      bad = λ at b. bad_tree bytes at c.in-Ok.tree b j;
      deep = λ at d. deep_tree bytes at c.in-Ok.tree d j;
      computed = computed_tree bytes c.in-Ok.tree e;
    }

pub overflow_sub-result : goal.overflow_sub-result
overflow_sub-result c = (bad_is c.args.bytes.now c.in-Err-Bad.left (rw c.in-Err-Bad.field-0-is at c.in-Err-Bad.ensures)).0

pub overflow_sub-result-in-Err-TooDeep : goal.overflow_sub-result-in-Err-TooDeep
overflow_sub-result-in-Err-TooDeep c = (deep_is c.args.bytes.now c.in-Err-TooDeep.left (rw c.in-Err-TooDeep.field-0-is at c.in-Err-TooDeep.ensures)).0

pub returns-in-Err-Bad : goal.returns-in-Err-Bad
returns-in-Err-Bad c =
    let bytes = c.args.bytes.now in
    let e = rw c.in-Err-Bad.field-0-is at c.in-Err-Bad.ensures in
    let b = (bad_is bytes c.in-Err-Bad.left e).1 in
    record {
      found = tt;
      fault = b;
      only = λ tree j. bad_tree bytes _ tree b j;
      bad = λ at other. bad_once bytes _ at b other;
      deep = λ at other. not_both bytes _ at b other;
      computed = computed_bad bytes c.in-Err-Bad.left e;
    }

pub returns-in-Err-TooDeep : goal.returns-in-Err-TooDeep
returns-in-Err-TooDeep c =
    let bytes = c.args.bytes.now in
    let e = rw c.in-Err-TooDeep.field-0-is at c.in-Err-TooDeep.ensures in
    let d = (deep_is bytes c.in-Err-TooDeep.left e).1 in
    record {
      found = tt;
      fault = d;
      only = λ tree j. deep_tree bytes _ tree d j;
      bad = λ at other. not_both bytes at _ other d;
      deep = λ at other. deep_once bytes _ at d other;
      computed = computed_deep bytes c.in-Err-TooDeep.left e;
    }
