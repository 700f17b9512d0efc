use Rattle.rt_script.proofs.OneScript.{script_once, bad_line_once, script_apart, script_some}
use Rattle.rt_script.proofs.laws.one_script.Goals as goal

pub returns : goal.returns
returns c =
    record {
      one = script_once;
      bad = bad_line_once;
      apart = script_apart;
      some = script_some;
    }
