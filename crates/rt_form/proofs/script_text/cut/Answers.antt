use Rattle.std.proofs.lemmas.Str.Pattern.{split_parts}
use Rattle.rt_form.proofs.Lists.{cuts_at}
use Rattle.rt_form.proofs.script_text.cut.Goals as goal

pub returns : goal.returns
returns c = cuts_at c.args.byte c.args.text.now c.split_once.result
    (split_parts c.args.byte c.args.text.now c.split_once.result c.split_once.ensures.cases c.requires)
