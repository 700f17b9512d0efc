use Rattle.std.proofs.Common.{lit<}
use Rattle.std.proofs.lemmas.Str.Pattern.{contains_char}
use Rattle.rt_form.proofs.Lists.{lacks_or_has}
use Rattle.rt_form.proofs.script_text.has_backslash.Goals as goal

pub returns : goal.returns
returns c = lacks_or_has 92 c.args.text.now c.contains.result
    (contains_char 92 c.args.text.now c.contains.result c.contains.ensures.cases (lit< tt))
