use Rattle.std.proofs.Common.{codes}
use Rattle.std.proofs.lemmas.Str.Pattern.{contains_text}
use Rattle.rt_form.proofs.lexing.has_comment.Goals as goal

pub returns : goal.returns
returns c = contains_text c.contains.result (codes "--") c.args.text.now c.contains.ensures.cases
