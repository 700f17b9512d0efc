use Rattle.std.proofs.lemmas.Str.Pattern.{split_parts}
use Rattle.std.proofs.Common.{lit<}
use Rattle.rt_lines.proofs.Cut.{part_is}
use Rattle.rt_lines.proofs.words.parted.Goals as goal

pub returns : goal.returns
returns c = part_is c.args.text.now c.split_once.result
    (split_parts 32 c.args.text.now c.split_once.result c.split_once.ensures.cases (lit< tt))
