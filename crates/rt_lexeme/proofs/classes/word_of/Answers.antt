use Rattle.std.proofs.Common.{refl, ◌∙◌}
use Rattle.std.specs.Str.{str_to_ascii_lowercase}
use Rattle.rt_policy.specs.Words.{words}
use Rattle.rt_lexeme.proofs.Among.{word_found}
use Rattle.rt_lexeme.proofs.classes.word_of.Goals as goal

pub returns : goal.returns
returns c = c.word_among.ensures ∙ word_found (str_to_ascii_lowercase c.args.bytes.now) words

pub slice_bounds-word_among-end : goal.slice_bounds-word_among-end
slice_bounds-word_among-end c = refl
