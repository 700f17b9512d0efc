use Rattle.std.proofs.Common.{◌≡◌, drop}
use Rattle.std.specs.Str.{str_to_ascii_lowercase}
use Rattle.rt_lexeme.specs.Among.{word_among}
use Rattle.rt_lexeme.proofs.classes.word_among.Given as goal

abbrev pub invariant-loop-word : goal.invariant-loop-word
invariant-loop-word l =
    word_among (str_to_ascii_lowercase l.bytes) (drop l.word-index l.words)
    ≡ word_among (str_to_ascii_lowercase l.bytes) l.words
